-- What an entry plays, over the slots that are filled.
use Rattle.std.specs.Prelude.{◌≡◌, ℕ, true, not, List, ◌++◌, drop}
use Rattle.std.specs.List.{AllZip}
use Rattle.records.specs.declared.record.Record.{Record}
use Rattle.nodes.specs.Tree.{Node, flat, whole}
use Rattle.nodes.specs.Fields.{Item, resolved, own, is_merged}
use Rattle.entries.specs.declared.entry.Key.{Key}
use Rattle.entries.specs.declared.entry.PendingEntry.{PendingEntry}
use Rattle.entries.specs.Stands.{basis_of}

-- a whole node begins at slot i
pub record Names (slots : List Record) (i : ℕ) (t : Node) : Type 0 where
  pub unbroken : whole t ≡ true
  pub rest : List Record
  pub is : drop i slots ≡ flat t rest

-- a key whose slot begins the node t: a marked alias counts as the null that it was read as
abbrev pub node_of_key : Key → Node → Node
node_of_key k t = resolved (not k.marked) t

-- the entry plays the field: its key and its value begin where it says, and the rest agrees
pub record Plays (slots : List Record) (e : PendingEntry) (x : Item) : Type 0 where
  pub key_node : Node
  pub key_names : Names slots e.key.slot key_node
  pub key_is : x.key ≡ node_of_key e.key key_node
  pub value_names : Names slots e.value x.value
  pub reference_is : own (basis_of e.basis) ≡ x.reference
  pub merged_is : is_merged (basis_of e.basis) ≡ x.merged

-- as many entries as fields, and they play them place by place
abbrev pub AllPlay : List Record → List PendingEntry → List Item → Type 0
AllPlay slots es xs = AllZip (Plays slots) es xs

abbrev pub EntriesPlayOne : Type 0
EntriesPlayOne = (slots : List Record) (e : PendingEntry) (x y : Item) → Plays slots e x → Plays slots e y → x ≡ y

abbrev pub EntriesStay : Type 0
EntriesStay = (slots more : List Record) (es : List PendingEntry) (xs : List Item) → AllPlay slots es xs → AllPlay (slots ++ more) es xs
