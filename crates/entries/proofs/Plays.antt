-- An entry plays one field, and goes on playing it when more slots are filled.
use Rattle.std.proofs.Common.{◌≡◌, ℕ, ◌<◌, ◌≤◌, List, [], ◌∷◌, ◌++◌, length, sym, ap, ◌∙◌, append_assoc, arith}
use lib.Seq.{drop-append-le}
use Rattle.std.proofs.lemmas.List.{length-drop}
use Rattle.records.specs.declared.record.Record.{Record}
use Rattle.nodes.specs.Tree.{Node, flat}
use Rattle.nodes.specs.Fields.{Item}
use Rattle.nodes.proofs.Flats.{flat_append, size_flat, size_some}
use Rattle.nodes.proofs.Readings.{unique_reading}
use Rattle.entries.specs.declared.entry.PendingEntry.{PendingEntry}
use Rattle.entries.specs.Playing.{Names, Plays, node_of_key, EntriesPlayOne, EntriesStay}

pub names_one : (slots : List Record) (i : ℕ) (t u : Node) → Names slots i t → Names slots i u → t ≡ u
names_one slots i t u m n = (unique_reading t u m.rest n.rest m.unbroken n.unbroken (sym m.is ∙ n.is)).0

pub names_within : (slots : List Record) (i : ℕ) (t : Node) → Names slots i t → i < length slots
names_within slots i t n =
    let l = ap length n.is in
    let m = size_flat t n.rest n.unbroken in
    let p = size_some t n.unbroken in
    let d = length-drop i slots in
    omega arith

pub names_stay : (slots more : List Record) (i : ℕ) (t : Node) → Names slots i t → Names (slots ++ more) i t
names_stay slots more i t n =
    let h : i ≤ length slots = omega (arith, names_within slots i t n) in
    record {
      unbroken = n.unbroken;
      rest = n.rest ++ more;
      is = drop-append-le i slots more h ∙ ap (λ l. l ++ more) (n.is ∙ flat_append t n.rest n.unbroken) ∙ append_assoc (flat t []) n.rest more ∙ sym (flat_append t (n.rest ++ more) n.unbroken);
    }

item_same : (x y : Item) → x.key ≡ y.key → x.value ≡ y.value → x.reference ≡ y.reference → x.merged ≡ y.merged → x ≡ y
item_same x y k v r m = λ i. record { key = k i; value = v i; reference = r i; merged = m i }

pub entries_play_one : EntriesPlayOne
entries_play_one slots e x y p q =
    item_same x y
    (p.key_is ∙ ap (node_of_key e.key) (names_one slots e.key.slot p.key_node q.key_node p.key_names q.key_names) ∙ sym q.key_is)
    (names_one slots e.value x.value y.value p.value_names q.value_names)
    (sym p.reference_is ∙ q.reference_is)
    (sym p.merged_is ∙ q.merged_is)

pub plays_stay : (slots more : List Record) (e : PendingEntry) (x : Item) → Plays slots e x → Plays (slots ++ more) e x
plays_stay slots more e x p =
    record {
      key_node = p.key_node;
      key_names = names_stay slots more e.key.slot p.key_node p.key_names;
      key_is = p.key_is;
      value_names = names_stay slots more e.value x.value p.value_names;
      reference_is = p.reference_is;
      merged_is = p.merged_is;
    }

pub entries_stay : EntriesStay
entries_stay slots more [] [] h = tt
entries_stay slots more [] (x ∷ xs) h = h
entries_stay slots more (e ∷ es) [] h = h
entries_stay slots more (e ∷ es) (x ∷ xs) h = (plays_stay slots more e x h.0, entries_stay slots more es xs h.1)
