-- What collecting asks of single nodes, and the fields that it gives.
use Rattle.std.specs.Prelude.{ℕ, Bool, true, false, cond, not, ◌&&◌, ◌||◌, List, Some, None as Nothing, codes, Option}
use Rattle.std.specs.List.{list_any}
use Rattle.std.specs.Option.{option_or}
use Rattle.records.specs.declared.location.Location.{Location}
use Rattle.records.specs.declared.location.NodeOrigin.{NodeOrigin}
use Rattle.records.specs.declared.location.NodeOrigin.TheVariants.{Direct, Alias, Merge}
use Rattle.records.specs.declared.options.MergeKeyPolicy.{MergeKeyPolicy}
use Rattle.records.specs.declared.options.DuplicateKeyPolicy.{DuplicateKeyPolicy}
use Rattle.records.specs.declared.record.Place.{Place}
use Rattle.records.specs.declared.record.ScalarStyle.TheVariants.{Plain}
use Rattle.records.specs.declared.tags.SfTag.TheVariants.{None, Null, Binary, Merge as MergeTag}
use Rattle.records.specs.Tags.{core, forced, stringy, same_tag}
use Rattle.records.specs.Blank.{unknown}
use Rattle.scalars.specs.Typed.{plain}
use Rattle.scalars.specs.Computed.{null_text, equal_bytes}
use Rattle.events.specs.Meaning.{refers}
use Rattle.events.specs.View.{bytes_at}
use Rattle.nodes.specs.Tree.{Mark, Text, Cut, Node, Nodes, Pairs}
use Rattle.nodes.specs.Tree.Cut.{ended, stray}
use Rattle.nodes.specs.Tree.Node.{scalar, alias, seq, dict, cut}
use Rattle.nodes.specs.Tree.Nodes.{none, more}
use Rattle.nodes.specs.Tree.Pairs.{done, pair}
use Rattle.nodes.specs.Prints.{print}
use Rattle.nodes.specs.Alike.{alike}

-- the policies, the known anchors, the bytes of the text, and how many entries there is room for
pub record Rules : Type 0 where
  pub merges : MergeKeyPolicy
  pub repeats : DuplicateKeyPolicy
  pub anchors : List ℕ
  pub text : List ℕ
  pub places : ℕ

-- the scalar that a recursive alias is read as
abbrev pub null_for : ℕ → Text
null_for a = record { head = record { anchor = a; tag = Null; raw = Nothing }; style = Plain; value = record { start = 0; len = 0 } }

-- a node with its recursive alias read as null, unless aliases are deferred
abbrev pub resolved : Bool → Node → Node
resolved defers (scalar k x) = scalar k x
resolved true (alias k a) = alias k a
resolved false (alias k a) = scalar k (null_for a)
resolved defers (seq k h ns) = seq k h ns
resolved defers (dict k h ps) = dict k h ps
resolved defers (cut c) = cut c

-- a merge key: the text << under the merge tag, or plain with no tag
abbrev pub merge_words : List ℕ → Text → Bool
merge_words text x = equal_bytes (bytes_at text x.value) (codes "<<") && (same_tag x.head.tag MergeTag || (same_tag x.head.tag None && plain x.style))

abbrev pub is_merge : List ℕ → Node → Bool
is_merge text (scalar k x) = merge_words text x
is_merge text (alias k a) = false
is_merge text (seq k h ns) = false
is_merge text (dict k h ps) = false
is_merge text (cut c) = false

-- a merge value that adds nothing: tagged null, or plain with a null text under a tag that leaves it to be read
abbrev pub null_words : List ℕ → Text → Bool
null_words text x =
    same_tag x.head.tag Null
    || (not (core x.head.tag) && (not (forced x.head.tag) && (not (same_tag x.head.tag Binary) && (plain x.style && null_text (bytes_at text x.value)))))

-- where a node stands, and why
abbrev pub cut_mark : Cut → Mark
cut_mark ended = record { location = unknown; origin = Direct }
cut_mark (stray k e r) = k

abbrev pub mark : Node → Mark
mark (scalar k x) = k
mark (alias k a) = k
mark (seq k h ns) = k
mark (dict k h ps) = k
mark (cut c) = cut_mark c

abbrev pub place : Node → Location
place t = (mark t).location

-- what a collection refers to: in one of a mapping itself a reference of its own, in an expansion the merge value's
pub data Basis : Type 0 where
  direct : Location → Basis
  expansion : Location → Basis

abbrev pub own : Basis → Location
own (direct l) = l
own (expansion l) = l

abbrev pub is_merged : Basis → Bool
is_merged (direct l) = false
is_merged (expansion l) = true

-- the reference of a merge value or of an element of one: in an expansion, the alias by which it came or else the
-- expansion's own; elsewhere where its origin points, or where it stands itself
abbrev pub alias_or : Location → NodeOrigin → Location
alias_or l Direct = l
alias_or l (Alias a) = a
alias_or l (Merge m) = l

abbrev pub reference_at : Basis → Node → Location
reference_at (direct l) t = refers (mark t).origin (place t)
reference_at (expansion l) t = alias_or l (mark t).origin

-- a field: its key, as it is read, its value, the reference, and whether it was merged
pub record Item : Type 0 where
  pub key : Node
  pub value : Node
  pub reference : Location
  pub merged : Bool

abbrev pub field_of : Basis → Bool → Node → Node → Item
field_of b defers k v = record { key = resolved defers k; value = v; reference = own b; merged = is_merged b }

-- keys are compared by their fingerprints
abbrev pub same_key : List ℕ → Item → Item → Bool
same_key text a b = alike (print text a.key) (print text b.key)

abbrev pub has_key : List ℕ → Item → List Item → Bool
has_key text k es = list_any (same_key text k) es

-- the text of a key for a message: of one scalar that may be read as text
abbrev pub key_text : Node → Option Place
key_text (scalar k x) = cond (stringy x.head.tag) (Some x.value) Nothing
key_text (alias k a) = Nothing
key_text (seq k h ns) = Nothing
key_text (dict k h ps) = Nothing
key_text (cut c) = Nothing

-- the first merge key inside a node, at any depth, in the order in which it is written
abbrev pub or_then : Option Location → Option Location → Option Location
or_then o p = option_or o p

abbrev mutual
  pub merge_in : List ℕ → Node → Option Location
  merge_in text (scalar k x) = Nothing
  merge_in text (alias k a) = Nothing
  merge_in text (seq k h ns) = merge_ins text ns
  merge_in text (dict k h ps) = merge_inp text ps
  merge_in text (cut c) = Nothing

  pub merge_ins : List ℕ → Nodes → Option Location
  merge_ins text (none k) = Nothing
  merge_ins text (more n ns) = or_then (merge_in text n) (merge_ins text ns)

  pub merge_inp : List ℕ → Pairs → Option Location
  merge_inp text (done k) = Nothing
  merge_inp text (pair k v ps) = cond (is_merge text k) (Some (place k)) (or_then (merge_in text k) (or_then (merge_in text v) (merge_inp text ps)))
