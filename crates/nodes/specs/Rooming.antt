-- The number of entry places only limits what is collected.
use Rattle.std.specs.Prelude.{◌≡◌, ℕ, ◌≤◌, Bool, true, ◌⊎◌, List, length, Ok, Err, Result}
use Rattle.records.specs.declared.refusal.Reason.TheVariants.{EntriesFull}
use Rattle.records.specs.declared.refusal.Refusal.{Refusal}
use Rattle.nodes.specs.Tree.{Node, size, whole}
use Rattle.nodes.specs.Fields.{Rules, Basis, Item}
use Rattle.nodes.specs.Collect.{Stop, Stand, collected}

-- the same rules with another number of entry places
abbrev pub with_places : ℕ → Rules → Rules
with_places p R = record { merges = R.merges; repeats = R.repeats; anchors = R.anchors; text = R.text; places = p }

-- a refusal for want of an entry place
abbrev pub Full : {B : Type 0} → Result B Stop → Type 0
Full (Ok x) = ⊥
Full (Err s) = s.why.reason ≡ EntriesFull

-- With more places the answer is the same, unless the fewer were full; no more fields are collected than there are
-- places; as many places as a whole node has records are never full.
abbrev pub PlacesOnlyLimit : Type 0
PlacesOnlyLimit = (R : Rules) (p : ℕ) (b : Basis) (s : Stand) (defers : Bool) (missing : Refusal) (t : Node)
    → ((q : ℕ) → p ≤ q → Full (collected (with_places p R) b s defers missing t) ⊎ (collected (with_places p R) b s defers missing t ≡ collected (with_places q R) b s defers missing t))
    × ((es : List Item) → collected (with_places p R) b s defers missing t ≡ Ok es → length es ≤ p)
    × (whole t ≡ true → size t ≤ p → Full (collected (with_places p R) b s defers missing t) → ⊥)
