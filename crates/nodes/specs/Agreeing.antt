-- Collecting from a source, and collecting what was captured from it, agree. Keys are unique where the policy says so.
use Rattle.std.specs.Prelude.{◌≡◌, Bool, true, false, List, ◌∷◌, ◌++◌, None as Nothing, Ok, Err, Result}
use Rattle.records.specs.declared.location.Location.{Location}
use Rattle.records.specs.declared.options.DuplicateKeyPolicy.TheVariants.{Error}
use Rattle.records.specs.declared.refusal.Refusal.{Refusal}
use Rattle.nodes.specs.Tree.{Node}
use Rattle.nodes.specs.Reading.{Limits, barred}
use Rattle.nodes.specs.Fields.{Rules, Basis, Item}
use Rattle.nodes.specs.Fields.Basis.{direct}
use Rattle.nodes.specs.Repeats.{Distinct}
use Rattle.nodes.specs.Collect.{Stop, Stand, collected}
use Rattle.nodes.specs.Collect.Stand.{held, live}

-- what was answered, without what it left on the source
abbrev pub answer : {B : Type 0} → Result B Stop → Result B Refusal
answer (Ok x) = Ok x
answer (Err s) = Err s.why

-- Where a node can be captured, it makes no difference whether it is collected as it comes, or captured and then
-- collected: the fields are the same, or the refusal is.
abbrev pub CollectionsAgree : Type 0
CollectionsAgree = (R : Rules) (l : Limits) (b : Basis) (missing : Refusal) (t : Node) → barred l t ≡ Nothing
    → answer (collected R b (live l l.deep) false missing t) ≡ answer (collected R b held false missing t)

-- What is collected is the mapping's own fields and then the merged ones; under the policy Error no two of its own keys
-- are alike.
abbrev pub KeysAreUnique : Type 0
KeysAreUnique = (R : Rules) (l : Location) (s : Stand) (defers : Bool) (missing : Refusal) (t : Node) (es : List Item)
    → collected R (direct l) s defers missing t ≡ Ok es
    → (own : List Item) × (brought : List Item) × (es ≡ own ++ brought)
    × ((a b : List Item) (e : Item) → own ≡ a ++ e ∷ b → e.merged ≡ false) × ((a b : List Item) (e : Item) → brought ≡ a ++ e ∷ b → e.merged ≡ true)
    × (R.repeats ≡ Error → Distinct R.text own)
