-- What bars a whole node, and what refuses its keys, is no want of an entry place.
use Rattle.std.proofs.Common.{◌≡◌, ℕ, suc, ◌+◌, ◌-◌, ◌≤◌, Bool, true, List, [], ◌∷◌, ◌++◌, length, Some, None as Nothing, Ok, Err, Option, Result, arith}
use Rattle.std.proofs.lemmas.Bool.{cond_both}
use Rattle.records.specs.declared.options.MergeKeyPolicy.{MergeKeyPolicy}
use Rattle.records.specs.declared.options.DuplicateKeyPolicy.{DuplicateKeyPolicy}
use Rattle.records.specs.declared.record.Event.{Event}
use Rattle.records.specs.declared.refusal.Reason.{Reason}
use Rattle.records.specs.declared.refusal.Reason.TheVariants.{EntriesFull}
use Rattle.records.specs.declared.refusal.Refusal.{Refusal}
use Rattle.nodes.specs.Tree.{Mark, Node, Nodes, Pairs, size, whole, wholes, wholep}
use Rattle.nodes.specs.Tree.Node.{scalar, alias, seq, dict, cut}
use Rattle.nodes.specs.Tree.Nodes.{none, more}
use Rattle.nodes.specs.Tree.Pairs.{done, pair}
use Rattle.nodes.specs.Reading.{Limits, Bar, bars, barss, barsp}
use Rattle.nodes.specs.Fields.{Item, has_key}
use Rattle.nodes.specs.Repeats.{firsts, lasts, kept_by}
use Rattle.nodes.specs.Collect.{Stop, Stand, captured, slot_for, place_for, start_for, unknown_at}

abbrev pub Other : Reason → Type 0
Other why = why ≡ EntriesFull → ⊥

abbrev Passable : Option Bar → Type 0
Passable Nothing = Unit {0}
Passable (Some b) = Other b.why.reason

abbrev pub Unfull : Option Stop → Type 0
Unfull Nothing = Unit {0}
Unfull (Some s) = Other s.why.reason

module _ (l : Limits) where
  mutual
    bars-asked : (d i : ℕ) (t : Node) → whole t ≡ true → Passable (bars l d i t)
    bars-asked d i (scalar k x) w = grind arith
    bars-asked d i (alias k a) w = grind arith
    bars-asked d i (seq k h ns) w = grind (arith, barss-asked (d - 1) (i + 1) ns w)
    bars-asked d i (dict k h ps) w = grind (arith, barsp-asked (d - 1) (i + 1) ps w)
    bars-asked d i (cut c) w = cc

    barss-asked : (d i : ℕ) (ns : Nodes) → wholes ns ≡ true → Passable (barss l d i ns)
    barss-asked d i (none k) w = grind arith
    barss-asked d i (more n ns) w = grind (arith, bars-asked d i n, barss-asked d (i + size n) ns)

    barsp-asked : (d i : ℕ) (ps : Pairs) → wholep ps ≡ true → Passable (barsp l d i ps)
    barsp-asked d i (done k) w = grind arith
    barsp-asked d i (pair k v ps) w = grind (arith, bars-asked d i k, bars-asked d (i + size k) v, barsp-asked d (i + size k + size v) ps)

pub unfull_captured : (looked : Bool) (s : Stand) (i : ℕ) (t : Node) → whole t ≡ true → Unfull (captured looked s i t)
unfull_captured looked s i t w = grind (arith, bars-asked)

pub unfull_slot : (s : Stand) (i : ℕ) (k : Mark) → Unfull (slot_for s i k)
unfull_slot s i k = grind arith

pub unfull_place : (s : Stand) (i : ℕ) (k : Mark) (e : Event) → Unfull (place_for s i k e)
unfull_place s i k e = grind arith

pub unfull_start : (s : Stand) (i : ℕ) (k : Mark) (e : Event) → Unfull (start_for s i k e)
unfull_start s i k e = grind arith

pub unfull_unknown : (defers : Bool) (ks : List ℕ) (i : ℕ) (t : Node) → Unfull (unknown_at defers ks i t)
unfull_unknown defers ks i t = grind arith

-- the policies keep no more fields than there are
abbrev pub Keeps : ℕ → Result (List Item) Refusal → Type 0
Keeps n (Ok es) = length es ≤ n
Keeps n (Err e) = Other e.reason

firsts_few : (text : List ℕ) (seen es : List Item) → length (firsts text seen es) ≤ length es
firsts_few text seen [] = omega arith
firsts_few text seen (e ∷ es) = let h = firsts_few text (seen ++ e ∷ []) es in cond_both (has_key text e seen) _ _ (λ x. length x ≤ suc (length es)) (λ p. omega arith) (λ p. omega arith)

lasts_few : (text : List ℕ) (es : List Item) → length (lasts text es) ≤ length es
lasts_few text [] = omega arith
lasts_few text (e ∷ es) = let h = lasts_few text es in cond_both (has_key text e es) _ _ (λ x. length x ≤ suc (length es)) (λ p. omega arith) (λ p. omega arith)

pub keeps : (p : DuplicateKeyPolicy) (m : MergeKeyPolicy) (text : List ℕ) (es : List Item) → Keeps (length es) (kept_by p m text es)
keeps p m text es = grind (arith, firsts_few text [] es, lasts_few text es)
