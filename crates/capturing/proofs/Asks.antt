-- The questions for an event, and the bar of the first that is answered with no.
use Rattle.std.proofs.Common.{◌≡◌, ℕ, ◌+◌, ◌-◌, ◌≤◌, Bool, true, false, cond, ltb, Some, None, Option, sym, refl, ap, arith}
use Rattle.std.proofs.lemmas.Grind.{common_steps}
use Rattle.records.specs.declared.refusal.Reason.{Reason}
use Rattle.records.specs.declared.refusal.Reason.TheVariants.{UnexpectedContainerEnd, RackFull, PlaceOutsideRackText, TooDeep}
use Rattle.records.specs.declared.record.Event.{Event}
use Rattle.records.specs.Places.{placed}
use Rattle.nodes.specs.Tree.{Mark}
use Rattle.nodes.specs.Reading.{Bar, or_else, bar_at, is_start}
use Rattle.capturing.specs.declared.path.Spot.{Spot}
use Rattle.capturing.specs.Paths.{misplaced, first_no, asked}

-- tests of the same numbers
pub ltb_less : (a b : ℕ) → ltb 0 (a - b) ≡ ltb b a
ltb_less a b = grind (arith, common_steps)

pub ltb_more : (f n k : ℕ) → f ≤ k → ltb (f + n) k ≡ ltb n (k - f)
ltb_more f n k h = grind (arith, common_steps)

-- an end that is out of place is refused as one, and of any other event the questions are asked
module _ (s : Spot) (free : Bool) (n : ℕ) (low : Bool) (e : Event) where
  abbrev chosen : Bool → Option Reason
  chosen b = cond b (Some UnexpectedContainerEnd) (first_no free (placed n e) (cond (is_start e) low true))

  pub asked_out : misplaced s e ≡ true → Some UnexpectedContainerEnd ≡ asked s free n low e
  asked_out h = ap chosen (sym h)

  pub asked_in : misplaced s e ≡ false → first_no free (placed n e) (cond (is_start e) low true) ≡ asked s free n low e
  asked_in h = ap chosen (sym h)

-- the bar of a reason, i events being taken
abbrev pub bar_by : Mark → ℕ → Option Reason → Option Bar
bar_by k i None = None
bar_by k i (Some why) = Some (bar_at why k i)

-- the questions for a start, for a scalar, and for what has no place
module _ (k : Mark) (i : ℕ) where
  pub asks_start : (free lies low : Bool) → or_else (cond free None (Some (bar_at RackFull k i))) (or_else (cond lies None (Some (bar_at PlaceOutsideRackText k i))) (cond low None (Some (bar_at TooDeep k i)))) ≡ bar_by k i (first_no free lies low)
  asks_start true true true = refl
  asks_start true true false = refl
  asks_start true false low = refl
  asks_start false lies low = refl

  pub asks_leaf : (free lies : Bool) → or_else (cond free None (Some (bar_at RackFull k i))) (cond lies None (Some (bar_at PlaceOutsideRackText k i))) ≡ bar_by k i (first_no free lies true)
  asks_leaf true true = refl
  asks_leaf true false = refl
  asks_leaf false lies = refl

  pub asks_slot : (free : Bool) → cond free None (Some (bar_at RackFull k i)) ≡ bar_by k i (first_no free true true)
  asks_slot true = refl
  asks_slot false = refl
