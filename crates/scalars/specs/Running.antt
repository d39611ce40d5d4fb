-- Digits read from the first to the last, one byte after another.
use Rattle.std.specs.Prelude.{ℕ, ◌+◌, ◌*◌, Bool, true, false, cond, List, fold, ◌==◌, nat_lt}
use Rattle.scalars.specs.Class.{class_of}

-- the number so far and whether a digit stands last, or nothing once the digits are refused
pub data State : Type 0 where
  so_far : ℕ → Bool → State
  lost : State

abbrev pub start : State
start = so_far 0 false

-- one more byte, of class d
abbrev pub advance : ℕ → ℕ → Bool → ℕ → State
advance radix v last d = cond (d == 16) (cond last (so_far v false) lost) (cond (nat_lt d radix) (so_far (v * radix + d) true) lost)

abbrev pub step : ℕ → State → ℕ → State
step radix lost b = lost
step radix (so_far v last) b = advance radix v last (class_of b)

abbrev pub run : ℕ → State → List ℕ → State
run radix s bs = fold (step radix) s bs
