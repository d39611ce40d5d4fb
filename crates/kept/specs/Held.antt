-- What a kept list holds, and how much it can hold.
use Rattle.std.specs.Prelude.{ℕ, ◌+◌, List, length}

-- the elements, in the order in which they came, and how many more there are places for
pub record Held (T : Type 0) : Type 0 where
  pub elements : List T
  pub spare : ℕ

-- how many places the lent slice has
abbrev pub room_of : {T : Type 0} → Held T → ℕ
room_of k = length k.elements + k.spare
