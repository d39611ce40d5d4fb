-- A sign at the front of a text. Past the end of a text stands 0, which is no sign.
use Rattle.std.specs.Prelude.{ℕ, Bool, cond, ◌||◌, List, drop, ◌==◌, slice_index}

abbrev pub is_minus : List ℕ → Bool
is_minus text = slice_index text 0 == 45

abbrev pub unsigned : List ℕ → List ℕ
unsigned text = cond (slice_index text 0 == 43 || slice_index text 0 == 45) (drop 1 text) text
