-- The radix that the prefix of a number names. Past the end of a text stands 0, which is in no prefix.
use Rattle.std.specs.Prelude.{ℕ, cond, ◌||◌, List, drop, ◌==◌, slice_index}

-- what a letter after a zero names: x, o or b, small or a capital; and ten for any other byte
abbrev pub lettered : ℕ → ℕ
lettered b = cond (b == 120 || b == 88) 16 (cond (b == 111 || b == 79) 8 (cond (b == 98 || b == 66) 2 10))

abbrev pub radix_of : List ℕ → ℕ
radix_of text = cond (slice_index text 0 == 48) (lettered (slice_index text 1)) 10

-- ten has no prefix, and each other radix one of two bytes
abbrev pub digits_of : List ℕ → List ℕ
digits_of text = cond (radix_of text == 10) text (drop 2 text)
