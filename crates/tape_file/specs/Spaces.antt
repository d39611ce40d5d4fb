-- A line and its words: one blank stands between two words, and none at the ends.
use Rattle.std.specs.Prelude.{ℕ, List, ◌==◌}
use Rattle.std.specs.List.{join_with_byte, slice_split}

-- the line that words make
abbrev pub spaced : List (List ℕ) → List ℕ
spaced ws = join_with_byte 32 ws

-- a line cut at each of its blanks
unfoldable pub split : List ℕ → List (List ℕ)
split line = slice_split (λ b. b == 32) line
