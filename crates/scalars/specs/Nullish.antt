-- The texts that stand for null: the empty one, `~`, and `null` in any mix of capitals.
use Rattle.std.specs.Prelude.{◌≡◌, ℕ, ◌⊎◌, List, [], map, codes}
use Rattle.std.specs.Char.{to_ascii_lowercase}

abbrev pub Nullish : List ℕ → Type 0
Nullish text = (text ≡ []) ⊎ ((text ≡ codes "~") ⊎ (map to_ascii_lowercase text ≡ codes "null"))
