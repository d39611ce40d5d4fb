-- The words of a type with few values.
use Rattle.std.specs.Prelude.{◌≡◌, ℕ, List, Some, All, find, option_map}
use Rattle.std.specs.Borrow.{Bor}
use Rattle.std.specs.Str.{bytes_eq}

-- each value stands behind its own word
abbrev pub WordsOf : {X : Type 0} → (X → List ℕ) → List (Bor (List ℕ) × X) → Type 0
WordsOf spelled xs = All (λ p. p.0.now ≡ spelled p.1) xs

-- each value is in the list, and the first there that stands behind its word
abbrev pub FindsEach : {X : Type 0} → (X → List ℕ) → List (Bor (List ℕ) × X) → Type 0
FindsEach {X} spelled xs = (x : X) → option_map (λ p. p.1) (find (λ p. bytes_eq p.0.now (spelled x)) xs) ≡ Some x
