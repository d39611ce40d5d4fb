-- The first element of a list that passes a test.
use Rattle.std.specs.Prelude.{◌≡◌, ℕ, ◌<◌, Bool, true, false, cond, List, [], ◌∷◌, length, take, Some, None, Option, slice_index_or, position}
use Rattle.std.specs.List.{remove, AllByRecursion, list_any}

-- the list without the first element that passes
abbrev pub without : {X : Type 0} → (X → Bool) → List X → List X
without p [] = []
without p (x ∷ xs) = cond (p x) xs (x ∷ without p xs)

-- `First p xs i`: the element at `i` passes, and none before it does; `without` takes off that one
pub record First {X : Type 0} (p : X → Bool) (xs : List X) (i : ℕ) : Type 0 where
  pub below : i < length xs
  pub passes : (d : X) → p (slice_index_or xs i d) ≡ true
  pub before : AllByRecursion (λ x. p x ≡ false) (take i xs)
  pub found : list_any p xs ≡ true
  pub rest : without p xs ≡ remove xs i

-- `Missing p xs`: none passes, and `without` takes nothing off
pub record Missing {X : Type 0} (p : X → Bool) (xs : List X) : Type 0 where
  pub fails : AllByRecursion (λ x. p x ≡ false) xs
  pub found : list_any p xs ≡ false
  pub rest : without p xs ≡ xs

-- what a search answers
abbrev pub Finds : {X : Type 0} → (X → Bool) → List X → Option ℕ → Type 0
Finds p xs None = Missing p xs
Finds p xs (Some i) = First p xs i

-- of every element and every list
abbrev pub FindsFirst : {X : Type 0} → (X → X → Bool) → Type 0
FindsFirst {X} same = (x : X) (xs : List X) → Finds (same x) xs (position (same x) xs)
