-- When the elements of two lists pair off, as a relation, as a test and by counts.
use Rattle.std.specs.Prelude.{◌≡◌, Bool, true, false, ◌&&◌, ◌↔◌, List, [], ◌∷◌, count_by}
use Rattle.std.specs.List.{list_any}
use Rattle.kept.specs.Searching.{without}

-- `Pick same x ys rest`: an element equal to `x` stands in `ys`, and `rest` is `ys` without it
pub data Pick {X : Type 0} (same : X → X → Bool) (x : X) : List X → List X → Type 0 where
  here : {y : X} {ys : List X} → same x y ≡ true → Pick same x (y ∷ ys) ys
  there : {y : X} {ys rest : List X} → Pick same x ys rest → Pick same x (y ∷ ys) (y ∷ rest)

-- one to one, each with an equal one, and none is left over
pub data Paired {X : Type 0} (same : X → X → Bool) : List X → List X → Type 0 where
  no_more : Paired same [] []
  partner : {x : X} {xs ys rest : List X} → Pick same x ys rest → Paired same xs rest → Paired same (x ∷ xs) ys

-- whether nothing is left
abbrev pub none : {X : Type 0} → List X → Bool
none [] = true
none (x ∷ xs) = false

-- the test: each element in turn takes off the first that is equal
abbrev pub paired : {X : Type 0} → (X → X → Bool) → List X → List X → Bool
paired same [] ys = none ys
paired same (x ∷ xs) ys = list_any (same x) ys && paired same xs (without (same x) ys)

-- each value has as many equals in both lists
abbrev pub Counted : {X : Type 0} → (X → X → Bool) → List X → List X → Type 0
Counted {X} same xs ys = (z : X) → count_by (same z) xs ≡ count_by (same z) ys

-- the laws
pub record PairingIsEquivalence {X : Type 0} (same : X → X → Bool) : Type 0 where
  pub reflexive : (xs : List X) → Paired same xs xs
  pub symmetric : (xs ys : List X) → Paired same xs ys → Paired same ys xs
  pub transitive : (xs ys zs : List X) → Paired same xs ys → Paired same ys zs → Paired same xs zs

abbrev pub TestIsRelation : {X : Type 0} → (X → X → Bool) → Type 0
TestIsRelation {X} same = (xs ys : List X) → (paired same xs ys ≡ true) ↔ Paired same xs ys

abbrev pub PairingByCounts : {X : Type 0} → (X → X → Bool) → Type 0
PairingByCounts {X} same = (xs ys : List X) → Paired same xs ys ↔ Counted same xs ys
