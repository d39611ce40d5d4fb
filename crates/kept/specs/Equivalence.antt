-- When a test is an equivalence.
use Rattle.std.specs.Prelude.{◌≡◌, Bool, true}
use Rattle.std.specs.Cmp.{IsEquivalence}

-- at each value of `S`, which may choose how elements are compared
abbrev pub Equivalence : {S T : Type 0} → (S → T → T → Bool) → Type 0
Equivalence {S} same = (e : S) → IsEquivalence (same e)

-- among the values of which `P` holds
pub record EquivalenceOn {T : Type 0} (P : T → Type 0) (same : T → T → Bool) : Type 0 where
  pub reflexive : (a : T) → P a → same a a ≡ true
  pub symmetric : (a b : T) → P a → P b → same a b ≡ true → same b a ≡ true
  pub transitive : (a b c : T) → P a → P b → P c → same a b ≡ true → same b c ≡ true → same a c ≡ true
