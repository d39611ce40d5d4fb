-- Keys that are the same: an equivalence, and having a key goes by it.
use Rattle.std.proofs.Common.{◌≡◌, ℕ, true, ◌||◌, List, [], ◌∷◌, refl, ◌∙◌, ap₂}
use Rattle.std.specs.Bool.{Decides}
use Rattle.std.proofs.lemmas.Bool.Decides.{same_from_decides, Decides-like}
use Rattle.nodes.specs.Prints.{print}
use Rattle.nodes.specs.Alike.{Alike}
use Rattle.nodes.specs.Fields.{Item, same_key, has_key}
use Rattle.nodes.proofs.Equality.{alike_self, alike_back, alike_on}
use Rattle.nodes.proofs.Tested.{tested}

module _ (text : List ℕ) where
  tells : (a b : Item) → Decides (same_key text a b) (Alike (print text a.key) (print text b.key))
  tells a b = tested _ _

  pub same_key_refl : (a : Item) → same_key text a a ≡ true
  same_key_refl a = (tells a a).1 (alike_self _)

  pub same_key_sym : (a b : Item) → same_key text a b ≡ same_key text b a
  same_key_sym a b = same_from_decides _ _ (tells a b) (Decides-like _ (λ x. alike_back x) (λ x. alike_back x) (tells b a))

  -- a key is the same as those that the same key is the same as
  pub same_key_same : (k l e : Item) → same_key text k l ≡ true → same_key text k e ≡ same_key text l e
  same_key_same k l e s =
      let a = (tells k l).0 s in
      same_from_decides _ _ (tells k e) (Decides-like _ (λ x. alike_on a x) (λ x. alike_on (alike_back a) x) (tells l e))

  pub same_key_trans : (a b c : Item) → same_key text a b ≡ true → same_key text b c ≡ true → same_key text a c ≡ true
  same_key_trans a b c h k = same_key_same a b c h ∙ k

  -- the same key is had by the same fields
  pub has_key_same : (k l : Item) (es : List Item) → same_key text k l ≡ true → has_key text k es ≡ has_key text l es
  has_key_same k l [] s = refl
  has_key_same k l (e ∷ es) s = ap₂ ◌||◌ (same_key_same k l e s) (has_key_same k l es s)
