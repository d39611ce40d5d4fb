-- What a search for the first element that passes a test finds, and what is left without it.
use Rattle.std.proofs.Common.{◌≡◌, ℕ, suc, ◌+◌, Bool, true, false, cond, List, [], ◌∷◌, length, Some, None, Option, sym, refl, ap, ◌∙◌, subst, arith, ltb}
use Rattle.std.specs.List.{list_any, position, position_or_len}
use Rattle.std.proofs.lemmas.Bool.Decides.{nat_tests}
use Rattle.std.proofs.lemmas.Bool.{cond-true, cond-false, or_left, or_right, or_from}
use Rattle.kept.specs.Searching.{Finds}

-- a place of the rest, counted from one element earlier
abbrev later : Option ℕ → Option ℕ
later None = None
later (Some n) = Some (suc n)

first-cond : (n : ℕ) → cond {A = Option ℕ} (ltb 0 (suc n)) (Some 0) None ≡ Some 0
first-cond n = grind (arith, nat_tests)

later-cond : (k n : ℕ) → cond {A = Option ℕ} (ltb (1 + k) (suc n)) (Some (1 + k)) None ≡ later (cond (ltb k n) (Some k) None)
later-cond k n = grind (arith, nat_tests)

module _ {X : Type 0} (p : X → Bool) where
  position-cons : (x : X) (xs : List X) (b : Bool) → p x ≡ b → position p (x ∷ xs) ≡ cond b (Some 0) (later (position p xs))
  position-cons x xs true e = rw e (first-cond (length xs))
  position-cons x xs false e = rw e (later-cond (position_or_len p xs) (length xs))

  finds_more : (x : X) (xs : List X) (b : Bool) (o : Option ℕ) → p x ≡ b → Finds p xs o → Finds p (x ∷ xs) (cond b (Some 0) (later o))
  finds_more x xs true o e h =
      record {
        below = omega arith;
        passes = λ d. e;
        before = tt;
        found = or_left (p x) (list_any p xs) e;
        rest = cond-true (p x) _ _ e;
      }
  finds_more x xs false None e h =
      record {
        fails = (e, h.fails);
        found = or_from (p x) (list_any p xs) e h.found;
        rest = cond-false (p x) _ _ e ∙ ap (λ zs. x ∷ zs) h.rest;
      }
  finds_more x xs false (Some i) e h =
      record {
        below = omega (arith, h.below);
        passes = h.passes;
        before = (e, h.before);
        found = or_right (p x) (list_any p xs) h.found;
        rest = cond-false (p x) _ _ e ∙ ap (λ zs. x ∷ zs) h.rest;
      }

  pub finds_first : (xs : List X) → Finds p xs (position p xs)
  finds_first [] = record { fails = tt; found = refl; rest = refl }
  finds_first (x ∷ xs) = subst (Finds p (x ∷ xs)) (sym (position-cons x xs (p x) refl)) (finds_more x xs (p x) (position p xs) refl (finds_first xs))

  pub finds_at : (xs : List X) (o : Option ℕ) → o ≡ position p xs → Finds p xs o
  finds_at xs o e = subst (Finds p xs) (sym e) (finds_first xs)
