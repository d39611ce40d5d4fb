-- Pairing off, among values where equality is lawful: the relation, the test and the counts agree, and it is an equivalence.
use Rattle.std.proofs.Common.{◌≡◌, ℕ, ◌+◌, ◌<◌, Bool, true, false, cond, ◌||◌, ◌↔◌, List, [], ◌∷◌, sym, refl, ap, ◌∙◌, subst, arith}
use Rattle.std.specs.Cmp.{IsEquivalence, both_ways}
use Rattle.std.specs.List.{AllByRecursion, list_any, count_by}
use Rattle.std.proofs.lemmas.List.Sums.{sum_by-cons}
use Rattle.std.proofs.lemmas.Bool.{and_parts, and_from, false≢true}
use Rattle.kept.specs.Equivalence.{EquivalenceOn}
use Rattle.kept.specs.Searching.{without}
use Rattle.kept.specs.Pairing.{Pick, Paired, paired, PairingIsEquivalence, TestIsRelation, PairingByCounts}
use Rattle.kept.specs.Pairing.Pick.{here, there}
use Rattle.kept.specs.Pairing.Paired.{no_more, partner}

count_by-cons : {X : Type 0} (p : X → Bool) (x : X) (xs : List X) → count_by p (x ∷ xs) ≡ cond (p x) 1 0 + count_by p xs
count_by-cons p x xs = sum_by-cons (λ y. cond (p y) 1 0) x xs

any_more : (b r : Bool) (n : ℕ) → (0 < n → r ≡ true) → 0 < cond b 1 0 + n → (b || r) ≡ true
any_more true r n f h = refl
any_more false r n f h = f (omega arith)

pub any_counted : {X : Type 0} (p : X → Bool) (xs : List X) → 0 < count_by p xs → list_any p xs ≡ true
any_counted p [] h = absurd (omega arith)
any_counted p (x ∷ xs) h = any_more (p x) (list_any p xs) (count_by p xs) (any_counted p xs) (subst (λ n. 0 < n) (count_by-cons p x xs) h)

-- what is picked is the first that is equal
pick_more : {X : Type 0} (same : X → X → Bool) (x y : X) (ys : List X) (b : Bool) → same x y ≡ b → (list_any (same x) ys ≡ true → Pick same x ys (without (same x) ys)) → (b || list_any (same x) ys) ≡ true → Pick same x (y ∷ ys) (cond b ys (y ∷ without (same x) ys))
pick_more same x y ys true e f h = here e
pick_more same x y ys false e f h = there (f h)

-- from the test to the relation: this asks nothing of the equality
module _ {X : Type 0} (same : X → X → Bool) where
  pub pick_first : (x : X) (ys : List X) → list_any (same x) ys ≡ true → Pick same x ys (without (same x) ys)
  pick_first x [] e = absurd (false≢true e)
  pick_first x (y ∷ ys) e = pick_more same x y ys (same x y) refl (pick_first x ys) e

  pub relation_from_test : (xs ys : List X) → paired same xs ys ≡ true → Paired same xs ys
  relation_from_test [] [] e = no_more
  relation_from_test [] (y ∷ ys) e = absurd (false≢true e)
  relation_from_test (x ∷ xs) ys e =
      let h = and_parts (list_any (same x) ys) (paired same xs (without (same x) ys)) e in
      partner (pick_first x ys h.0) (relation_from_test xs (without (same x) ys) h.1)

pub all_pick : {X : Type 0} (P : X → Type 0) {same : X → X → Bool} {x : X} {ys rest : List X} → Pick same x ys rest → AllByRecursion P ys → AllByRecursion P rest
all_pick P (here e) a = a.1
all_pick P (there d) a = (a.0, all_pick P d a.1)

-- each value of which `P` holds has as many equals in both lists
abbrev pub CountedOn : {X : Type 0} → (X → Type 0) → (X → X → Bool) → List X → List X → Type 0
CountedOn {X} P same xs ys = (z : X) → P z → count_by (same z) xs ≡ count_by (same z) ys

module _ {X : Type 0} (P : X → Type 0) (same : X → X → Bool) (eq : EquivalenceOn P same) where
  same_class : (z x y : X) → P z → P x → P y → same x y ≡ true → same z y ≡ same z x
  same_class z x y pz px py e =
      both_ways (same z y) (same z x)
      (λ h. eq.transitive z y x pz py px h (eq.symmetric x y px py e))
      (λ h. eq.transitive z x y pz px py h e)

  count_pick : (z x : X) {ys rest : List X} → P z → P x → AllByRecursion P ys → Pick same x ys rest → count_by (same z) ys ≡ cond (same z x) 1 0 + count_by (same z) rest
  count_pick z x pz px a (here {y = y} {ys = ys} e) =
      count_by-cons (same z) y ys ∙ ap (λ b. cond b 1 0 + count_by (same z) ys) (same_class z x y pz px a.0 e)
  count_pick z x pz px a (there {y = y} {ys = ys} {rest = rest} d) =
      omega (arith, count_pick z x pz px a.1 d, count_by-cons (same z) y ys, count_by-cons (same z) y rest)

  -- from the relation to the counts
  pub counts_from_relation : {xs ys : List X} → AllByRecursion P xs → AllByRecursion P ys → Paired same xs ys → CountedOn P same xs ys
  counts_from_relation a b no_more z pz = refl
  counts_from_relation a b (partner {x = x} {xs = xs} d r) z pz =
      count_by-cons (same z) x xs ∙ ap (λ n. cond (same z x) 1 0 + n) (counts_from_relation a.1 (all_pick P d b) r z pz) ∙ sym (count_pick z x pz a.0 b d)

  counted_itself : (x : X) → P x → cond {A = ℕ} (same x x) 1 0 ≡ 1
  counted_itself x px = ap (λ b. cond b 1 0) (eq.reflexive x px)

  -- from the counts to the test
  pub test_from_counts : (xs ys : List X) → AllByRecursion P xs → AllByRecursion P ys → CountedOn P same xs ys → paired same xs ys ≡ true
  test_from_counts [] [] a b h = refl
  test_from_counts [] (y ∷ ys) a b h = absurd (omega (arith, h y b.0, counted_itself y b.0, count_by-cons (same y) y ys))
  test_from_counts (x ∷ xs) ys a b h =
      let found : list_any (same x) ys ≡ true = any_counted (same x) ys (omega (arith, h x a.0, counted_itself x a.0, count_by-cons (same x) x xs)) in
      let d = pick_first same x ys found in
      and_from _ _ found
      (test_from_counts xs (without (same x) ys) a.1 (all_pick P d b)
      (λ z pz. omega (arith, h z pz, count_pick z x pz a.0 b d, count_by-cons (same z) x xs)))

  pub relation_from_counts : (xs ys : List X) → AllByRecursion P xs → AllByRecursion P ys → CountedOn P same xs ys → Paired same xs ys
  relation_from_counts xs ys a b h = relation_from_test same xs ys (test_from_counts xs ys a b h)

  pub test_from_relation : (xs ys : List X) → AllByRecursion P xs → AllByRecursion P ys → Paired same xs ys → paired same xs ys ≡ true
  test_from_relation xs ys a b d = test_from_counts xs ys a b (counts_from_relation a b d)

  pub answer_is_test : (xs ys : List X) → AllByRecursion P xs → AllByRecursion P ys → (answer : Bool) → ((answer ≡ true) ↔ Paired same xs ys) → answer ≡ paired same xs ys
  answer_is_test xs ys a b answer h =
      both_ways answer (paired same xs ys) (λ t. test_from_relation xs ys a b (h.0 t)) (λ t. h.1 (relation_from_test same xs ys t))

  pub paired_reflexive : (xs : List X) → AllByRecursion P xs → Paired same xs xs
  paired_reflexive xs a = relation_from_counts xs xs a a (λ z pz. refl)

  pub paired_symmetric : (xs ys : List X) → AllByRecursion P xs → AllByRecursion P ys → Paired same xs ys → Paired same ys xs
  paired_symmetric xs ys a b d = relation_from_counts ys xs b a (λ z pz. sym (counts_from_relation a b d z pz))

  pub paired_transitive : (xs ys zs : List X) → AllByRecursion P xs → AllByRecursion P ys → AllByRecursion P zs → Paired same xs ys → Paired same ys zs → Paired same xs zs
  paired_transitive xs ys zs a b c d f =
      relation_from_counts xs zs a c (λ z pz. counts_from_relation a b d z pz ∙ counts_from_relation b c f z pz)

-- where equality is lawful everywhere
abbrev pub Anything : {X : Type 0} → X → Type 0
Anything x = Unit {0}

pub all_anything : {X : Type 0} (xs : List X) → AllByRecursion Anything xs
all_anything [] = tt
all_anything (x ∷ xs) = (tt, all_anything xs)

module _ {X : Type 0} (same : X → X → Bool) (laws : IsEquivalence same) where
  pub lawful_everywhere : EquivalenceOn Anything same
  lawful_everywhere =
      record {
        reflexive = λ a _. laws.refl a;
        symmetric = λ a b _ _ h. sym (laws.symm a b) ∙ h;
        transitive = λ a b c _ _ _ h k. laws.congr a b c h ∙ k;
      }

  pub pairing_is_equivalence : PairingIsEquivalence same
  pairing_is_equivalence =
      record {
        reflexive = λ xs. paired_reflexive Anything same lawful_everywhere xs (all_anything xs);
        symmetric = λ xs ys. paired_symmetric Anything same lawful_everywhere xs ys (all_anything xs) (all_anything ys);
        transitive = λ xs ys zs. paired_transitive Anything same lawful_everywhere xs ys zs (all_anything xs) (all_anything ys) (all_anything zs);
      }

  pub test_is_relation : TestIsRelation same
  test_is_relation xs ys = (relation_from_test same xs ys, test_from_relation Anything same lawful_everywhere xs ys (all_anything xs) (all_anything ys))

  pub pairing_by_counts : PairingByCounts same
  pairing_by_counts xs ys = (
    λ d z. counts_from_relation Anything same lawful_everywhere (all_anything xs) (all_anything ys) d z tt,
    λ h. relation_from_counts Anything same lawful_everywhere xs ys (all_anything xs) (all_anything ys) (λ z _. h z),
  )
