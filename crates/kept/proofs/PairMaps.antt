-- Pairing off under another equality, and of lists that were mapped.
use Rattle.std.proofs.Common.{◌≡◌, Bool, true, List, [], ◌∷◌, map, refl, ap, subst}
use Rattle.std.specs.List.{AllByRecursion}
use Rattle.kept.specs.Pairing.{Pick, Paired}
use Rattle.kept.specs.Pairing.Pick.{here, there}
use Rattle.kept.specs.Pairing.Paired.{no_more, partner}
use Rattle.kept.proofs.PairLaws.{all_pick}

-- an equality that says no less, among the values of which `P` holds
module _ {X : Type 0} (P : X → Type 0) (same other : X → X → Bool) (weaker : (x y : X) → P x → P y → same x y ≡ true → other x y ≡ true) where
  pick_weaker : {x : X} {ys rest : List X} → P x → AllByRecursion P ys → Pick same x ys rest → Pick other x ys rest
  pick_weaker {x} {ys = y ∷ ys} px a (here e) = here (weaker x y px a.0 e)
  pick_weaker px a (there d) = there (pick_weaker px a.1 d)

  pub paired_weaker : {xs ys : List X} → AllByRecursion P xs → AllByRecursion P ys → Paired same xs ys → Paired other xs ys
  paired_weaker a b no_more = no_more
  paired_weaker a b (partner d r) = partner (pick_weaker a.0 b d) (paired_weaker a.1 (all_pick P d b) r)

-- the images pair off exactly where the elements do by their images
module _ {Y X : Type 0} (f : Y → X) (same : X → X → Bool) where
  pick_map : {x : Y} {ys rest : List Y} → Pick (λ x y. same (f x) (f y)) x ys rest → Pick same (f x) (map f ys) (map f rest)
  pick_map (here e) = here e
  pick_map (there d) = there (pick_map d)

  pub paired_map : {xs ys : List Y} → Paired (λ x y. same (f x) (f y)) xs ys → Paired same (map f xs) (map f ys)
  paired_map no_more = no_more
  paired_map (partner d r) = partner (pick_map d) (paired_map r)

  pick_unmap : (x : Y) (ys : List Y) {images : List X} → Pick same (f x) (map f ys) images → (rest : List Y) × (images ≡ map f rest) × Pick (λ x y. same (f x) (f y)) x ys rest
  pick_unmap x [] d = elim d [ ]
  pick_unmap x (y ∷ ys) (here e) = (ys, refl, here e)
  pick_unmap x (y ∷ ys) (there d) = let (rest, e, p) = pick_unmap x ys d in (y ∷ rest, ap (λ zs. f y ∷ zs) e, there p)

  pub paired_unmap : (xs ys : List Y) → Paired same (map f xs) (map f ys) → Paired (λ x y. same (f x) (f y)) xs ys
  paired_unmap [] [] d = no_more
  paired_unmap [] (y ∷ ys) d = elim d [ ]
  paired_unmap (x ∷ xs) ys (partner d r) =
      let (rest, e, p) = pick_unmap x ys d in
      partner p (paired_unmap xs rest (subst (Paired same (map f xs)) e r))
