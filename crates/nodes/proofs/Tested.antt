-- The test says of any two prints whether they are alike.
use Rattle.std.proofs.Common.{◌≡◌, Bool, true, false, cond, ◌&&◌, Some, None as Nothing, Option, refl, ap, ◌∙◌, subst}
use Rattle.std.proofs.lemmas.Option.{same_Some}
use Rattle.std.proofs.lemmas.Bool.{and_parts, and_from}
use Rattle.nodes.specs.Prints.{Print, Prints, PrintPairs}
use Rattle.nodes.specs.Prints.Print.{leaf, sequence, mapping}
use Rattle.nodes.specs.Prints.Prints.{end, then}
use Rattle.nodes.specs.Prints.PrintPairs.{nothing, field}
use Rattle.nodes.specs.Alike.{Pick, Alike, AlikeAll, Matched, same_canon, take_off, alike, alikes, matched, AlikeIsTested}
use Rattle.nodes.specs.Alike.Pick.{here, there}
use Rattle.nodes.specs.Alike.Alike.{leaves, sequences, mappings}
use Rattle.nodes.specs.Alike.AlikeAll.{no_more, and_more}
use Rattle.nodes.specs.Alike.Matched.{all_matched, partner}
use Rattle.nodes.proofs.Equality.{euclid, exchange}
use Rattle.nodes.proofs.Leaves.{canon_self, canon_is_same, leaf_is_same}

-- what is taken off is a pair that passes both tests, and where one passes, one is taken off
module _ (f g : Print → Bool) where
  abbrev Taken : PrintPairs → PrintPairs → Type 0
  Taken qs r = (l : Print) × (w : Print) × Pick l w qs r × (f l ≡ true) × (g w ≡ true)

  abbrev after : Print → Print → Option PrintPairs → Option PrintPairs
  after l w o = elim o [ Nothing ↦ Nothing | Some rest ↦ Some (field l w rest) ]

  taken : (qs r : PrintPairs) → take_off f g qs ≡ Some r → Taken qs r
  taken nothing r e = cc
  taken (field l w qs) r e = by (f l && g w) (and_parts (f l) (g w)) (take_off f g qs) (taken qs) e
    where
      by : (b : Bool) → (b ≡ true → (f l ≡ true) × (g w ≡ true)) → (o : Option PrintPairs) → ((r : PrintPairs) → o ≡ Some r → Taken qs r)
          → cond b (Some qs) (after l w o) ≡ Some r → Taken (field l w qs) r
      by true h o ih e = (l, w, subst (Pick l w (field l w qs)) (same_Some qs r e) here, (h refl).0, (h refl).1)
      by false h Nothing ih e = cc
      by false h (Some s) ih e =
          let (m, z, p, a, b) = ih s refl in
          (m, z, subst (Pick m z (field l w qs)) (same_Some (field l w s) r e) (there p), a, b)

  found : {l w : Print} {qs r : PrintPairs} → Pick l w qs r → f l ≡ true → g w ≡ true → (s : PrintPairs) × (take_off f g qs ≡ Some s)
  found (here {k = l} {v = w} {ps}) x y = (ps, ap (λ b. cond b (Some ps) (after l w (take_off f g ps))) (and_from (f l) (g w) x y))
  found (there {l = m} {w = z} {ps} p) x y = by (f m && g z) (found p x y)
    where
      by : (b : Bool) → (s : PrintPairs) × (take_off f g ps ≡ Some s) → (s : PrintPairs) × (cond b (Some ps) (after m z (take_off f g ps)) ≡ Some s)
      by true r = (_, refl)
      by false r = (_, ap (after m z) r.1)

mutual
  sound : (p q : Print) → alike p q ≡ true → Alike p q
  sound (leaf x) (leaf y) h = subst (λ z. Alike (leaf x) (leaf z)) ((leaf_is_same x y).0 h) leaves
  sound (leaf x) (sequence d ys) h = cc
  sound (leaf x) (mapping d qs) h = cc
  sound (sequence c xs) (leaf y) h = cc
  sound (sequence c xs) (sequence d ys) h =
      let (a, b) = and_parts (same_canon c d) (alikes xs ys) h in
      subst (λ z. Alike (sequence c xs) (sequence z ys)) ((canon_is_same c d).0 a) (sequences (sounds xs ys b))
  sound (sequence c xs) (mapping d qs) h = cc
  sound (mapping c ps) (leaf y) h = cc
  sound (mapping c ps) (sequence d ys) h = cc
  sound (mapping c ps) (mapping d qs) h =
      let (a, b) = and_parts (same_canon c d) (matched ps qs) h in
      subst (λ z. Alike (mapping c ps) (mapping z qs)) ((canon_is_same c d).0 a) (mappings (soundp ps qs b))

  sounds : (xs ys : Prints) → alikes xs ys ≡ true → AlikeAll xs ys
  sounds end end h = no_more
  sounds end (then y ys) h = cc
  sounds (then x xs) end h = cc
  sounds (then x xs) (then y ys) h =
      let (a, b) = and_parts (alike x y) (alikes xs ys) h in
      and_more (sound x y a) (sounds xs ys b)

  soundp : (ps qs : PrintPairs) → matched ps qs ≡ true → Matched ps qs
  soundp nothing nothing h = all_matched
  soundp nothing (field l w qs) h = cc
  soundp (field k v ps) qs h = by (sound k) (sound v) (soundp ps) (take_off (alike k) (alike v) qs) (taken (alike k) (alike v) qs) h
    where
      by : ((l : Print) → alike k l ≡ true → Alike k l) → ((w : Print) → alike v w ≡ true → Alike v w) → ((r : PrintPairs) → matched ps r ≡ true → Matched ps r)
          → (o : Option PrintPairs) → ((r : PrintPairs) → o ≡ Some r → Taken (alike k) (alike v) qs r)
          → (elim o [ Nothing ↦ false | Some r ↦ matched ps r ]) ≡ true → Matched (field k v ps) qs
      by sk sv ih Nothing t h = cc
      by sk sv ih (Some r) t h = let (l, w, p, a, b) = t r refl in partner p (sk l a) (sv w b) (ih r h)

mutual
  complete : (p : Print) {q : Print} → Alike p q → alike p q ≡ true
  complete (leaf x) leaves = (leaf_is_same x x).1 refl
  complete (sequence c xs) (sequences a) = and_from _ _ (canon_self c) (completes xs a)
  complete (mapping c ps) (mappings a) = and_from _ _ (canon_self c) (completep ps a)

  completes : (xs : Prints) {ys : Prints} → AlikeAll xs ys → alikes xs ys ≡ true
  completes end no_more = refl
  completes (then x xs) (and_more {y} a b) = and_from (alike x y) _ (complete x a) (completes xs b)

  completep : (ps : PrintPairs) {qs : PrintPairs} → Matched ps qs → matched ps qs ≡ true
  completep nothing all_matched = refl
  completep (field k v ps) (partner {qs} p a b d) =
      let (r, e) = found (alike k) (alike v) p (complete k a) (complete v b) in
      let (l, w, p', a', b') = taken (alike k) (alike v) qs r e in
      ap (λ o. elim o [ Nothing ↦ false | Some r ↦ matched ps r ]) e
      ∙ completep ps (exchange p p' (euclid a (sound k l a')) (euclid b (sound v w b')) d)

pub tested : AlikeIsTested
tested p q = (sound p q, complete p)
