-- Being alike is an equality: two prints that are alike to a third are alike.
use Rattle.std.proofs.Common.{◌≡◌, ◌⊎◌, refl, ap, subst, inl, inr}
use Rattle.nodes.specs.Prints.{Print, Prints, PrintPairs}
use Rattle.nodes.specs.Prints.Print.{leaf, sequence, mapping}
use Rattle.nodes.specs.Prints.Prints.{end, then}
use Rattle.nodes.specs.Prints.PrintPairs.{nothing, field}
use Rattle.nodes.specs.Alike.{Pick, Alike, AlikeAll, Matched, AlikeIsEquality}
use Rattle.nodes.specs.Alike.Pick.{here, there}
use Rattle.nodes.specs.Alike.Alike.{leaves, sequences, mappings}
use Rattle.nodes.specs.Alike.AlikeAll.{no_more, and_more}
use Rattle.nodes.specs.Alike.Matched.{all_matched, partner}

-- two picks, one after the other, the other way round
pub swap : {m z l w : Print} {zs zs' zs'' : PrintPairs} → Pick m z zs zs' → Pick l w zs' zs'' → (r : PrintPairs) × Pick l w zs r × Pick m z r zs''
swap here q = (_, there q, here)
swap (there p) here = (_, here, p)
swap (there p) (there q) = let (r, a, b) = swap p q in (_, there a, there b)

-- two picks from one list: the same, or either can follow the other
pub diamond : {k v l w : Print} {ps r s : PrintPairs} → Pick k v ps r → Pick l w ps s → ((r ≡ s) × (k ≡ l) × (v ≡ w)) ⊎ ((b : PrintPairs) × Pick l w r b × Pick k v s b)
diamond here here = inl (refl, refl, refl)
diamond here (there q) = inr (_, q, here)
diamond (there p) here = inr (_, here, p)
diamond (there {l = x} {w = y} p) (there q) =
    elim (diamond p q) [ inl e ↦ inl (ap (field x y) e.0, e.1, e.2) | inr t ↦ inr (_, there t.1, there t.2) ]

insert : {k v l w : Print} {ps qs r s : PrintPairs} → Pick k v ps r → Pick l w qs s → Alike k l → Alike v w → Matched r s → Matched ps qs
insert here q a b d = partner q a b d
insert (there p) q a b (partner q' a' b' d) = let (_, x, y) = swap q q' in partner x a' b' (insert p y a b d)

mutual
  pub alike_self : (p : Print) → Alike p p
  alike_self (leaf x) = leaves
  alike_self (sequence c xs) = sequences (alikes_self xs)
  alike_self (mapping c ps) = mappings (matched_self ps)

  pub alikes_self : (xs : Prints) → AlikeAll xs xs
  alikes_self end = no_more
  alikes_self (then x xs) = and_more (alike_self x) (alikes_self xs)

  pub matched_self : (ps : PrintPairs) → Matched ps ps
  matched_self nothing = all_matched
  matched_self (field k v ps) = partner here (alike_self k) (alike_self v) (matched_self ps)

mutual
  pub euclid : {t u v : Print} → Alike t u → Alike t v → Alike u v
  euclid leaves leaves = leaves
  euclid (sequences a) (sequences b) = sequences (euclids a b)
  euclid (mappings a) (mappings b) = mappings (euclidp a b)

  pub euclids : {xs ys zs : Prints} → AlikeAll xs ys → AlikeAll xs zs → AlikeAll ys zs
  euclids no_more no_more = no_more
  euclids (and_more a as') (and_more b bs) = and_more (euclid a b) (euclids as' bs)

  pub euclidp : {ps qs rs : PrintPairs} → Matched ps qs → Matched ps rs → Matched qs rs
  euclidp all_matched all_matched = all_matched
  euclidp (partner p a b d) (partner q a' b' d') = insert p q (euclid a a') (euclid b b') (euclidp d d')

pub alike_back : {p q : Print} → Alike p q → Alike q p
alike_back {p} a = euclid a (alike_self p)

pub alike_on : {p q r : Print} → Alike p q → Alike q r → Alike p r
alike_on a b = euclid (alike_back a) b

pub equality : AlikeIsEquality
equality = (alike_self, λ p q a. alike_back a, λ p q r a b. alike_on a b)

pub matched_on : {ps qs rs : PrintPairs} → Matched ps qs → Matched qs rs → Matched ps rs
matched_on {ps} a b = euclidp (euclidp a (matched_self ps)) b

-- a partner may be changed for one that is alike
pub exchange : {k v l w : Print} {ps qs r s : PrintPairs} → Pick k v qs r → Pick l w qs s → Alike k l → Alike v w → Matched ps r → Matched ps s
exchange {ps} p q a b d =
    elim (diamond p q) [ inl e ↦ subst (Matched ps) e.0 d | inr t ↦ matched_on d (insert t.1 t.2 (alike_back a) (alike_back b) (matched_self t.0)) ]
