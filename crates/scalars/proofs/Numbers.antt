-- Digits read from the first to the last, and what they spell.
use Rattle.std.proofs.Common.{◌≡◌, ℕ, ◌+◌, ◌*◌, ◌^◌, ◌<◌, ◌≤◌, Bool, true, false, cond, eqb, ltb, ◌⊎◌, List, [], ◌∷◌, ◌++◌, length, get_or, drop, None, sym, refl, ap, ◌∙◌, subst, inl, inr, append_assoc, append-nil, mul-le-mul_left, zero-add, zero-mul, mul-one, arith}
use Rattle.std.proofs.lemmas.List.{at_drop_more, at_drop_all}
use Rattle.std.proofs.lemmas.Bool.{eqb-true, ltb-true, false≢true}
use Rattle.std.proofs.lemmas.Bool.Decides.{nat_tests}
use Rattle.std.specs.Bool.{then_some}
use Rattle.scalars.specs.Class.{class_of}
use Rattle.scalars.specs.Running.{State, start, advance, step, run}
use Rattle.scalars.specs.Running.State.{so_far, lost}
use Rattle.scalars.specs.Spelling.{Digits, Number}
use Rattle.scalars.specs.Spelling.Digits.{one, more, apart}

run_append : (radix : ℕ) (s : State) (xs ys : List ℕ) → run radix s (xs ++ ys) ≡ run radix (run radix s xs) ys
run_append radix s [] ys = refl
run_append radix s (x ∷ xs) ys = run_append radix (step radix s x) xs ys

pub advance_digit : (radix v : ℕ) (last : Bool) (d : ℕ) → radix ≤ 16 → d < radix → advance radix v last d ≡ so_far (v * radix + d) true
advance_digit radix v last d small h = grind (arith, nat_tests)

-- what the grammar spells is read
pub reads : {radix : ℕ} {ds : List ℕ} {n : ℕ} → radix ≤ 16 → Digits radix ds n → run radix start ds ≡ so_far n true
reads {radix} small (one b h) =
    advance_digit radix 0 false (class_of b) small h
    ∙ ap (λ n. so_far n true) (ap (λ n. n + class_of b) (zero-mul radix) ∙ zero-add (class_of b))
reads {radix} small (more {ds} {n} b d h) =
    run_append radix start ds (b ∷ []) ∙ ap (λ s. step radix s b) (reads small d) ∙ advance_digit radix n true (class_of b) small h
reads {radix} small (apart {ds} {n} b d h) =
    run_append radix start ds (95 ∷ b ∷ []) ∙ ap (λ s. run radix s (95 ∷ b ∷ [])) (reads small d)
    ∙ advance_digit radix n false (class_of b) small h

-- what a state says of the bytes that led to it
abbrev Means : ℕ → List ℕ → State → Type 0
Means radix ds lost = Unit {0}
Means radix ds (so_far v true) = Digits radix ds v
Means radix ds (so_far v false) = ((ds ≡ []) × (v ≡ 0)) ⊎ ((es : List ℕ) × (ds ≡ es ++ (95 ∷ [])) × Digits radix es v)

class_underscore : (b : ℕ) → class_of b ≡ 16 → b ≡ 95
class_underscore b h = grind (arith, nat_tests)

-- the three ways of one more byte
data Way (radix v : ℕ) (last : Bool) (d : ℕ) : State → Type 0 where
  underscore : d ≡ 16 → last ≡ true → Way radix v last d (so_far v false)
  digit : d < radix → Way radix v last d (so_far (v * radix + d) true)
  refused : Way radix v last d lost

way : (radix v : ℕ) (last : Bool) (d : ℕ) → Way radix v last d (advance radix v last d)
way radix v last d = go (eqb d 16) last (ltb d radix) (eqb-true d 16) (ltb-true d radix)
  where
    go : (p last q : Bool) → (p ≡ true → d ≡ 16) → (q ≡ true → d < radix)
        → Way radix v last d (cond p (cond last (so_far v false) lost) (cond q (so_far (v * radix + d) true) lost))
    go true true q f g = underscore (f refl) refl
    go true false q f g = refused
    go false last true f g = digit (g refl)
    go false last false f g = refused

first_digit : (radix b v : ℕ) (ds : List ℕ) → class_of b < radix → (ds ≡ []) × (v ≡ 0) → Digits radix (ds ++ (b ∷ [])) (v * radix + class_of b)
first_digit radix b v ds h (e, z) =
    subst (λ xs. Digits radix (xs ++ (b ∷ [])) (v * radix + class_of b)) (sym e)
    (subst (Digits radix (b ∷ [])) (sym (ap (λ n. n * radix + class_of b) z ∙ ap (λ n. n + class_of b) (zero-mul radix) ∙ zero-add (class_of b))) (one b h))

means_more : (radix : ℕ) (ds : List ℕ) (s : State) (b : ℕ) → Means radix ds s → Means radix (ds ++ (b ∷ [])) (step radix s b)
means_more radix ds lost b m = tt
means_more radix ds (so_far v last) b m = go last m (way radix v last (class_of b))
  where
    go : {t : State} (last : Bool) → Means radix ds (so_far v last) → Way radix v last (class_of b) t → Means radix (ds ++ (b ∷ [])) t
    go true m (underscore e l) = inr (ds, ap (λ x. ds ++ (x ∷ [])) (class_underscore b e), m)
    go false m (underscore e l) = absurd (false≢true l)
    go true m (digit h) = more b m h
    go false (inl z) (digit h) = first_digit radix b v ds h z
    go false (inr (es, e, d)) (digit h) =
        subst (λ xs. Digits radix xs (v * radix + class_of b)) (sym (ap (λ xs. xs ++ (b ∷ [])) e ∙ append_assoc es (95 ∷ []) (b ∷ []))) (apart b d h)
    go last m refused = tt

means_all : (radix : ℕ) (ds bs : List ℕ) (s : State) → Means radix ds s → Means radix (ds ++ bs) (run radix s bs)
means_all radix ds [] s m = subst (λ xs. Means radix xs s) (sym (append-nil ds)) m
means_all radix ds (b ∷ bs) s m =
    subst (λ xs. Means radix xs (run radix s (b ∷ bs))) (append_assoc ds (b ∷ []) bs) (means_all radix (ds ++ (b ∷ [])) bs (step radix s b) (means_more radix ds s b m))

-- what is read is spelled
pub spelled : (radix : ℕ) (ds : List ℕ) (n : ℕ) → run radix start ds ≡ so_far n true → Digits radix ds n
spelled radix ds n e = subst (Means radix ds) e (means_all radix [] ds start (inl (refl, refl)))

run_lost : (radix : ℕ) (bs : List ℕ) → run radix lost bs ≡ lost
run_lost radix [] = refl
run_lost radix (b ∷ bs) = run_lost radix bs

pub apart_states : (s : State) (n : ℕ) (t : Bool) → s ≡ lost → s ≡ so_far n t → ⊥
apart_states s n t p q = let z : ◌≡◌ {A = ℕ} 0 1 = cc in omega arith

-- the number never falls
grows : (radix : ℕ) → 1 ≤ radix → (bs : List ℕ) (v n : ℕ) (last t : Bool) → run radix (so_far v last) bs ≡ so_far n t → v ≤ n
grows radix h [] v n last t e = let q : v ≡ n = cc in omega arith
grows radix h (b ∷ bs) v n last t e = go (way radix v last (class_of b)) (grows radix h bs) e
  where
    go : {s : State} → Way radix v last (class_of b) s
        → ((v n : ℕ) (last t : Bool) → run radix (so_far v last) bs ≡ so_far n t → v ≤ n) → run radix s bs ≡ so_far n t → v ≤ n
    go (underscore p q) ih e = ih v n false t e
    go (digit p) ih e = omega (arith, ih (v * radix + class_of b) n true t e, mul-le-mul_left v h, mul-one v)
    go refused ih e = absurd (apart_states (run radix lost bs) n t (run_lost radix bs) e)

-- the loop at the byte i: what is left leads to what the whole leads to
pub record Left (radix : ℕ) (ds : List ℕ) (v : ℕ) (last : Bool) (i : ℕ) : Type 0 where
  pub leads : run radix (so_far v last) (drop i ds) ≡ run radix start ds
  pub fits : v < 2 ^ 64

-- one turn, at a byte of class d
module _ {radix : ℕ} {ds : List ℕ} {v : ℕ} {last : Bool} {i d : ℕ} (left : Left radix ds v last i) (within : i < length ds) (is : d ≡ class_of (get_or ds i 0)) where
  leads_on : run radix (advance radix v last d) (drop (i + 1) ds) ≡ run radix start ds
  leads_on =
      ap (λ x. run radix (advance radix v last x) (drop (i + 1) ds)) is ∙ sym (at_drop_more (run radix (so_far v last)) ds i 0 within)
      ∙ left.leads

  leads_after : (s : State) → advance radix v last d ≡ s → run radix s (drop (i + 1) ds) ≡ run radix start ds
  leads_after s e = ap (λ s. run radix s (drop (i + 1) ds)) (sym e) ∙ leads_on

  pub goes_on : (v' : ℕ) (last' : Bool) → advance radix v last d ≡ so_far v' last' → v' < 2 ^ 64 → Left radix ds v' last' (i + 1)
  goes_on v' last' e fits = record { leads = leads_after (so_far v' last') e; fits = fits }

  pub refuses : radix ≤ 16 → advance radix v last d ≡ lost → Number radix ds None
  refuses small e n spelled fits =
      apart_states (run radix start ds) n true (sym (leads_after lost e) ∙ run_lost radix (drop (i + 1) ds)) (reads small spelled)

  pub overflows : 1 ≤ radix → radix ≤ 16 → d < radix → 2 ^ 64 ≤ v * radix + d → Number radix ds None
  overflows some small h large n spelled fits =
      let e = leads_after (so_far (v * radix + d) true) (advance_digit radix v last d small h) in
      omega (arith, grows radix some (drop (i + 1) ds) (v * radix + d) n true true (e ∙ reads small spelled))

-- the end of the loop
whole_read : {radix : ℕ} {ds : List ℕ} {v : ℕ} {last : Bool} {i : ℕ} → Left radix ds v last i → length ds ≤ i → so_far v last ≡ run radix start ds
whole_read {radix} {ds} {v} {last} {i} left past = sym (at_drop_all (run radix (so_far v last)) ds i past) ∙ left.leads

pub number_read : {radix : ℕ} {ds : List ℕ} {v : ℕ} (last : Bool) {i : ℕ} → Left radix ds v last i → length ds ≤ i → radix ≤ 16 → Number radix ds (then_some last v)
number_read {radix} {ds} {v} true left past small = (spelled radix ds v (sym (whole_read left past)), left.fits)
number_read false left past small = λ n spelled fits.
    let p = whole_read left past ∙ reads small spelled in
    let q : false ≡ true = cc in
    false≢true q
