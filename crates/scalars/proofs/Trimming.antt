-- Blanks are dropped at both ends of a text, and one text only is left.
use Rattle.std.proofs.Common.{◌≡◌, ℕ, ◌+◌, ◌-◌, ◌<◌, ◌≤◌, Bool, true, false, cond, not, List, [], ◌∷◌, ◌++◌, length, get_or, take, drop, All, sym, refl, ap, ◌∙◌, subst, append-nil, drop-drop, length-drop, length-take-le, take-append-drop, ⊎_elim, arith}
use Rattle.std.proofs.lemmas.Bool.{both_ways, cases_lt, cond-true, cond-false, not-true}
use Rattle.std.proofs.lemmas.Grind.{get_or_at_push}
use Rattle.std.proofs.lemmas.List.{take_all, take_more, length_push, same_from_push, get_or-take, get_or-drop}
use Rattle.std.proofs.lemmas.List.Elements.{All-nil, All-cons, All-head, All-tail, All-append, All-from_get_or}
use Rattle.scalars.specs.Trimmed.{blank, Blanks, BeginsBare, EndsBare, IsFirstBare, Trimmed}
use Rattle.scalars.specs.Computed.{bare_front, ahead, bare_back}

abbrev pub Blank : ℕ → Type 0
Blank b = blank b ≡ true

abbrev pub bare : ℕ → Bool
bare b = not (blank b)

abbrev pub Bare : ℕ → Type 0
Bare b = bare b ≡ true

pub ends_empty : (r : List ℕ) → length r < 1 → EndsBare r
ends_empty r h b xs e = absurd (omega (arith, ap length e, length_push xs b))

pub ends_bare : (r : List ℕ) → 0 < length r → blank (get_or r (length r - 1) 0) ≡ false → EndsBare r
ends_bare r h f b xs e =
    let split : r ≡ take (length r - 1) r ++ (get_or r (length r - 1) 0 ∷ []) =
    sym (take_all (length r - 1 + 1) r (omega arith)) ∙ take_more r (length r - 1) 0 (omega arith) in
    let same = same_from_push xs (take (length r - 1) r) b (get_or r (length r - 1) 0) (sym e ∙ split) in
    ap blank same.1 ∙ f

ends_tail : (b : ℕ) (r : List ℕ) → EndsBare (b ∷ r) → EndsBare r
ends_tail b r g x xs e = g x (b ∷ xs) (ap (λ ys. b ∷ ys) e)

-- blanks alone leave nothing, and those around a bare text leave that text
front_blanks : (ws : List ℕ) → Blanks ws → bare_front ws ≡ []
front_blanks [] h = refl
front_blanks (w ∷ ws) h = cond-true _ _ _ (All-head Blank w ws h) ∙ front_blanks ws (All-tail Blank w ws h)

back_blanks : (ws : List ℕ) → Blanks ws → bare_back ws ≡ []
back_blanks [] h = refl
back_blanks (w ∷ ws) h = ap (ahead w) (back_blanks ws (All-tail Blank w ws h)) ∙ cond-true _ _ _ (All-head Blank w ws h)

front_off : (ws s : List ℕ) → Blanks ws → BeginsBare s → bare_front (ws ++ s) ≡ s
front_off [] [] h g = refl
front_off [] (b ∷ s) h g = cond-false _ _ _ (g b s refl)
front_off (w ∷ ws) s h g = cond-true _ _ _ (All-head Blank w ws h) ∙ front_off ws s (All-tail Blank w ws h) g

back_off : (r vs : List ℕ) → Blanks vs → EndsBare r → bare_back (r ++ vs) ≡ r
back_off [] vs h g = back_blanks vs h
back_off (b ∷ []) vs h g = ap (ahead b) (back_blanks vs h) ∙ cond-false _ _ _ (g b [] refl)
back_off (b ∷ c ∷ r) vs h g = ap (ahead b) (back_off (c ∷ r) vs h (ends_tail b (c ∷ r) g))

begins_more : (b : ℕ) (r vs : List ℕ) → BeginsBare (b ∷ r) → BeginsBare (b ∷ (r ++ vs))
begins_more b r vs g x xs e = let same : b ≡ x = cc in ap blank (sym same) ∙ g b r refl

trimmed_is : {t : List ℕ} (r : List ℕ) → Trimmed t r → bare_back (bare_front t) ≡ r
trimmed_is [] d = ap bare_back (ap bare_front d.whole ∙ front_blanks _ (All-append Blank d.before d.after d.blanks_before d.blanks_after))
trimmed_is (b ∷ r) d =
    ap bare_back (ap bare_front d.whole ∙ front_off d.before _ d.blanks_before (begins_more b r d.after d.begins))
    ∙ back_off (b ∷ r) d.after d.blanks_after d.ends

pub trimmed_unique : {t : List ℕ} (r r' : List ℕ) → Trimmed t r → Trimmed t r' → r ≡ r'
trimmed_unique r r' d d' = sym (trimmed_is r d) ∙ trimmed_is r' d'

-- a text with no blank in it is trimmed, whatever blanks stand around it
pub trimmed_bare : (before r after : List ℕ) → Blanks before → Blanks after → All Bare r → Trimmed (before ++ (r ++ after)) r
trimmed_bare before r after blanks-b blanks-a h = record {
  before = before;
  after = after;
  whole = refl;
  blanks_before = blanks-b;
  blanks_after = blanks-a;
  begins = λ b rest e. not-true (blank b) (All-head Bare b rest (subst (All Bare) e h));
  ends = λ b rest e. not-true (blank b) (subst Bare (get_or_at_push rest b).1 (subst (All Bare) e h (length rest) b (omega (arith, length_push rest b))));
}

-- from the first byte that is no blank to the last one
pub trimmed_between : (t : List ℕ) (first last : ℕ) → last < length t → blank (get_or t first 0) ≡ false → blank (get_or t last 0) ≡ false
    → ((k : ℕ) → k < first → blank (get_or t k 0) ≡ true) → ((k : ℕ) → last < k → k < length t → blank (get_or t k 0) ≡ true)
    → Trimmed t (take (last + 1 - first) (drop first t))
trimmed_between t first last within bare-first bare-last front back =
    let ordered : first ≤ last = ⊎_elim (λ less. absurd (both_ways _ bare-last (front last less))) (λ least. least) (cases_lt last first) in
    let r = take (last + 1 - first) (drop first t) in
    let long : length r ≡ last + 1 - first = omega (arith, length-take-le (last + 1 - first) (drop first t), length-drop first t) in
    let at : (k : ℕ) → k < last + 1 - first → get_or r k 0 ≡ get_or t (first + k) 0 = λ k h. get_or-take (last + 1 - first) (drop first t) k 0 h ∙ get_or-drop first t k 0 in
    let at-first : get_or r 0 0 ≡ get_or t first 0 = at 0 (omega arith) ∙ ap (λ k. get_or t k 0) (omega arith) in
    let at-last : get_or r (length r - 1) 0 ≡ get_or t last 0 = at (length r - 1) (omega arith) ∙ ap (λ k. get_or t k 0) (omega arith) in
    record {
      before = take first t;
      after = drop (last + 1) t;
      whole =
          sym (take-append-drop first t)
          ∙ ap (λ xs. take first t ++ xs)
          (sym (take-append-drop (last + 1 - first) (drop first t)) ∙ ap (λ xs. r ++ xs) (drop-drop (last + 1 - first) first t ∙ ap (λ k. drop k t) (omega arith)));
      blanks_before = All-from_get_or Blank (take first t) 0 (λ k inside. let below : k < first = omega (arith, length-take-le first t) in subst Blank (sym (get_or-take first t k 0 below)) (front k below));
      blanks_after = All-from_get_or Blank (drop (last + 1) t) 0 (λ k inside. subst Blank (sym (get_or-drop (last + 1) t k 0)) (back (last + 1 + k) (omega arith) (omega (arith, length-drop (last + 1) t))));
      begins = λ b rest e. ap blank (sym (ap (λ xs. get_or xs 0 0) e) ∙ at-first) ∙ bare-first;
      ends = ends_bare r (omega arith) (ap blank at-last ∙ bare-last);
    }

pub trimmed_nothing : (t : List ℕ) → ((k : ℕ) → k < length t → blank (get_or t k 0) ≡ true) → Trimmed t []
trimmed_nothing t h = record {
  before = t;
  after = [];
  whole = sym (append-nil t);
  blanks_before = All-from_get_or Blank t 0 h;
  blanks_after = All-nil Blank;
  begins = λ b rest e. absurd (omega (arith, ap length e));
  ends = ends_empty [] (omega arith);
}

-- the same, where the end is looked for behind the blanks in front
module _ (t : List ℕ) (first : ℕ) (f : IsFirstBare t first) where
  pub trimmed_behind : (r : List ℕ) → r ≡ drop first t → (last : ℕ) → last < length r → blank (get_or r last 0) ≡ false
      → ((k : ℕ) → last < k → k < length r → blank (get_or r k 0) ≡ true) → Trimmed t (take (last + 1) r)
  trimmed_behind r e last within bare-last back =
      let long : length r ≡ length t - first = ap length e ∙ length-drop first t in
      let at : (k : ℕ) → get_or r k 0 ≡ get_or t (first + k) 0 = λ k. ap (λ s. get_or s k 0) e ∙ get_or-drop first t k 0 in
      let count : first + last + 1 - first ≡ last + 1 = omega arith in
      let cut : take (first + last + 1 - first) (drop first t) ≡ take (last + 1) r = ap (λ n. take n (drop first t)) count ∙ ap (take (last + 1)) (sym e) in
      subst (Trimmed t) cut
      (trimmed_between t first (first + last) (omega arith) (f.bare (omega arith)) (ap blank (sym (at last)) ∙ bare-last) f.blanks
      (λ k later inside. ap blank (ap (λ i. get_or t i 0) (omega arith) ∙ sym (at (k - first))) ∙ back (k - first) (omega arith) (omega arith)))

  pub nothing_behind : (r : List ℕ) → r ≡ drop first t → ((k : ℕ) → k < length r → blank (get_or r k 0) ≡ true) → Trimmed t []
  nothing_behind r e h =
      let long : length r ≡ length t - first = ap length e ∙ length-drop first t in
      let at : (k : ℕ) → get_or r k 0 ≡ get_or t (first + k) 0 = λ k. ap (λ s. get_or s k 0) e ∙ get_or-drop first t k 0 in
      trimmed_nothing t (λ k inside. ⊎_elim (λ less. f.blanks k less)
      (λ least. ap blank (ap (λ i. get_or t i 0) (omega arith) ∙ sym (at (k - first))) ∙ h (k - first) (omega arith)) (cases_lt k first))

-- trimmed at the front and then at the end, by computing
pub record TrimmedStart (text r : List ℕ) : Type 0 where
  pub before : List ℕ
  pub whole : text ≡ before ++ r
  pub blanks : Blanks before
  pub begins : BeginsBare r

pub record TrimmedEnd (text r : List ℕ) : Type 0 where
  pub after : List ℕ
  pub whole : text ≡ r ++ after
  pub blanks : Blanks after
  pub ends : EndsBare r

front_computed : (t : List ℕ) → TrimmedStart t (bare_front t)
front_computed [] = record { before = []; whole = refl; blanks = All-nil Blank; begins = λ b rest e. absurd (omega (arith, ap length e)) }
front_computed (b ∷ bs) = go (blank b) refl (front_computed bs)
  where
    go : (t : Bool) → blank b ≡ t → TrimmedStart bs (bare_front bs) → TrimmedStart (b ∷ bs) (cond t (bare_front bs) (b ∷ bs))
    go true e d = record { before = b ∷ d.before; whole = ap (λ xs. b ∷ xs) d.whole; blanks = All-cons Blank b d.before e d.blanks; begins = d.begins }
    go false e d = record { before = []; whole = refl; blanks = All-nil Blank; begins = λ c rest p. let same : b ≡ c = cc in ap blank (sym same) ∙ e }

ends_more : (b c : ℕ) (r : List ℕ) → EndsBare (c ∷ r) → EndsBare (b ∷ c ∷ r)
ends_more b c r g x [] e = absurd (omega (arith, ap length e))
ends_more b c r g x (y ∷ ys) e = g x ys (cc)

back_computed : (t : List ℕ) → TrimmedEnd t (bare_back t)
back_computed [] = record { after = []; whole = refl; blanks = All-nil Blank; ends = ends_empty [] (omega arith) }
back_computed (b ∷ bs) = go (bare_back bs) (back_computed bs)
  where
    alone : (t : Bool) → blank b ≡ t → TrimmedEnd bs [] → TrimmedEnd (b ∷ bs) (cond t [] (b ∷ []))
    alone true e d = record { after = b ∷ bs; whole = refl; blanks = All-cons Blank b bs e (subst Blanks (sym d.whole) d.blanks); ends = ends_empty [] (omega arith) }
    alone false e d = record { after = d.after; whole = ap (λ xs. b ∷ xs) d.whole; blanks = d.blanks; ends = ends_bare (b ∷ []) (omega arith) e }

    go : (r : List ℕ) → TrimmedEnd bs r → TrimmedEnd (b ∷ bs) (ahead b r)
    go [] d = alone (blank b) refl d
    go (c ∷ cs) d = record { after = d.after; whole = ap (λ xs. b ∷ xs) d.whole; blanks = d.blanks; ends = ends_more b c cs d.ends }

pub trimmed_computed : (t : List ℕ) → Trimmed t (bare_back (bare_front t))
trimmed_computed t =
    let front = front_computed t in
    let back = back_computed (bare_front t) in
    record {
      before = front.before;
      after = back.after;
      whole = front.whole ∙ ap (λ r. front.before ++ r) back.whole;
      blanks_before = front.blanks;
      blanks_after = back.blanks;
      begins = λ b r e. front.begins b (r ++ back.after) (back.whole ∙ ap (λ x. x ++ back.after) e);
      ends = back.ends;
    }
