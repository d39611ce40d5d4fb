-- A tape's events and close, by its first faulty record, and a reader that was just made.
use Rattle.std.proofs.Common.{◌≡◌, ℕ, ◌+◌, ◌≤◌, Bool, true, false, cond, ◌⊎◌, List, [], ◌∷◌, ◌++◌, length, sym, refl, ap, ◌∙◌, subst, inl, inr, arith}
use Rattle.std.specs.List.{AllByRecursion}
use Rattle.records.specs.declared.location.NodeOrigin.TheVariants.{Direct}
use Rattle.records.specs.declared.record.Record.{Record}
use Rattle.records.specs.Places.{placed}
use Rattle.records.specs.Blank.{unknown}
use Rattle.events.specs.declared.reader.Reader.{Reader}
use Rattle.events.specs.declared.tape.Tape.{Tape}
use Rattle.events.specs.Meaning.{Meaning, Close, Plain, Fault, own_at}
use Rattle.events.specs.Reels.{reading}
use Rattle.events.specs.Tape.{fault_at, sound, ends, tape_meaning, tape_from, FirstFault, Fresh}
use Rattle.events.proofs.Meanings.{at_front_false}

module _ (n : ℕ) where
  abbrev Sound : List Record → Type 0
  Sound rs = AllByRecursion (λ r. placed n r.event ≡ true) rs

  -- records of which the first is the i-th of its tape
  abbrev Split : ℕ → List Record → List Record → Close → Type 0
  Split i rs es c =
      ((es ≡ rs) × (c ≡ Plain) × Sound rs)
      ⊎ ((bad : Record) × (rest : List Record) × (rs ≡ es ++ bad ∷ rest) × (c ≡ Fault (fault_at (i + length es))) × (placed n bad.event ≡ false) × Sound es)

  later : (i : ℕ) (x : Record) (rs es : List Record) (c : Close) → placed n x.event ≡ true → Split (i + 1) rs es c → Split i (x ∷ rs) (x ∷ es) c
  later i x rs es c p (inl h) = inl (ap (λ l. x ∷ l) h.0, h.1, (p, h.2))
  later i x rs es c p (inr h) =
      let e : i + 1 + length es ≡ i + length (x ∷ es) = omega arith in
      inr (h.0, h.1, ap (λ l. x ∷ l) h.2, h.3 ∙ ap (λ k. Fault (fault_at k)) e, h.4, (p, h.5))

  here : (i : ℕ) (x : Record) (rs : List Record) (b : Bool) → placed n x.event ≡ b → Split (i + 1) rs (sound n rs) (ends n (i + 1) rs)
      → Split i (x ∷ rs) (cond b (x ∷ sound n rs) []) (cond b (ends n (i + 1) rs) (Fault (fault_at i)))
  here i x rs true p h = later i x rs (sound n rs) (ends n (i + 1) rs) p h
  here i x rs false p h = let e : i ≡ i + 0 = omega arith in inr (x, rs, refl, ap (λ k. Fault (fault_at k)) e, p, tt)

  split : (i : ℕ) (rs : List Record) → Split i rs (sound n rs) (ends n i rs)
  split i [] = inl (refl, refl, tt)
  split i (x ∷ rs) = here i x rs (placed n x.event) refl (split (i + 1) rs)

  first_fault : (tape : List Record) → FirstFault n tape (sound n tape) (ends n 0 tape)
  first_fault tape = from_split (split 0 tape)
    where
      from_split : Split 0 tape (sound n tape) (ends n 0 tape) → FirstFault n tape (sound n tape) (ends n 0 tape)
      from_split (inl h) = inl h
      from_split (inr h) = let e : 0 + length (sound n tape) ≡ length (sound n tape) = omega arith in inr (h.0, h.1, h.2, h.3 ∙ ap (λ k. Fault (fault_at k)) e, h.4, h.5)

-- a reader that was just made
pub fresh : (text : List ℕ) (tape : List Record) (ks : List ℕ) (s : Reader Tape) → length tape ≤ 65536 → length text ≤ 65536
    → tape_meaning s ≡ reading (sound (length text) tape) (ends (length text) 0 tape) Direct false false (own_at unknown (sound (length text) tape)) ks → Fresh text tape ks s
fresh text tape ks s short small is =
    let n = length text in
    let e : tape_meaning s ≡ tape_from n tape ks = is ∙ ap (λ es. record { events = es; close = ends n 0 tape; last = own_at unknown (sound n tape); past = Direct; deferring = false; anchors = ks }) (at_front_false (sound n tape)) in
    record { short = short; small = small; means = e; closes = subst (λ (m : Meaning). FirstFault n tape m.events m.close) (sym e) (first_fault n tape) }

-- a tape has no more events than records
pub sound_short : (n : ℕ) (rs : List Record) → length (sound n rs) ≤ length rs
sound_short n [] = omega arith
sound_short n (x ∷ rs) = step (placed n x.event) (sound_short n rs)
  where
    step : (b : Bool) → length (sound n rs) ≤ length rs → length (cond b (x ∷ sound n rs) []) ≤ length (x ∷ rs)
    step true h = omega arith
    step false h = omega arith
