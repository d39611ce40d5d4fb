-- From the words of a line to the line.
use Rattle.std.proofs.Common.{◌≡◌, ◌≢◌, ℕ, List, [], ◌∷◌, ◌++◌, IsErr, Ok, Err, Result, sym, ap, ◌∙◌, append-nil, append_assoc}
use Rattle.std.proofs.lemmas.Bool.{false≢true}
use Rattle.records.specs.declared.location.Location.{Location}
use Rattle.records.specs.declared.location.NodeOrigin.{NodeOrigin}
use Rattle.records.specs.declared.record.Event.{Event}
use Rattle.records.specs.declared.record.Record.{Record}
use Rattle.tape_file.specs.Lines.{location_words, origin_words, event_words, record_words, written, SmallLocation, SmallOrigin, SmallEvent, SmallRecord}
use Rattle.tape_file.specs.Reading.{Whole, Lacks, Reads}
use Rattle.tape_file.specs.Spaces.{spaced, split}
use Rattle.tape_file.proofs.Solidity.{split_written}
use Rattle.tape_file.proofs.Spacing.{spaced_split}

module _ (line : List ℕ) (ws : List (List ℕ)) (cut : ws ≡ split line) where
  -- the words of the line are those of a record whose line it is
  words_of : (s : Record) → SmallRecord s → line ≡ written s → ws ≡ record_words s ++ []
  words_of s h e = cut ∙ ap split e ∙ split_written s h ∙ sym (append-nil (record_words s))

  pub reads_whole : (r : Record) (rest : List (List ℕ)) → rest ≡ [] → Whole record_words SmallRecord ws r rest → Reads {E = ℕ} line (Ok r)
  reads_whole r rest z w =
      let f : split line ≡ record_words r = sym cut ∙ w.front ∙ ap (λ (l : List (List ℕ)). record_words r ++ l) z ∙ append-nil (record_words r) in
      (w.fits, sym (spaced_split line) ∙ ap spaced f, λ s h e. (w.only s [] h (words_of s h e)).0)

  pub reads_lacks : {E : Type 0} (r : Result Record E) → IsErr r → Lacks record_words SmallRecord ws → Reads line r
  reads_lacks (Ok x) h k = absurd (false≢true h)
  reads_lacks (Err d) h k = λ s f e. k.none s [] f (words_of s f e)

  pub reads_more : (r : Record) (rest more : List (List ℕ)) (w : List ℕ) → rest ≡ w ∷ more → Whole record_words SmallRecord ws r rest → (s : Record) → SmallRecord s → line ≢ written s
  reads_more r rest more w some k s h e = let p = (k.only s [] h (words_of s h e)).1 in cc

-- a location, an origin and an event make a record
pub record_whole : {ws ws₁ ws₂ ws₃ : List (List ℕ)} {x : Location} {o : NodeOrigin} {v : Event} → Whole location_words SmallLocation ws x ws₁ → Whole origin_words SmallOrigin ws₁ o ws₂ → Whole event_words SmallEvent ws₂ v ws₃ → Whole record_words SmallRecord ws (record { location = x; origin = o; event = v }) ws₃
record_whole {ws} {ws₁} {ws₂} {ws₃} {x} {o} {v} a b d = record {
  fits = (a.fits, b.fits, d.fits);
  front = a.front ∙ (λ i. location_words x ++ (b.front ∙ (λ j. origin_words o ++ d.front j) ∙ sym (append_assoc (origin_words o) (event_words v) ws₃)) i);
  only = λ y s h e.
      let p = a.only y.location _ h.0 e in
      let q = b.only y.origin (event_words y.event ++ s) h.1 (p.1 ∙ append_assoc (origin_words y.origin) (event_words y.event) s) in
      let r = d.only y.event s h.2 q.1 in
      (λ i. record { location = p.0 i; origin = q.0 i; event = r.0 i }, r.1);
}
