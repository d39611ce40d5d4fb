-- The words of a type with few values: looking a word up among the values.
use Rattle.std.proofs.Common.{◌≡◌, ℕ, true, cond, List, [], ◌∷◌, find, Some, None, Ok, Err, Option, Result, Bor, MatchResult, option_map, refl, sym, ap, ◌∙◌, subst, inl, inr, Bool}
use Rattle.std.proofs.lemmas.Bool.{cases_Bool}
use Rattle.std.proofs.lemmas.List.Elements.{All-head, All-tail}
use Rattle.std.proofs.lemmas.Slice.Eq.{bytes_eq-Decides}
use Rattle.std.specs.Bool.{⊤}
use Rattle.std.specs.List.{All}
use Rattle.std.specs.Str.{bytes_eq}
use Rattle.tape_file.specs.Reading.{Means, Parses}
use Rattle.tape_file.specs.Tables.{WordsOf, FindsEach}
use Rattle.tape_file.proofs.Parsing.{from_word}

-- what `find` gives passes the test, and is what every element is
passes : {X : Type 0} (P : X → Type 0) (p : X → Bool) (xs : List X) (x : X) → All P xs → find p xs ≡ Some x → (p x ≡ true) × P x
passes P p [] x a h = absurd (let k = h in cc)
passes P p (y ∷ ys) x a h = elim (cases_Bool (p y)) [
  | inl e ↦ let k : Some y ≡ Some x = ap (λ b. cond b (Some y) (find p ys)) (sym e) ∙ h in let j : y ≡ x = cc in (ap p (sym j) ∙ e, subst P j (All-head P y ys a))
  | inr e ↦ passes P p ys x (All-tail P y ys a) (ap (λ b. cond b (Some y) (find p ys)) (sym e) ∙ h)
]

module _ {X : Type 0} (spelled : X → List ℕ) (xs : List (Bor (List ℕ) × X)) (own : WordsOf spelled xs) (each : FindsEach spelled xs) where
  abbrev pub looked_up : List ℕ → Option (Bor (List ℕ) × X)
  looked_up w = find (λ p. bytes_eq p.0.now w) xs

  abbrev pub found : List ℕ → Option X
  found w = option_map (λ p. p.1) (looked_up w)

  apart : (x y : X) → spelled x ≡ spelled y → x ≡ y
  apart x y e =
      let s : Some x ≡ Some y = sym (each x) ∙ ap found e ∙ each y in
      cc

  means : {E : Type 0} (word : List ℕ) (r : Result X E) → MatchResult r (λ x. found word ≡ Some x) (λ _. found word ≡ None) → Means spelled (λ _. ⊤) word r
  means word (Ok x) h = go (looked_up word) refl h
    where
      go : (o : Option (Bor (List ℕ) × X)) → looked_up word ≡ o → option_map (λ p. p.1) o ≡ Some x → ⊤ × (word ≡ spelled x)
      go None q k = absurd (let z = k in cc)
      go (Some p) q k =
          let (same, is) = passes (λ p. p.0.now ≡ spelled p.1) (λ p. bytes_eq p.0.now word) xs p own q in
          let last : p.1 ≡ x = cc in
          (tt, sym ((bytes_eq-Decides p.0.now word).0 same) ∙ is ∙ ap spelled last)
  means word (Err e) h = λ y f k. let s : None ≡ Some y = sym h ∙ ap found k ∙ each y in cc

  -- a word is looked up among the values
  pub from_listed : {E : Type 0} (ws rest : List (List ℕ)) (word : List ℕ) (r : Result X E) → ws ≡ word ∷ rest → MatchResult r (λ x. found word ≡ Some x) (λ _. found word ≡ None)
      → Parses (λ x. spelled x ∷ []) (λ _. ⊤) ws r rest
  from_listed ws rest word r k h = from_word spelled (λ _. ⊤) (λ x y f g. apart x y) ws rest word r k (means word r h)
