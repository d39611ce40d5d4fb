-- Reading parts one after another, and parts that begin with a word of their own.
use Rattle.std.proofs.Common.{◌≡◌, ℕ, List, [], ◌∷◌, ◌++◌, IsErr, Ok, Err, Result, sym, ap, ◌∙◌, subst}
use Rattle.std.proofs.lemmas.Bool.{false≢true}
use Rattle.tape_file.specs.Reading.{Means, Whole, Lacks, Parses}

-- where a `?` leaves with an error, nothing was to be read
pub exit : {X E : Type 0} (words : X → List (List ℕ)) (Fits : X → Type 0) (ws rest : List (List ℕ)) (r : Result X E) → IsErr r → Lacks words Fits ws → Parses words Fits ws r rest
exit words Fits ws rest (Ok x) h k = absurd (false≢true h)
exit words Fits ws rest (Err e) h k = k

-- a part that is one word
pub from_word : {X E : Type 0} (spelt : X → List ℕ) (Fits : X → Type 0) → ((x y : X) → Fits x → Fits y → spelt x ≡ spelt y → x ≡ y) → (ws rest : List (List ℕ)) (word : List ℕ) (r : Result X E) → ws ≡ word ∷ rest → Means spelt Fits word r → Parses (λ x. spelt x ∷ []) Fits ws r rest
from_word spelt Fits same ws rest word (Ok x) e m = record {
  fits = m.0;
  front = let f = m.1 in cc;
  only = λ y s h k. let f = m.1 in let g : spelt x ≡ spelt y = cc in (same x y m.0 h g, cc);
}
from_word spelt Fits same ws rest word (Err d) e m = record { none = λ y s h k. m y h cc }

-- each value of X that begins with the word `lead` is made of a part that follows it
pub record Leads {X B : Type 0} (words : X → List (List ℕ)) (Fits : X → Type 0) (lead : List ℕ) (body : B → List (List ℕ)) (FitsB : B → Type 0) (mk : B → X) : Type 0 where
  pub opens : (b : B) → words (mk b) ≡ lead ∷ body b
  pub fits : (b : B) → Fits (mk b) → FitsB b
  pub back : (b : B) → FitsB b → Fits (mk b)
  pub view : (y : X) (s ws : List (List ℕ)) → lead ∷ ws ≡ words y ++ s → (b : B) × (mk b ≡ y)

module _ {X B : Type 0} {words : X → List (List ℕ)} {Fits : X → Type 0} {lead : List ℕ} {body : B → List (List ℕ)} {FitsB : B → Type 0} {mk : B → X} (l : Leads words Fits lead body FitsB mk) (ws₀ ws : List (List ℕ)) (word : List ℕ) (e : ws₀ ≡ word ∷ ws) (is : word ≡ lead) where
  inner : (y : X) (s : List (List ℕ)) → Fits y → ws₀ ≡ words y ++ s → (b : B) × (mk b ≡ y) × FitsB b × (ws ≡ body b ++ s)
  inner y s h k =
      let p = l.view y s ws (sym (e ∙ ap (λ (w : List ℕ). w ∷ ws) is) ∙ k) in
      let o = l.opens p.0 in
      let q : lead ∷ ws ≡ (lead ∷ body p.0) ++ s = sym (e ∙ ap (λ (w : List ℕ). w ∷ ws) is) ∙ k ∙ ap (λ (x : X). words x ++ s) (sym p.1) ∙ ap (λ (x : List (List ℕ)). x ++ s) o in
      (p.0, p.1, l.fits p.0 (subst Fits (sym p.1) h), cc)

  -- where a `?` leaves with an error after the word `lead`
  pub led_exit : {E : Type 0} (r : Result X E) (rest : List (List ℕ)) → IsErr r → Lacks body FitsB ws → Parses words Fits ws₀ r rest
  led_exit r rest h k = exit words Fits ws₀ rest r h (record { none = λ y s f g. let p = inner y s f g in k.none p.0 s p.2 p.3 })

  pub led_whole : (b : B) (rest : List (List ℕ)) → Whole body FitsB ws b rest → Whole words Fits ws₀ (mk b) rest
  led_whole b rest w = record {
    fits = l.back b w.fits;
    front = e ∙ ap (λ (w : List ℕ). w ∷ ws) is ∙ ap (λ (l : List (List ℕ)). lead ∷ l) w.front ∙ ap (λ (x : List (List ℕ)). x ++ rest) (sym (l.opens b));
    only = λ y s h f. let p = inner y s h f in let q = w.only p.0 s p.2 p.3 in (ap mk q.0 ∙ p.1, q.1);
  }
