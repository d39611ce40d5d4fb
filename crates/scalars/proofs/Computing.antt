-- What is computed of a text is what it says.
use Rattle.std.proofs.Common.{◌≡◌, ℕ, ◌^◌, ◌<◌, ◌≤◌, Bool, true, false, cond, not, ◌&&◌, eqb, ltb, ◌↔◌, List, Some, None, Option, sym, refl, ◌∙◌, subst, arith}
use Rattle.std.proofs.lemmas.Bool.{ltb-true, ltb-false, false≢true}
use Rattle.std.proofs.lemmas.Bool.Decides.{nat_tests}
use Rattle.std.proofs.lemmas.Slice.Eq.{bytes_eq-Decides}
use Rattle.scalars.specs.Computed.{equal_bytes, zero_leads, signed, integer_by, integer_bare, integer_in, bare_front, bare_back, IntegersComputed}
use Rattle.scalars.specs.Radices.{radix_of, digits_of}
use Rattle.scalars.specs.Running.{State, start, run}
use Rattle.scalars.specs.Running.State.{so_far, lost}
use Rattle.scalars.specs.Signs.{is_minus, unsigned}
use Rattle.scalars.specs.Spelling.{Plain, Reading}
use Rattle.scalars.specs.Trimmed.{Trimmed}
use Rattle.scalars.proofs.Numbers.{reads, spelled, apart_states}
use Rattle.scalars.proofs.Parts.{Says, from_parts, into_parts, so_far_number, unique}
use Rattle.scalars.proofs.Prefixes.{radix_bounds, zero_is_leading, no_zero_leads}
use Rattle.scalars.proofs.Trimming.{trimmed_computed}

-- texts of the same bytes
pub same_bytes : (a b : List ℕ) → (equal_bytes a b ≡ true) ↔ (a ≡ b)
same_bytes = bytes_eq-Decides

-- what sign, radix and digits say, within 64 bits
abbrev pub Told : Bool → ℕ → List ℕ → Option (Bool × ℕ) → Type 0
Told minus radix ds (Some (n, m)) = Says minus radix ds n m × (m < 2 ^ 64)
Told minus radix ds None = (n : Bool) (m : ℕ) → Says minus radix ds n m → m < 2 ^ 64 → ⊥

module _ (minus : Bool) (radix : ℕ) (ds : List ℕ) (small : radix ≤ 16) where
  told_run : (s : State) → run radix start ds ≡ s → Plain radix ds → Told minus radix ds (signed minus s)
  told_run lost e plain = λ n m p fits. apart_states (run radix start ds) m true e (reads small p.spelled)
  told_run (so_far v false) e plain = λ n m p fits.
      let f = sym e ∙ reads small p.spelled in
      let q : false ≡ true = cc in
      false≢true q
  told_run (so_far v true) e plain = go (ltb v (2 ^ 64)) (ltb-true v (2 ^ 64)) (ltb-false v (2 ^ 64))
    where
      go : (t : Bool) → (t ≡ true → v < 2 ^ 64) → (t ≡ false → 2 ^ 64 ≤ v) → Told minus radix ds (cond t (Some (minus && not (eqb v 0), v)) None)
      go true f g = (record { spelled = spelled radix ds v e; plain = plain; below_zero = refl }, f refl)
      go false f g = λ n m p fits. omega (arith, g refl, so_far_number v m true true (sym e ∙ reads small p.spelled))

  told : Told minus radix ds (integer_by minus radix ds)
  told = go (zero_leads radix ds) refl
    where
      go : (t : Bool) → zero_leads radix ds ≡ t → Told minus radix ds (cond t None (signed minus (run radix start ds)))
      go true e = λ n m p fits. zero_is_leading radix ds (grind (arith, nat_tests)) (grind (arith, nat_tests)) (grind (arith, nat_tests)) p.plain
      go false e = told_run (run radix start ds) refl (no_zero_leads radix ds (λ ten long zero. grind (arith, nat_tests)))

read_parts : (text r : List ℕ) (o : Option (Bool × ℕ)) → Trimmed text r → Told (is_minus r) (radix_of (unsigned r)) (digits_of (unsigned r)) o → Reading text o
read_parts text r (Some (n, m)) d (p, fits) = (from_parts r d p, fits)
read_parts text r None d h = λ n m s fits. h n m (into_parts s r d) fits

pub integers_computed : IntegersComputed
integers_computed text =
    let r = bare_back (bare_front text) in
    read_parts text r (integer_bare r) (trimmed_computed text) (told (is_minus r) (radix_of (unsigned r)) (digits_of (unsigned r)) (radix_bounds (unsigned r)).1)

-- a text has one reading
reading_unique : (text : List ℕ) (o r : Option (Bool × ℕ)) → Reading text o → Reading text r → o ≡ r
reading_unique text (Some (n, m)) (Some (n', m')) (s, fits) (s', fits') = let (p, q) = unique text n n' m m' s s' in cc
reading_unique text (Some (n, m)) None (s, fits) h = absurd (h n m s fits)
reading_unique text None (Some (n, m)) h (s, fits) = absurd (h n m s fits)
reading_unique text None None h k = refl

-- what the code finds in a text, part by part, and what it is told of them is the text's reading, and the one that is computed
pub read_in : {text r u ds : List ℕ} {minus : Bool} {radix : ℕ} → Trimmed text r → minus ≡ is_minus r → u ≡ unsigned r → radix ≡ radix_of u → ds ≡ digits_of u
    → (o : Option (Bool × ℕ)) → Told minus radix ds o → Reading text o × (o ≡ integer_in text)
read_in {text} {r} {u} {ds} {minus} {radix} d p q e f o h =
    let k =
    subst (λ x. Told x (radix_of (unsigned r)) (digits_of (unsigned r)) o) p
    (subst (λ x. Told minus (radix_of x) (digits_of x) o) q (subst (λ x. Told minus x (digits_of u) o) e (subst (λ x. Told minus radix x o) f h))) in
    let reading = read_parts text r o d k in
    (reading, reading_unique text o (integer_in text) reading (integers_computed text))
