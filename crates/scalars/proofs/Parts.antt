-- The parts of a spelled integer are those that the code finds.
use Rattle.std.proofs.Common.{◌≡◌, ℕ, ◌<◌, ◌≤◌, Bool, true, not, ◌&&◌, eqb, List, [], ◌++◌, get_or, codes, All, sym, refl, ap, ◌∙◌, subst, arith, lit≤}
use Rattle.std.proofs.lemmas.Bool.{not_from_false}
use Rattle.std.proofs.lemmas.List.Elements.{All-append, All-weaker}
use Rattle.std.proofs.lemmas.List.Sums.{AllPass-from_list_all}
use Rattle.scalars.specs.Class.{class_of}
use Rattle.scalars.specs.Radices.{radix_of, digits_of}
use Rattle.scalars.specs.Signs.{is_minus, unsigned}
use Rattle.scalars.specs.Trimmed.{blank, Trimmed}
use Rattle.scalars.specs.Spelling.{Sign, Prefix, Digits, Plain, Spells, SpellingUnique}
use Rattle.scalars.specs.Spelling.Sign.{unsigned as no_sign, plus, minus}
use Rattle.scalars.specs.Spelling.Prefix.{decimal, small_x, large_x, small_o, large_o, small_b, large_b}
use Rattle.scalars.proofs.Numbers.{reads}
use Rattle.scalars.specs.Running.State.{so_far}
use Rattle.scalars.proofs.Prefixes.{Among, among, first, not_blank, sign_off, prefix_off, sign_of, prefix_of, radix_bounds}
use Rattle.scalars.proofs.Trimming.{bare, Bare, trimmed_bare, trimmed_unique}

-- what sign, radix and digits say
pub record Says (minus : Bool) (radix : ℕ) (digits : List ℕ) (negative : Bool) (magnitude : ℕ) : Type 0 where
  pub spelled : Digits radix digits magnitude
  pub plain : Plain radix digits
  pub below_zero : negative ≡ (minus && not (eqb magnitude 0))

-- a trimmed text, by the parts that the code finds in it
abbrev pub Parts : List ℕ → Bool → ℕ → Type 0
Parts s n m = Says (is_minus s) (radix_of (unsigned s)) (digits_of (unsigned s)) n m

prefix_small : {p : List ℕ} {radix : ℕ} → Prefix p radix → radix ≤ 16
prefix_small decimal = lit≤ tt
prefix_small small_x = lit≤ tt
prefix_small large_x = lit≤ tt
prefix_small small_o = lit≤ tt
prefix_small large_o = lit≤ tt
prefix_small small_b = lit≤ tt
prefix_small large_b = lit≤ tt

-- no blank stands in a sign, a prefix or digits
sign_bare : {s : List ℕ} {m : Bool} → Sign s m → All Bare s
sign_bare no_sign = AllPass-from_list_all bare [] refl
sign_bare plus = AllPass-from_list_all bare (codes "+") refl
sign_bare minus = AllPass-from_list_all bare (codes "-") refl

prefix_bare : {p : List ℕ} {radix : ℕ} → Prefix p radix → All Bare p
prefix_bare decimal = AllPass-from_list_all bare [] refl
prefix_bare small_x = AllPass-from_list_all bare (codes "0x") refl
prefix_bare large_x = AllPass-from_list_all bare (codes "0X") refl
prefix_bare small_o = AllPass-from_list_all bare (codes "0o") refl
prefix_bare large_o = AllPass-from_list_all bare (codes "0O") refl
prefix_bare small_b = AllPass-from_list_all bare (codes "0b") refl
prefix_bare large_b = AllPass-from_list_all bare (codes "0B") refl

-- a digit stands behind the sign
digit_first : {p ds : List ℕ} {radix m : ℕ} → Prefix p radix → Digits radix ds m → class_of (get_or (p ++ ds) 0 0) < 16
digit_first decimal d = let h = first (lit≤ tt) d in omega arith
digit_first small_x d = omega arith
digit_first large_x d = omega arith
digit_first small_o d = omega arith
digit_first large_o d = omega arith
digit_first small_b d = omega arith
digit_first large_b d = omega arith

module _ {t : List ℕ} {n : Bool} {m : ℕ} (s : Spells t n m) where
  abbrev pub middle : List ℕ
  middle = s.sign ++ (s.prefix ++ s.digits)

  small : s.radix ≤ 16
  small = prefix_small s.prefixed

  pub trimmed_middle : Trimmed t middle
  trimmed_middle =
      subst (λ t. Trimmed t middle) (sym s.whole)
      (trimmed_bare s.before middle s.after s.blanks_before s.blanks_after
      (All-append Bare s.sign (s.prefix ++ s.digits) (sign_bare s.signed)
      (All-append Bare s.prefix s.digits (prefix_bare s.prefixed)
      (All-weaker (Among s.radix) Bare (λ b h. not_from_false (blank b) (not_blank s.radix b small h)) s.digits (among s.spelled)))))

  parts_middle : Parts middle n m
  parts_middle =
      let (is-minus, is-rest) = sign_off s.signed (s.prefix ++ s.digits) (digit_first s.prefixed s.spelled) in
      let (is-radix, is-digits) = prefix_off s.prefixed s.digits (among s.spelled) in
      subst (λ u. Says (is_minus middle) (radix_of u) (digits_of u) n m) (sym is-rest)
      (subst (λ b. Says b (radix_of (s.prefix ++ s.digits)) (digits_of (s.prefix ++ s.digits)) n m) (sym is-minus)
      (subst (λ r. Says s.minus r (digits_of (s.prefix ++ s.digits)) n m) (sym is-radix)
      (subst (λ ds. Says s.minus s.radix ds n m) (sym is-digits) (record { spelled = s.spelled; plain = s.plain; below_zero = s.below_zero }))))

  pub into_parts : (r : List ℕ) → Trimmed t r → Parts r n m
  into_parts r d = subst (λ r. Parts r n m) (trimmed_unique middle r trimmed_middle d) parts_middle

pub from_parts : {t : List ℕ} {n : Bool} {m : ℕ} (r : List ℕ) → Trimmed t r → Parts r n m → Spells t n m
from_parts r d p =
    let (sign, signed, e) = sign_of r in
    let (prefix, prefixed, f) = prefix_of (unsigned r) in
    record {
      before = d.before;
      sign = sign;
      prefix = prefix;
      digits = digits_of (unsigned r);
      after = d.after;
      minus = is_minus r;
      radix = radix_of (unsigned r);
      whole = d.whole ∙ ap (λ x. d.before ++ (x ++ d.after)) (e ∙ ap (λ x. sign ++ x) f);
      blanks_before = d.blanks_before;
      blanks_after = d.blanks_after;
      signed = signed;
      prefixed = prefixed;
      spelled = p.spelled;
      plain = p.plain;
      below_zero = p.below_zero;
    }

pub so_far_number : (v n : ℕ) (a b : Bool) → so_far v a ≡ so_far n b → v ≡ n
so_far_number v n a b e = cc

pub unique : SpellingUnique
unique t n n' m m' s s' =
    let p = into_parts s (middle s) (trimmed_middle s) in
    let q = into_parts s' (middle s) (trimmed_middle s) in
    let small = (radix_bounds (unsigned (middle s))).1 in
    let e = so_far_number m m' true true (sym (reads small p.spelled) ∙ reads small q.spelled) in
    (p.below_zero ∙ ap (λ x. is_minus (middle s) && not (eqb x 0)) e ∙ sym q.below_zero, e)
