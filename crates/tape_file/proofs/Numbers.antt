-- Decimal numerals: which texts `decimal` writes, and that `parse` reads them.
use Rattle.std.proofs.Common.{◌≡◌, ◌≢◌, ℕ, ◌^◌, ◌<◌, ◌⊎◌, List, length, get_or, Ok, Err, Result, MatchResult, codes, decimal, sym, ap, ◌∙◌, subst, inl, inr, lit<, arith}
use Rattle.std.proofs.lemmas.Fmt.{decimal_digit, decimal_nonempty, decimal-digits_value, digits_decimal, first_decimal, parse-decimal}
use Rattle.std.proofs.lemmas.Str.Parse.{IsNumeralModel, numerals_by_value, tells_digits, not_in_digits, parse_plain}
use Rattle.std.proofs.lemmas.Bool.{cases_lt}
use Rattle.std.specs.Result.{IsErrAnd}
use Rattle.std.specs.Str.Parse.{AllDigits, ParsesUnsigned, digits_value}
use Rattle.tape_file.specs.Lines.{Small}
use Rattle.tape_file.specs.Reading.{Means}

own : IsNumeralModel (AllDigits 10) (digits_value 10)
own = numerals_by_value _ tells_digits

-- no byte of a numeral is outside the digits
pub no_mark : (n c : ℕ) → n < 2 ^ 32 → c < 48 → (i : ℕ) → i < length (decimal n) → get_or (decimal n) i 0 ≡ c → ⊥
no_mark n c h k = not_in_digits own (decimal n) c (digits_decimal own n (omega arith)) (λ d. omega arith)

-- a zero in front is the number 0
pub zero_alone : (bs : List ℕ) (n : ℕ) → n < 2 ^ 32 → bs ≡ decimal n → get_or bs 0 0 ≡ 48 → bs ≡ codes "0"
zero_alone bs n h e z =
    let d : get_or (decimal n) 0 0 ≡ 48 = ap (λ (l : List ℕ). get_or l 0 0) (sym e) ∙ z in
    elim (cases_lt 0 n) [
      | inl k ↦ absurd (omega (arith, first_decimal n k (omega arith)))
      | inr k ↦ let o : n ≡ 0 = omega arith in e ∙ ap decimal o ∙ decimal_digit 0 (omega arith)
    ]

-- a text with a plus in front, or a zero in front of more, is no number
pub no_number : (bs : List ℕ) → bs ≢ codes "0" → (get_or bs 0 0 ≡ 48) ⊎ (get_or bs 0 0 ≡ 43) → (n : ℕ) → n < 2 ^ 32 → bs ≢ decimal n
no_number bs more (inl z) n h e = more (zero_alone bs n h e z)
no_number bs more (inr p) n h e = no_mark n 43 h (lit< tt) 0 (decimal_nonempty n (omega arith)) (ap (λ (l : List ℕ). get_or l 0 0) (sym e) ∙ p)

-- what was parsed, of a text with no plus in front, and no zero in front of more
pub parsed : {E : Type 0} (bs : List ℕ) (r : Result ℕ E) → ParsesUnsigned 32 10 bs r → get_or bs 0 0 ≢ 43 → (get_or bs 0 0 ≡ 48 → bs ≡ codes "0") → Means decimal Small bs r
parsed {E = E} bs (Ok n) h plus zero =
    let p = parse_plain own {E = E} 32 bs (Ok n) h plus in
    let e : decimal (digits_value 10 bs) ≡ bs = decimal-digits_value own bs p.0.0 p.0.1 (λ z. ap length (zero z)) (omega (arith, p.0.2)) in
    (subst (λ x. x < 2 ^ 32) (sym p.1) p.0.2, sym (ap decimal p.1 ∙ e))
parsed bs (Err d) h plus zero = λ n k e. let r = parse-decimal 32 n bs (Err d) k (omega arith) e h in cc

-- the same, where the error was replaced
pub parsed_by_map : {D E : Type 0} (P : D → E → Type 0) (bs : List ℕ) (r : Result ℕ D) (q : Result ℕ E) → ParsesUnsigned 32 10 bs r → get_or bs 0 0 ≢ 43 → (get_or bs 0 0 ≡ 48 → bs ≡ codes "0") → MatchResult r (λ x. q ≡ Ok x) (λ e. IsErrAnd q (P e)) → Means decimal Small bs q
parsed_by_map {E = E} P bs (Ok n) q h plus zero m = subst (Means decimal Small bs) (sym m) (parsed {E = E} bs (Ok n) h plus zero)
parsed_by_map P bs (Err d) (Ok n) h plus zero m = absurd m
parsed_by_map P bs (Err d) (Err e) h plus zero m = parsed bs (Err d) h plus zero
