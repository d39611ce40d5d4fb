-- What stands in front of the digits, read byte by byte, and what the grammar puts there.
use Rattle.std.proofs.Common.{◌≡◌, ℕ, ◌<◌, ◌≤◌, Bool, true, false, cond, ◌||◌, eqb, ◌⊎◌, List, [], ◌∷◌, ◌++◌, length, get_or, drop, All, sym, refl, ap, ◌∙◌, subst, ap₂, inl, inr, ⊎_elim, arith, lit≤}
use Rattle.std.proofs.lemmas.List.Elements.{All-nil, All-cons, All-append, All-push, All-get_or}
use Rattle.std.proofs.lemmas.Bool.{cases_eq, cond-false, eqb-true, ne_eqb, or_from}
use Rattle.std.proofs.lemmas.Bool.Decides.{nat_tests}
use Rattle.scalars.specs.Class.{class_of}
use Rattle.scalars.specs.Radices.{lettered, radix_of, digits_of}
use Rattle.scalars.specs.Signs.{is_minus, unsigned}
use Rattle.scalars.specs.Trimmed.{blank}
use Rattle.scalars.specs.Spelling.{Sign, Prefix, Digits, Plain}
use Rattle.scalars.specs.Spelling.Sign.{unsigned as no_sign, plus, minus}
use Rattle.scalars.specs.Spelling.Prefix.{decimal, small_x, large_x, small_o, large_o, small_b, large_b}
use Rattle.scalars.specs.Spelling.Digits.{one, more, apart}

pub digits_all : (s : List ℕ) → radix_of s ≡ 10 → digits_of s ≡ s
digits_all s h = grind (arith, nat_tests)

pub radix_bounds : (s : List ℕ) → (1 ≤ radix_of s) × (radix_of s ≤ 16)
radix_bounds s = (grind (arith, nat_tests), grind (arith, nat_tests))

-- a byte among digits
abbrev pub Among : ℕ → ℕ → Type 0
Among radix b = (class_of b < radix) ⊎ (b ≡ 95)

pub among : {radix : ℕ} {ds : List ℕ} {n : ℕ} → Digits radix ds n → All (Among radix) ds
among {radix} (one b h) = All-cons (Among radix) b [] (inl h) (All-nil (Among radix))
among {radix} (more {ds} b d h) = All-push (Among radix) ds b (among d) (inl h)
among {radix} (apart {ds} b d h) =
    All-append (Among radix) ds (95 ∷ b ∷ []) (among d) (All-cons (Among radix) 95 (b ∷ []) (inr refl) (All-cons (Among radix) b [] (inl h) (All-nil (Among radix))))

-- the first byte of digits is one
front : (radix : ℕ) (ds es : List ℕ) → radix ≤ 16 → class_of (get_or ds 0 0) < radix → class_of (get_or (ds ++ es) 0 0) < radix
front radix [] es small h = absurd (omega arith)
front radix (b ∷ ds) es small h = h

pub first : {radix : ℕ} {ds : List ℕ} {n : ℕ} → radix ≤ 16 → Digits radix ds n → class_of (get_or ds 0 0) < radix
first small (one b h) = h
first {radix} small (more {ds} b d h) = front radix ds (b ∷ []) small (first small d)
first {radix} small (apart {ds} b d h) = front radix ds (95 ∷ b ∷ []) small (first small d)

-- bytes of two classes are two bytes
other : (radix b c : ℕ) → class_of b < radix → radix ≤ class_of c → eqb b c ≡ false
other radix b c h k = ne_eqb b c (λ e. omega (arith, ap class_of e))

pub not_blank : (radix b : ℕ) → radix ≤ 16 → Among radix b → blank b ≡ false
not_blank radix b small (inr e) = ap blank e
not_blank radix b small (inl h) =
    let k : class_of b < 16 = omega arith in
    or_from _ _ (other 16 b 32 k (lit≤ tt))
    (or_from _ _ (other 16 b 9 k (lit≤ tt)) (or_from _ _ (other 16 b 13 k (lit≤ tt)) (other 16 b 10 k (lit≤ tt))))

-- a sign before a digit is taken off
pub sign_off : {s : List ℕ} {m : Bool} → Sign s m → (u : List ℕ) → class_of (get_or u 0 0) < 16 → (is_minus (s ++ u) ≡ m) × (unsigned (s ++ u) ≡ u)
sign_off no_sign u h =
    let p = other 16 (get_or u 0 0) 43 h (lit≤ tt) in
    let q = other 16 (get_or u 0 0) 45 h (lit≤ tt) in
    (q, cond-false _ (drop 1 u) u (or_from _ _ p q))
sign_off plus u h = (refl, refl)
sign_off minus u h = (refl, refl)

-- a prefix before digits is taken off
not_lettered : (b : ℕ) → (class_of b < 10) ⊎ (b ≡ 95) → lettered b ≡ 10
not_lettered b (inr e) = ap lettered e
not_lettered b (inl h) =
    cond-false _ _ _ (or_from _ _ (other 10 b 120 h (lit≤ tt)) (other 10 b 88 h (lit≤ tt)))
    ∙ cond-false _ _ _ (or_from _ _ (other 10 b 111 h (lit≤ tt)) (other 10 b 79 h (lit≤ tt)))
    ∙ cond-false _ _ _ (or_from _ _ (other 10 b 98 h (lit≤ tt)) (other 10 b 66 h (lit≤ tt)))

second : (ds : List ℕ) → All (Among 10) ds → lettered (get_or ds 1 0) ≡ 10
second [] h = refl
second (a ∷ []) h = refl
second (a ∷ b ∷ ds) h = not_lettered b (All-get_or (Among 10) (a ∷ b ∷ ds) 1 0 (omega arith) h)

decimal_radix : (ds : List ℕ) → All (Among 10) ds → radix_of ds ≡ 10
decimal_radix ds h = let e = second ds h in grind (arith, nat_tests)

pub prefix_off : {p : List ℕ} {radix : ℕ} → Prefix p radix → (ds : List ℕ) → All (Among radix) ds → (radix_of (p ++ ds) ≡ radix) × (digits_of (p ++ ds) ≡ ds)
prefix_off decimal ds h = (decimal_radix ds h, digits_all ds (decimal_radix ds h))
prefix_off small_x ds h = (refl, refl)
prefix_off large_x ds h = (refl, refl)
prefix_off small_o ds h = (refl, refl)
prefix_off large_o ds h = (refl, refl)
prefix_off small_b ds h = (refl, refl)
prefix_off large_b ds h = (refl, refl)

-- what stands in front, as the grammar has it
pub sign_of : (s : List ℕ) → (p : List ℕ) × Sign p (is_minus s) × (s ≡ p ++ unsigned s)
sign_of [] = ([], no_sign, refl)
sign_of (b ∷ s) = go (eqb b 43) (eqb b 45) (eqb-true b 43) (eqb-true b 45)
  where
    go : (p q : Bool) → (p ≡ true → b ≡ 43) → (q ≡ true → b ≡ 45) → (x : List ℕ) × Sign x q × (b ∷ s ≡ x ++ cond (p || q) s (b ∷ s))
    go true true f g = absurd (omega (arith, f refl, g refl))
    go true false f g = (43 ∷ [], plus, ap (λ x. x ∷ s) (f refl))
    go false true f g = (45 ∷ [], minus, ap (λ x. x ∷ s) (g refl))
    go false false f g = ([], no_sign, refl)

abbrev Found : List ℕ → Type 0
Found u = (p : List ℕ) × Prefix p (radix_of u) × (u ≡ p ++ digits_of u)

found_decimal : (u : List ℕ) → radix_of u ≡ 10 → Found u
found_decimal u e = ([], subst (Prefix []) (sym e) decimal, sym (digits_all u e))

try : {A : Type 0} (x c : ℕ) → (x ≡ c → A) → ((x ≡ c → ⊥) → A) → A
try x c f g = ⊎_elim f g (cases_eq x c)

pub prefix_of : (u : List ℕ) → Found u
prefix_of [] = found_decimal [] refl
prefix_of (a ∷ []) = found_decimal (a ∷ []) (grind (arith, nat_tests))
prefix_of (a ∷ x ∷ ds) = try a 48 zero (λ n. found_decimal (a ∷ x ∷ ds) (cond-false _ _ _ (ne_eqb a 48 n)))
  where
    named : (c : ℕ) → Found (48 ∷ c ∷ ds) → a ≡ 48 → x ≡ c → Found (a ∷ x ∷ ds)
    named c f p q = subst Found (ap₂ (λ a x. a ∷ x ∷ ds) (sym p) (sym q)) f

    zero : a ≡ 48 → Found (a ∷ x ∷ ds)
    zero p =
        try x 120 (named 120 (_, small_x, refl) p) (λ n₁. try x 88 (named 88 (_, large_x, refl) p)
        (λ n₂. try x 111 (named 111 (_, small_o, refl) p) (λ n₃. try x 79 (named 79 (_, large_o, refl) p)
        (λ n₄. try x 98 (named 98 (_, small_b, refl) p) (λ n₅. try x 66 (named 66 (_, large_b, refl) p)
        (λ n₆. found_decimal (a ∷ x ∷ ds) (grind (arith, nat_tests))))))))

-- a zero that leads other digits of a decimal, and none
pub zero_is_leading : (radix : ℕ) (ds : List ℕ) → radix ≡ 10 → 2 ≤ length ds → get_or ds 0 0 ≡ 48 → Plain radix ds → ⊥
zero_is_leading radix [] ten h e g = omega arith
zero_is_leading radix (b ∷ ds) ten h e g = omega (arith, ap length (g ten ds (ap (λ x. x ∷ ds) e)))

pub no_zero_leads : (radix : ℕ) (ds : List ℕ) → (radix ≡ 10 → 2 ≤ length ds → get_or ds 0 0 ≡ 48 → ⊥) → Plain radix ds
no_zero_leads radix ds h ten [] e = refl
no_zero_leads radix ds h ten (b ∷ rest) e = absurd (h ten (omega (arith, ap length e)) (ap (λ xs. get_or xs 0 0) e))
