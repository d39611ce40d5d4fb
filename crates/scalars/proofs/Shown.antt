-- The examples: antt reads the digits of each.
use Rattle.std.proofs.Common.{◌≡◌, ℕ, Bool, true, false, not, ◌&&◌, eqb, List, [], ◌∷◌, ◌++◌, length, get_or, codes, sym, refl, ap, subst, append-nil, arith, lit≤}
use Rattle.std.specs.List.{list_all}
use Rattle.std.proofs.lemmas.List.Elements.{All-nil}
use Rattle.std.proofs.lemmas.List.Sums.{AllPass-from_list_all}
use Rattle.std.proofs.lemmas.List.{nil_from_length}
use Rattle.scalars.specs.Examples.{IntegerExamples}
use Rattle.scalars.specs.Trimmed.{Trimmed}
use Rattle.scalars.specs.Spelling.{Sign, Prefix, Plain, Spells}
use Rattle.scalars.specs.Spelling.Sign.{unsigned as no_sign, minus}
use Rattle.scalars.specs.Spelling.Prefix.{decimal, small_x}
use Rattle.scalars.proofs.Numbers.{reads, spelled, apart_states}
use Rattle.scalars.specs.Running.{run, start}
use Rattle.scalars.specs.Running.State.{so_far, lost}
use Rattle.scalars.proofs.Parts.{Parts, into_parts, so_far_number}
use Rattle.scalars.proofs.Trimming.{Blank, bare, trimmed_bare}

-- no blanks around, and digits that antt reads
shown : {sign prefix : List ℕ} {b : Bool} {radix : ℕ} (digits : List ℕ) (n : Bool) (m : ℕ) → Sign sign b → Prefix prefix radix
    → Plain radix digits → run radix start digits ≡ so_far m true → n ≡ (b && not (eqb m 0)) → Spells (sign ++ (prefix ++ digits)) n m
shown {sign} {prefix} {b} {radix} digits n m signed prefixed plain e z = record {
  before = [];
  sign = sign;
  prefix = prefix;
  digits = digits;
  after = [];
  minus = b;
  radix = radix;
  whole = sym (append-nil (sign ++ (prefix ++ digits)));
  blanks_before = All-nil Blank;
  blanks_after = All-nil Blank;
  signed = signed;
  prefixed = prefixed;
  spelled = spelled radix digits m e;
  plain = plain;
  below_zero = z;
}

-- the parts of a text with no blanks
parts : (t : List ℕ) {n : Bool} {m : ℕ} → list_all bare t ≡ true → Spells t n m → Parts t n m
parts t {n} {m} e s = into_parts s t (subst (λ x. Trimmed x t) (append-nil t) (trimmed_bare [] t [] (All-nil Blank) (All-nil Blank) (AllPass-from_list_all bare t e)))

-- no leading zero: one digit, another first digit, another radix
plain_alone : (b : ℕ) → Plain 10 (b ∷ [])
plain_alone b ten rest e = nil_from_length rest (omega (arith, ap length e))

plain_first : (b : ℕ) (ds : List ℕ) → (b ≡ 48 → ⊥) → Plain 10 (b ∷ ds)
plain_first b ds h ten rest e = absurd (h (ap (λ xs. get_or xs 0 0) e))

plain_sixteen : (ds : List ℕ) → Plain 16 ds
plain_sixteen ds ten = absurd (omega arith)

pub examples : IntegerExamples
examples = (
  shown (codes "0") false 0 no_sign decimal (plain_alone 48) refl refl,
  shown (codes "0") false 0 minus decimal (plain_alone 48) refl refl,
  shown (codes "0") false 0 no_sign small_x (plain_sixteen (codes "0")) refl refl,
  shown (codes "10") true 16 minus small_x (plain_sixteen (codes "10")) refl refl,
  shown (codes "1_000") false 1000 no_sign decimal (plain_first 49 (codes "_000") (λ e. omega arith)) refl refl,
  shown (codes "18446744073709551615") false 18446744073709551615 no_sign decimal (plain_first 49 (codes "8446744073709551615") (λ e. omega arith)) refl refl,
  λ n m s fits. omega (arith, so_far_number 18446744073709551616 m true true (reads (lit≤ tt) (parts (codes "18446744073709551616") refl s).spelled)),
  λ n m s fits. apart_states lost m true refl (reads (lit≤ tt) (parts (codes "1__0") refl s).spelled),
  λ n m s fits. omega (arith, ap length ((parts (codes "007") refl s).plain refl (codes "07") refl)),
)
