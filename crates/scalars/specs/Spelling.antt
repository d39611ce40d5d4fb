-- How an integer is spelled: blanks, a sign, a prefix, digits, blanks.
use Rattle.std.specs.Prelude.{◌≡◌, ℕ, ◌+◌, ◌*◌, ◌^◌, ◌<◌, Bool, true, false, not, ◌&&◌, List, [], ◌∷◌, ◌++◌, Some, None, codes, Option, ◌==◌}
use Rattle.scalars.specs.Class.{class_of}
use Rattle.scalars.specs.Trimmed.{Blanks}

-- a sign, and whether it is a minus
pub data Sign : List ℕ → Bool → Type 0 where
  unsigned : Sign [] false
  plus : Sign (codes "+") false
  minus : Sign (codes "-") true

-- a prefix, and the radix that it names
pub data Prefix : List ℕ → ℕ → Type 0 where
  decimal : Prefix [] 10
  small_x : Prefix (codes "0x") 16
  large_x : Prefix (codes "0X") 16
  small_o : Prefix (codes "0o") 8
  large_o : Prefix (codes "0O") 8
  small_b : Prefix (codes "0b") 2
  large_b : Prefix (codes "0B") 2

-- digits of a radix, and the number that they spell: one; one more behind some; one more behind some and an underscore (95)
pub data Digits (radix : ℕ) : List ℕ → ℕ → Type 0 where
  one : (b : ℕ) → class_of b < radix → Digits radix (b ∷ []) (class_of b)
  more : {ds : List ℕ} {n : ℕ} (b : ℕ) → Digits radix ds n → class_of b < radix → Digits radix (ds ++ (b ∷ [])) (n * radix + class_of b)
  apart : {ds : List ℕ} {n : ℕ} (b : ℕ) → Digits radix ds n → class_of b < radix → Digits radix (ds ++ (95 ∷ b ∷ [])) (n * radix + class_of b)

-- a zero (48) that leads a decimal stands alone
abbrev pub Plain : ℕ → List ℕ → Type 0
Plain radix digits = radix ≡ 10 → (rest : List ℕ) → digits ≡ 48 ∷ rest → rest ≡ []

-- the text spells the integer; it is negative where a minus stands before a magnitude other than zero
pub record Spells (text : List ℕ) (negative : Bool) (magnitude : ℕ) : Type 0 where
  pub before : List ℕ
  pub sign : List ℕ
  pub prefix : List ℕ
  pub digits : List ℕ
  pub after : List ℕ
  pub minus : Bool
  pub radix : ℕ
  pub whole : text ≡ before ++ ((sign ++ (prefix ++ digits)) ++ after)
  pub blanks_before : Blanks before
  pub blanks_after : Blanks after
  pub signed : Sign sign minus
  pub prefixed : Prefix prefix radix
  pub spelled : Digits radix digits magnitude
  pub plain : Plain radix digits
  pub below_zero : negative ≡ (minus && not (magnitude == 0))

-- the text spells no integer of 64 bits
abbrev pub Unspelled : List ℕ → Type 0
Unspelled text = (n : Bool) (m : ℕ) → Spells text n m → m < 2 ^ 64 → ⊥

-- what reading digits answers: the number that they spell, or that they spell none of 64 bits
abbrev pub Number : ℕ → List ℕ → Option ℕ → Type 0
Number radix digits (Some n) = Digits radix digits n × (n < 2 ^ 64)
Number radix digits None = (n : ℕ) → Digits radix digits n → n < 2 ^ 64 → ⊥

-- what reading an integer answers: the sign and the magnitude that the text spells, or that it spells none of 64 bits
abbrev pub Reading : List ℕ → Option (Bool × ℕ) → Type 0
Reading text (Some (n, m)) = Spells text n m × (m < 2 ^ 64)
Reading text None = Unspelled text

-- a text spells one integer at most
abbrev pub SpellingUnique : Type 0
SpellingUnique = (t : List ℕ) (n n' : Bool) (m m' : ℕ) → Spells t n m → Spells t n' m' → (n ≡ n') × (m ≡ m')
