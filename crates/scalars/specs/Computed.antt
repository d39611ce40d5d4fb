-- What a text says, computed: whether two texts are the same, whether one stands for null, which integer it spells.
use Rattle.std.specs.Prelude.{ℕ, ◌^◌, Bool, true, false, cond, not, ◌&&◌, ◌||◌, List, [], ◌∷◌, map, length, Some, None, codes, Decides, Option, ◌==◌, nat_lt, slice_index}
use Rattle.std.specs.Str.{bytes_eq}
use Rattle.std.specs.Char.{to_ascii_lowercase}
use Rattle.records.specs.declared.record.ScalarStyle.{ScalarStyle}
use Rattle.records.specs.declared.tags.SfTag.{SfTag}
use Rattle.records.specs.declared.tags.SfTag.TheVariants.{Null, Binary}
use Rattle.records.specs.Tags.{core, forced, same_tag}
use Rattle.scalars.specs.Nullish.{Nullish}
use Rattle.scalars.specs.Radices.{radix_of, digits_of}
use Rattle.scalars.specs.Running.{State, start, run}
use Rattle.scalars.specs.Running.State.{so_far, lost}
use Rattle.scalars.specs.Signs.{is_minus, unsigned}
use Rattle.scalars.specs.Spelling.{Reading}
use Rattle.scalars.specs.Trimmed.{blank}
use Rattle.scalars.specs.Typed.{plain, numeric}

abbrev pub equal_bytes : List ℕ → List ℕ → Bool
equal_bytes = bytes_eq

abbrev pub null_text : List ℕ → Bool
null_text text = equal_bytes text [] || (equal_bytes text (codes "~") || equal_bytes (map to_ascii_lowercase text) (codes "null"))

-- without the blanks in front, and without those at the end: a blank with nothing left behind it goes
abbrev pub bare_front : List ℕ → List ℕ
bare_front [] = []
bare_front (b ∷ bs) = cond (blank b) (bare_front bs) (b ∷ bs)

abbrev pub ahead : ℕ → List ℕ → List ℕ
ahead b [] = cond (blank b) [] (b ∷ [])
ahead b (c ∷ cs) = b ∷ c ∷ cs

abbrev pub bare_back : List ℕ → List ℕ
bare_back [] = []
bare_back (b ∷ bs) = ahead b (bare_back bs)

-- whether a zero leads other digits of a decimal
abbrev pub zero_leads : ℕ → List ℕ → Bool
zero_leads radix digits = radix == 10 && (slice_index digits 0 == 48 && nat_lt 1 (length digits))

-- the magnitude that the digits gave, and the integer that it is behind a sign
abbrev pub signed : Bool → State → Option (Bool × ℕ)
signed minus lost = None
signed minus (so_far n false) = None
signed minus (so_far n true) = cond (nat_lt n (2 ^ 64)) (Some (minus && not (n == 0), n)) None

abbrev pub integer_by : Bool → ℕ → List ℕ → Option (Bool × ℕ)
integer_by minus radix digits = cond (zero_leads radix digits) None (signed minus (run radix start digits))

-- a text with no blanks at its ends
abbrev pub integer_bare : List ℕ → Option (Bool × ℕ)
integer_bare text = integer_by (is_minus text) (radix_of (unsigned text)) (digits_of (unsigned text))

-- the integer that a text spells within 64 bits
abbrev pub integer_in : List ℕ → Option (Bool × ℕ)
integer_in text = integer_bare (bare_back (bare_front text))

-- a scalar by its bytes, its tag and its style: whether it is null, and the integer that it reads as
abbrev pub null_over : List ℕ → SfTag → ScalarStyle → Bool
null_over value t s = same_tag t Null || (not (core t) && (not (forced t) && (not (same_tag t Binary) && (plain s && null_text value))))

abbrev pub integer_over : List ℕ → SfTag → ScalarStyle → Option (Bool × ℕ)
integer_over value t s = cond (numeric t s) (integer_in value) None

abbrev pub IntegersComputed : Type 0
IntegersComputed = (text : List ℕ) → Reading text (integer_in text)

abbrev pub NullsComputed : Type 0
NullsComputed = (text : List ℕ) → Decides (null_text text) (Nullish text)
