-- What a scalar reads as, by its tag, its style and its text.
use Rattle.std.specs.Prelude.{◌≡◌, ℕ, Bool, true, false, cond, ◌⊎◌, List, None as Nothing, Option, ◌≢◌}
use Rattle.records.specs.declared.record.ScalarStyle.{ScalarStyle}
use Rattle.records.specs.declared.record.ScalarStyle.TheVariants.{Plain, SingleQuoted, DoubleQuoted, Literal, Folded}
use Rattle.records.specs.declared.tags.SfTag.{SfTag}
use Rattle.records.specs.declared.tags.SfTag.TheVariants.{None, Int, Float, Bool as BoolTag, Null, Seq, Map, TimeStamp, Binary, String, Merge, Value, NonSpecific, Include, Degrees, Radians, Other}
use Rattle.records.specs.Tags.{core, forced}
use Rattle.scalars.specs.Nullish.{Nullish}
use Rattle.scalars.specs.Spelling.{Reading}

-- tagged null; or plain with a null text, under a tag that is neither of the core schema, nor `!`, nor for binary data
abbrev pub NullScalar : SfTag → ScalarStyle → List ℕ → Type 0
NullScalar t s text = (t ≡ Null) ⊎ ((core t ≡ false) × (forced t ≡ false) × (t ≢ Binary) × (s ≡ Plain) × Nullish text)

abbrev pub plain : ScalarStyle → Bool
plain Plain = true
plain SingleQuoted = false
plain DoubleQuoted = false
plain Literal = false
plain Folded = false

-- whether a scalar's text is read for an integer: under the tag for integers, or plain with no tag
abbrev pub numeric : SfTag → ScalarStyle → Bool
numeric None s = plain s
numeric Int s = true
numeric Float s = false
numeric BoolTag s = false
numeric Null s = false
numeric Seq s = false
numeric Map s = false
numeric TimeStamp s = false
numeric Binary s = false
numeric String s = false
numeric Merge s = false
numeric Value s = false
numeric NonSpecific s = false
numeric Include s = false
numeric Degrees s = false
numeric Radians s = false
numeric Other s = false

abbrev pub TypedReading : SfTag → ScalarStyle → List ℕ → Option (Bool × ℕ) → Type 0
TypedReading t s text r = cond (numeric t s) (Reading text r) (r ≡ Nothing)
