-- Tags are the same where their numbers are.
use Rattle.std.proofs.Common.{◌≡◌, ℕ, true, ◌↔◌, [], ◌∷◌, get_or, sym, refl, ap, ◌∙◌}
use Rattle.std.proofs.lemmas.Bool.{eqb-true, eq-eqb}
use Rattle.records.specs.declared.tags.SfTag.{SfTag}
use Rattle.records.specs.declared.tags.SfTag.TheVariants.{None, Int, Float, Bool as BoolTag, Null, Seq, Map, TimeStamp, Binary, String, Merge, Value, NonSpecific, Include, Degrees, Radians, Other}
use Rattle.records.specs.Tags.{tag_number, same_tag}

abbrev tag_at : ℕ → SfTag
tag_at n = get_or (None ∷ Int ∷ Float ∷ BoolTag ∷ Null ∷ Seq ∷ Map ∷ TimeStamp ∷ Binary ∷ String ∷ Merge ∷ Value ∷ NonSpecific ∷ Include ∷ Degrees ∷ Radians ∷ Other ∷ []) n None

at_number : (t : SfTag) → tag_at (tag_number t) ≡ t
at_number None = refl
at_number Int = refl
at_number Float = refl
at_number BoolTag = refl
at_number Null = refl
at_number Seq = refl
at_number Map = refl
at_number TimeStamp = refl
at_number Binary = refl
at_number String = refl
at_number Merge = refl
at_number Value = refl
at_number NonSpecific = refl
at_number Include = refl
at_number Degrees = refl
at_number Radians = refl
at_number Other = refl

pub tag_is_same : (a b : SfTag) → (same_tag a b ≡ true) ↔ (a ≡ b)
tag_is_same a b = (
  λ h. sym (at_number a) ∙ ap tag_at (eqb-true (tag_number a) (tag_number b) h) ∙ at_number b,
  λ e. eq-eqb (tag_number a) (tag_number b) (ap tag_number e),
)
