-- Merge keys and nulls among the events as they are seen.
use Rattle.std.specs.Prelude.{◌≡◌, ℕ, Bool, false, ◌&&◌, ◌||◌, List, codes}
use Rattle.records.specs.declared.location.Location.{Location}
use Rattle.records.specs.declared.record.ScalarStyle.{ScalarStyle}
use Rattle.records.specs.declared.tags.SfTag.{SfTag}
use Rattle.records.specs.declared.tags.SfTag.TheVariants.{None, Merge}
use Rattle.records.specs.Tags.{same_tag}
use Rattle.scalars.specs.Typed.{plain}
use Rattle.scalars.specs.Computed.{null_over, equal_bytes}
use Rattle.events.specs.View.{View, viewed}
use Rattle.events.specs.View.View.{scalar, seq_start, seq_end, map_start, map_end, recursive_alias}
use Rattle.nodes.specs.Tree.{Text, scalar_event}
use Rattle.nodes.specs.Fields.{merge_words, null_words}

abbrev pub merge_over : List ℕ → SfTag → ScalarStyle → Bool
merge_over value t s = equal_bytes value (codes "<<") && (same_tag t Merge || (same_tag t None && plain s))

abbrev pub merge_key : View → Bool
merge_key (scalar v t w s a l) = merge_over v t s
merge_key (seq_start a t w l) = false
merge_key (seq_end l) = false
merge_key (map_start a t w l) = false
merge_key (map_end l) = false
merge_key (recursive_alias a l) = false

abbrev pub null_value : View → Bool
null_value (scalar v t w s a l) = null_over v t s
null_value (seq_start a t w l) = false
null_value (seq_end l) = false
null_value (map_start a t w l) = false
null_value (map_end l) = false
null_value (recursive_alias a l) = false

-- a scalar is seen as the one or the other exactly where its words say so
abbrev pub MergeKeysViewed : Type 0
MergeKeysViewed = (text : List ℕ) (l : Location) (x : Text) → merge_key (viewed text l (scalar_event x)) ≡ merge_words text x

abbrev pub NullsViewed : Type 0
NullsViewed = (text : List ℕ) (l : Location) (x : Text) → null_value (viewed text l (scalar_event x)) ≡ null_words text x
