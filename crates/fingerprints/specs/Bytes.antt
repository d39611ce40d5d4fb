-- What a scalar counts as, by its bytes.
use Rattle.std.specs.Prelude.{◌≡◌, ℕ, cond, ◌&&◌, List, Option}
use Rattle.std.specs.Option.{option_map}
use Rattle.records.specs.declared.record.ScalarStyle.{ScalarStyle}
use Rattle.records.specs.declared.tags.SfTag.{SfTag}
use Rattle.records.specs.declared.tags.SfTag.TheVariants.{Null}
use Rattle.scalars.specs.Typed.{plain}
use Rattle.scalars.specs.Computed.{integer_over, null_text}
use Rattle.events.specs.View.{bytes_at}
use Rattle.nodes.specs.Tree.{Text}
use Rattle.nodes.specs.Prints.{Canon, Leaf, scalar_tag, untagged, integer_or, leaf_of}
use Rattle.nodes.specs.Prints.Canon.{semantic}
use Rattle.nodes.specs.Prints.Leaf.{words}

abbrev pub tag_over : List ℕ → SfTag → Option (List ℕ) → ScalarStyle → Canon
tag_over value t raw s = cond (untagged t && (plain s && null_text value)) (semantic Null) (scalar_tag t raw)

abbrev pub leaf_over : List ℕ → SfTag → Option (List ℕ) → ScalarStyle → Leaf
leaf_over value t raw s = integer_or (integer_over value t s) (words value (tag_over value t raw s))

-- a scalar counts as the bytes at its places do
abbrev pub LeavesOverBytes : Type 0
LeavesOverBytes = (text : List ℕ) (x : Text) → leaf_of text x ≡ leaf_over (bytes_at text x.value) x.head.tag (option_map (bytes_at text) x.head.raw) x.style
