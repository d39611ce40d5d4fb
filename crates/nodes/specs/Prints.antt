-- Fingerprints: what of a node counts when nodes are compared.
use Rattle.std.specs.Prelude.{ℕ, Bool, true, false, cond, ◌&&◌, List, [], Some, None as Nothing, codes, Option}
use Rattle.std.specs.Option.{option_map}
use Rattle.records.specs.declared.record.Place.{Place}
use Rattle.records.specs.declared.tags.SfTag.{SfTag}
use Rattle.records.specs.declared.tags.SfTag.TheVariants.{None, Int, Float, Bool as BoolTag, Null, Seq, Map, TimeStamp, Binary, String, Merge, Value, NonSpecific, Include, Degrees, Radians, Other}
use Rattle.scalars.specs.Typed.{plain, numeric}
use Rattle.scalars.specs.Computed.{integer_in, null_text, equal_bytes}
use Rattle.events.specs.View.{bytes_at}
use Rattle.nodes.specs.Tree.{Text, Node, Nodes, Pairs}
use Rattle.nodes.specs.Tree.Node.{scalar, alias, seq, dict, cut}
use Rattle.nodes.specs.Tree.Nodes.{none, more}
use Rattle.nodes.specs.Tree.Pairs.{done, pair}

-- a canonical tag: one that the reader knows, or another one as it is written
pub data Canon : Type 0 where
  semantic : SfTag → Canon
  custom : List ℕ → Canon

-- what a scalar or a recursive alias counts as
pub data Leaf : Type 0 where
  reference : ℕ → Leaf
  integer : Bool → ℕ → Leaf
  words : List ℕ → Canon → Leaf

mutual
  pub data Print : Type 0 where
    leaf : Leaf → Print
    sequence : Canon → Prints → Print
    mapping : Canon → PrintPairs → Print

  pub data Prints : Type 0 where
    end : Prints
    then : Print → Prints → Prints

  pub data PrintPairs : Type 0 where
    nothing : PrintPairs
    field : Print → Print → PrintPairs → PrintPairs

-- a tag that is not known counts as it is written, where it is
abbrev pub known_or : SfTag → Option (List ℕ) → Canon
known_or t Nothing = semantic t
known_or t (Some raw) = custom raw

-- the tag of a scalar: what may be read as text is text
abbrev pub scalar_tag : SfTag → Option (List ℕ) → Canon
scalar_tag None raw = semantic String
scalar_tag Int raw = semantic Int
scalar_tag Float raw = semantic Float
scalar_tag BoolTag raw = semantic BoolTag
scalar_tag Null raw = semantic Null
scalar_tag Seq raw = semantic Seq
scalar_tag Map raw = semantic Map
scalar_tag TimeStamp raw = semantic TimeStamp
scalar_tag Binary raw = semantic Binary
scalar_tag String raw = semantic String
scalar_tag Merge raw = semantic String
scalar_tag Value raw = semantic String
scalar_tag NonSpecific raw = semantic String
scalar_tag Include raw = semantic String
scalar_tag Degrees raw = semantic Degrees
scalar_tag Radians raw = semantic Radians
scalar_tag Other raw = known_or String raw

-- the tag of a container, for which `implicit` stands where it has none
abbrev pub container_tag : SfTag → SfTag → Option (List ℕ) → Canon
container_tag implicit None raw = semantic implicit
container_tag implicit Int raw = semantic Int
container_tag implicit Float raw = semantic Float
container_tag implicit BoolTag raw = semantic BoolTag
container_tag implicit Null raw = semantic Null
container_tag implicit Seq raw = semantic Seq
container_tag implicit Map raw = semantic Map
container_tag implicit TimeStamp raw = semantic TimeStamp
container_tag implicit Binary raw = semantic Binary
container_tag implicit String raw = semantic String
container_tag implicit Merge raw = semantic Merge
container_tag implicit Value raw = semantic Value
container_tag implicit NonSpecific raw = semantic implicit
container_tag implicit Include raw = semantic Include
container_tag implicit Degrees raw = semantic Degrees
container_tag implicit Radians raw = semantic Radians
container_tag implicit Other raw = known_or Other raw

-- a mapping whose tag for mappings is written `!map` keeps it so
abbrev pub local_map : SfTag → Option (List ℕ) → Bool
local_map None raw = false
local_map Int raw = false
local_map Float raw = false
local_map BoolTag raw = false
local_map Null raw = false
local_map Seq raw = false
local_map Map Nothing = false
local_map Map (Some raw) = equal_bytes raw (codes "!map")
local_map TimeStamp raw = false
local_map Binary raw = false
local_map String raw = false
local_map Merge raw = false
local_map Value raw = false
local_map NonSpecific raw = false
local_map Include raw = false
local_map Degrees raw = false
local_map Radians raw = false
local_map Other raw = false

abbrev pub mapping_tag : SfTag → Option (List ℕ) → Canon
mapping_tag t raw = cond (local_map t raw) (custom (codes "!map")) (container_tag Map t raw)

abbrev pub raw_bytes : List ℕ → Option Place → Option (List ℕ)
raw_bytes text o = option_map (bytes_at text) o

-- whether there is no tag
abbrev pub untagged : SfTag → Bool
untagged None = true
untagged Int = false
untagged Float = false
untagged BoolTag = false
untagged Null = false
untagged Seq = false
untagged Map = false
untagged TimeStamp = false
untagged Binary = false
untagged String = false
untagged Merge = false
untagged Value = false
untagged NonSpecific = false
untagged Include = false
untagged Degrees = false
untagged Radians = false
untagged Other = false

-- a scalar with no tag, in plain style and with a null text, is a null
abbrev pub words_of : List ℕ → Text → Leaf
words_of text x =
    words (bytes_at text x.value)
    (cond (untagged x.head.tag && (plain x.style && null_text (bytes_at text x.value))) (semantic Null) (scalar_tag x.head.tag (raw_bytes text x.head.raw)))

abbrev pub integer_or : Option (Bool × ℕ) → Leaf → Leaf
integer_or Nothing l = l
integer_or (Some i) l = integer i.0 i.1

-- a scalar: an integer by its value, another by its bytes and its tag
abbrev pub leaf_of : List ℕ → Text → Leaf
leaf_of text x = integer_or (cond (numeric x.head.tag x.style) (integer_in (bytes_at text x.value)) Nothing) (words_of text x)

-- the fingerprint of a whole node over its text; where no node begins there is none, and the empty text stands for it
abbrev mutual
  pub print : List ℕ → Node → Print
  print text (scalar k x) = leaf (leaf_of text x)
  print text (alias k a) = leaf (reference a)
  print text (seq k h ns) = sequence (container_tag Seq h.tag (raw_bytes text h.raw)) (prints text ns)
  print text (dict k h ps) = mapping (mapping_tag h.tag (raw_bytes text h.raw)) (printp text ps)
  print text (cut c) = leaf (words [] (semantic String))

  pub prints : List ℕ → Nodes → Prints
  prints text (none k) = end
  prints text (more n ns) = then (print text n) (prints text ns)

  pub printp : List ℕ → Pairs → PrintPairs
  printp text (done k) = nothing
  printp text (pair k v ps) = field (print text k) (print text v) (printp text ps)
