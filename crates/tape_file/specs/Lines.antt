-- What a line of a tape file says: the words of each part of a record, and the line that they make.
use Rattle.std.specs.Prelude.{ℕ, ◌^◌, ◌<◌, List, [], ◌∷◌, ◌++◌, Some, None, codes, decimal, Option}
use Rattle.records.specs.declared.location.Location.{Location}
use Rattle.records.specs.declared.location.NodeOrigin.{NodeOrigin}
use Rattle.records.specs.declared.location.NodeOrigin.TheVariants.{Direct, Alias, Merge}
use Rattle.records.specs.declared.record.Event.{Event}
use Rattle.records.specs.declared.record.Event.TheVariants.{Scalar, SeqStart, SeqEnd, MapStart, MapEnd, RecursiveAlias}
use Rattle.records.specs.declared.record.Place.{Place}
use Rattle.records.specs.declared.record.Record.{Record}
use Rattle.records.specs.declared.record.ScalarStyle.{ScalarStyle}
use Rattle.records.specs.declared.record.ScalarStyle.TheVariants.{Plain, SingleQuoted, DoubleQuoted, Literal, Folded}
use Rattle.records.specs.declared.tags.SfTag.{SfTag}
use Rattle.records.specs.declared.tags.SfTag.TheVariants as tags
use Rattle.tape_file.specs.Spaces.{spaced}

abbrev pub tag_word : SfTag → List ℕ
tag_word tags.None = codes "none"
tag_word tags.Int = codes "int"
tag_word tags.Float = codes "float"
tag_word tags.Bool = codes "bool"
tag_word tags.Null = codes "null"
tag_word tags.Seq = codes "seq"
tag_word tags.Map = codes "map"
tag_word tags.TimeStamp = codes "timestamp"
tag_word tags.Binary = codes "binary"
tag_word tags.String = codes "string"
tag_word tags.Merge = codes "merge"
tag_word tags.Value = codes "value"
tag_word tags.NonSpecific = codes "nonspecific"
tag_word tags.Include = codes "include"
tag_word tags.Degrees = codes "degrees"
tag_word tags.Radians = codes "radians"
tag_word tags.Other = codes "other"

abbrev pub style_word : ScalarStyle → List ℕ
style_word Plain = codes "plain"
style_word SingleQuoted = codes "single"
style_word DoubleQuoted = codes "double"
style_word Literal = codes "literal"
style_word Folded = codes "folded"

abbrev pub location_words : Location → List (List ℕ)
location_words l = decimal l.line ∷ decimal l.column ∷ decimal l.source_id ∷ []

abbrev pub origin_words : NodeOrigin → List (List ℕ)
origin_words Direct = codes "direct" ∷ []
origin_words (Alias l) = codes "alias" ∷ location_words l
origin_words (Merge l) = codes "merge" ∷ location_words l

abbrev pub place_words : Place → List (List ℕ)
place_words p = decimal p.start ∷ decimal p.len ∷ []

abbrev pub raw_words : Option Place → List (List ℕ)
raw_words None = codes "-" ∷ []
raw_words (Some p) = codes "raw" ∷ place_words p

-- what the events that begin a node have in common
abbrev pub node_words : ℕ → SfTag → Option Place → List (List ℕ)
node_words anchor tag raw = decimal anchor ∷ tag_word tag ∷ raw_words raw

abbrev pub event_words : Event → List (List ℕ)
event_words (Scalar anchor tag raw style value) = codes "scalar" ∷ (node_words anchor tag raw ++ (style_word style ∷ place_words value))
event_words (SeqStart anchor tag raw) = codes "seq" ∷ node_words anchor tag raw
event_words SeqEnd = codes "endseq" ∷ []
event_words (MapStart anchor tag raw) = codes "map" ∷ node_words anchor tag raw
event_words MapEnd = codes "endmap" ∷ []
event_words (RecursiveAlias anchor) = codes "alias" ∷ decimal anchor ∷ []

abbrev pub record_words : Record → List (List ℕ)
record_words r = location_words r.location ++ (origin_words r.origin ++ event_words r.event)

-- the line of a record
abbrev pub written : Record → List ℕ
written r = spaced (record_words r)

abbrev pub Small : ℕ → Type 0
Small n = n < 2 ^ 32

abbrev pub SmallLocation : Location → Type 0
SmallLocation l = Small l.line × Small l.column × Small l.source_id

abbrev pub SmallOrigin : NodeOrigin → Type 0
SmallOrigin Direct = Unit {0}
SmallOrigin (Alias l) = SmallLocation l
SmallOrigin (Merge l) = SmallLocation l

abbrev pub SmallPlace : Place → Type 0
SmallPlace p = Small p.start × Small p.len

abbrev pub SmallRaw : Option Place → Type 0
SmallRaw None = Unit {0}
SmallRaw (Some p) = SmallPlace p

abbrev pub SmallEvent : Event → Type 0
SmallEvent (Scalar anchor tag raw style value) = Small anchor × SmallRaw raw × SmallPlace value
SmallEvent (SeqStart anchor tag raw) = Small anchor × SmallRaw raw
SmallEvent SeqEnd = Unit {0}
SmallEvent (MapStart anchor tag raw) = Small anchor × SmallRaw raw
SmallEvent MapEnd = Unit {0}
SmallEvent (RecursiveAlias anchor) = Small anchor

-- every number of the record has at most 32 bits
abbrev pub SmallRecord : Record → Type 0
SmallRecord r = SmallLocation r.location × SmallOrigin r.origin × SmallEvent r.event
