-- No word of a record has a blank in it, so a record's line is cut into its words.
use Rattle.std.proofs.Common.{◌≡◌, ℕ, ◌∷◌, ◌++◌, Some, None, decimal, Option, codes, refl, lit<, rules}
use Rattle.std.specs.List.{AllByRecursion}
use Rattle.records.specs.declared.location.Location.{Location}
use Rattle.records.specs.declared.location.NodeOrigin.{NodeOrigin}
use Rattle.records.specs.declared.location.NodeOrigin.TheVariants.{Direct, Alias, Merge}
use Rattle.records.specs.declared.record.Event.{Event}
use Rattle.records.specs.declared.record.Event.TheVariants.{Scalar, SeqStart, SeqEnd, MapStart, MapEnd, RecursiveAlias}
use Rattle.records.specs.declared.record.Place.{Place}
use Rattle.records.specs.declared.record.Record.{Record}
use Rattle.records.specs.declared.record.ScalarStyle.{ScalarStyle}
use Rattle.records.specs.declared.record.ScalarStyle.TheVariants.{Plain, SingleQuoted, DoubleQuoted, Literal, Folded}
use Rattle.records.specs.declared.tags.SfTag.{SfTag}
use Rattle.records.specs.declared.tags.SfTag.TheVariants as tags
use Rattle.tape_file.specs.Lines.{tag_word, style_word, location_words, origin_words, place_words, raw_words, node_words, event_words, record_words, written, Small, SmallLocation, SmallOrigin, SmallPlace, SmallRaw, SmallEvent, SmallRecord}
use Rattle.tape_file.specs.Spaces.{split}
use Rattle.tape_file.proofs.Numbers.{no_mark}
use Rattle.tape_file.proofs.Spacing.{solid_text, solid_from_reads, Solid, solid_append, split_spaced}

number_solid : (n : ℕ) → Small n → Solid (decimal n)
number_solid n h = solid_from_reads (decimal n) (no_mark n 32 h (lit< tt))

tag_solid : (t : SfTag) → Solid (tag_word t)
tag_solid tags.None = solid_text (codes "none") refl
tag_solid tags.Int = solid_text (codes "int") refl
tag_solid tags.Float = solid_text (codes "float") refl
tag_solid tags.Bool = solid_text (codes "bool") refl
tag_solid tags.Null = solid_text (codes "null") refl
tag_solid tags.Seq = solid_text (codes "seq") refl
tag_solid tags.Map = solid_text (codes "map") refl
tag_solid tags.TimeStamp = solid_text (codes "timestamp") refl
tag_solid tags.Binary = solid_text (codes "binary") refl
tag_solid tags.String = solid_text (codes "string") refl
tag_solid tags.Merge = solid_text (codes "merge") refl
tag_solid tags.Value = solid_text (codes "value") refl
tag_solid tags.NonSpecific = solid_text (codes "nonspecific") refl
tag_solid tags.Include = solid_text (codes "include") refl
tag_solid tags.Degrees = solid_text (codes "degrees") refl
tag_solid tags.Radians = solid_text (codes "radians") refl
tag_solid tags.Other = solid_text (codes "other") refl

style_solid : (s : ScalarStyle) → Solid (style_word s)
style_solid Plain = solid_text (codes "plain") refl
style_solid SingleQuoted = solid_text (codes "single") refl
style_solid DoubleQuoted = solid_text (codes "double") refl
style_solid Literal = solid_text (codes "literal") refl
style_solid Folded = solid_text (codes "folded") refl

location_solid : (l : Location) → SmallLocation l → AllByRecursion Solid (location_words l)
location_solid l h = (number_solid l.line h.0, (number_solid l.column h.1, (number_solid l.source_id h.2, tt)))

origin_solid : (o : NodeOrigin) → SmallOrigin o → AllByRecursion Solid (origin_words o)
origin_solid Direct h = (solid_text (codes "direct") refl, tt)
origin_solid (Alias l) h = (solid_text (codes "alias") refl, location_solid l h)
origin_solid (Merge l) h = (solid_text (codes "merge") refl, location_solid l h)

place_solid : (p : Place) → SmallPlace p → AllByRecursion Solid (place_words p)
place_solid p h = (number_solid p.start h.0, (number_solid p.len h.1, tt))

raw_solid : (o : Option Place) → SmallRaw o → AllByRecursion Solid (raw_words o)
raw_solid None h = (solid_text (codes "-") refl, tt)
raw_solid (Some p) h = (solid_text (codes "raw") refl, place_solid p h)

node_solid : (a : ℕ) (t : SfTag) (o : Option Place) → Small a → SmallRaw o → AllByRecursion Solid (node_words a t o)
node_solid a t o h k = (number_solid a h, (tag_solid t, raw_solid o k))

event_solid : (e : Event) → SmallEvent e → AllByRecursion Solid (event_words e)
event_solid (Scalar a t o s v) h = (solid_text (codes "scalar") refl, solid_append (node_words a t o) (style_word s ∷ place_words v) (node_solid a t o h.0 h.1) (style_solid s, place_solid v h.2))
event_solid (SeqStart a t o) h = (solid_text (codes "seq") refl, node_solid a t o h.0 h.1)
event_solid SeqEnd h = (solid_text (codes "endseq") refl, tt)
event_solid (MapStart a t o) h = (solid_text (codes "map") refl, node_solid a t o h.0 h.1)
event_solid MapEnd h = (solid_text (codes "endmap") refl, tt)
event_solid (RecursiveAlias a) h = (solid_text (codes "alias") refl, (number_solid a h, tt))

record_solid : (r : Record) → SmallRecord r → AllByRecursion Solid (record_words r)
record_solid r h =
    solid_append (location_words r.location) (origin_words r.origin ++ event_words r.event) (location_solid r.location h.0)
    (solid_append (origin_words r.origin) (event_words r.event) (origin_solid r.origin h.1) (event_solid r.event h.2))

-- a record's line, cut at its blanks
pub split_written : (r : Record) → SmallRecord r → split (written r) ≡ record_words r
split_written r h = split_spaced (record_words r) (search rules) (record_solid r h)
