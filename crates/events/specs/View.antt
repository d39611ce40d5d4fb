-- A record as it is seen beside its text: with the bytes at its places.
use Rattle.std.specs.Prelude.{ℕ, cond, List, length, take, drop, Some, None, Option}
use Rattle.std.specs.Option.{option_map}
use Rattle.records.specs.declared.location.Location.{Location}
use Rattle.records.specs.declared.tags.SfTag.{SfTag}
use Rattle.records.specs.declared.record.Place.{Place}
use Rattle.records.specs.declared.record.ScalarStyle.{ScalarStyle}
use Rattle.records.specs.declared.record.Event.{Event}
use Rattle.records.specs.declared.record.Event.TheVariants.{Scalar as ScalarEvent, SeqStart as SeqStartEvent, SeqEnd as SeqEndEvent, MapStart as MapStartEvent, MapEnd as MapEndEvent, RecursiveAlias as AliasEvent}
use Rattle.records.specs.declared.record.Record.{Record}
use Rattle.records.specs.Places.{placed}
use Rattle.events.specs.declared.ev.Ev.{Ev}
use Rattle.events.specs.declared.ev.Ev.TheVariants.{Scalar, SeqStart, SeqEnd, MapStart, MapEnd, RecursiveAlias}

-- the bytes at a place
abbrev pub bytes_at : List ℕ → Place → List ℕ
bytes_at text p = take p.len (drop p.start text)

-- an event with bytes for places
pub data View : Type 0 where
  scalar : List ℕ → SfTag → Option (List ℕ) → ScalarStyle → ℕ → Location → View
  seq_start : ℕ → SfTag → Option (List ℕ) → Location → View
  seq_end : Location → View
  map_start : ℕ → SfTag → Option (List ℕ) → Location → View
  map_end : Location → View
  recursive_alias : ℕ → Location → View

abbrev pub viewed : List ℕ → Location → Event → View
viewed text l (ScalarEvent a t w s v) = scalar (bytes_at text v) t (option_map (bytes_at text) w) s a l
viewed text l (SeqStartEvent a t w) = seq_start a t (option_map (bytes_at text) w) l
viewed text l SeqEndEvent = seq_end l
viewed text l (MapStartEvent a t w) = map_start a t (option_map (bytes_at text) w) l
viewed text l MapEndEvent = map_end l
viewed text l (AliasEvent a) = recursive_alias a l

-- what an `Ev` holds
abbrev pub view_of : Ev → View
view_of (Scalar v t w s a l) = scalar v.now t (option_map (λ x. x.now) w) s a l
view_of (SeqStart a t w l) = seq_start a t (option_map (λ x. x.now) w) l
view_of (SeqEnd l) = seq_end l
view_of (MapStart a t w l) = map_start a t (option_map (λ x. x.now) w) l
view_of (MapEnd l) = map_end l
view_of (RecursiveAlias a l) = recursive_alias a l

-- the view of a record, where its places lie in the text
abbrev pub seen : List ℕ → Record → Option View
seen text r = cond (placed (length text) r.event) (Some (viewed text r.location r.event)) None
