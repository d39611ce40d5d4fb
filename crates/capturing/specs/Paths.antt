-- Where an event may stand, and what is asked of it.
use Rattle.std.specs.Prelude.{ℕ, Bool, true, false, cond, List, [], ◌∷◌, reverse, Some, None, Ok, Err, Option, Result}
use Rattle.records.specs.declared.location.Location.{Location}
use Rattle.records.specs.declared.record.Event.{Event}
use Rattle.records.specs.declared.record.Event.TheVariants.{Scalar, SeqStart, SeqEnd, MapStart, MapEnd, RecursiveAlias}
use Rattle.records.specs.declared.record.Record.{Record}
use Rattle.records.specs.declared.refusal.Reason.{Reason}
use Rattle.records.specs.declared.refusal.Reason.TheVariants.{UnexpectedContainerEnd, RackFull, PlaceOutsideRackText, TooDeep}
use Rattle.records.specs.declared.refusal.Refusal.{Refusal}
use Rattle.records.specs.Places.{placed}
use Rattle.events.specs.Meaning.{Meaning, Close}
use Rattle.nodes.specs.Reading.{ended_by, is_start}
use Rattle.capturing.specs.declared.path.Path.{Path}
use Rattle.capturing.specs.declared.path.Spot.{Spot}
use Rattle.capturing.specs.declared.path.Spot.TheVariants.{Start, Element, Key, Value, Done}

-- the spots of a path, from the inside out
abbrev pub spots_of : Path → List Spot
spots_of p = p.spot ∷ reverse p.around.items

abbrev pub outward : List Spot → List Spot
outward [] = []
outward (s ∷ ss) = ss

-- behind a whole node
abbrev pub beyond : Spot → Spot
beyond Start = Done
beyond Element = Element
beyond Key = Value
beyond Value = Key
beyond Done = Done

abbrev pub is_done : Spot → Bool
is_done Start = false
is_done Element = false
is_done Key = false
is_done Value = false
is_done Done = true

abbrev pub onward : List Spot → List Spot
onward [] = []
onward (s ∷ ss) = beyond s ∷ ss

-- behind an event
abbrev pub follow : List Spot → Event → List Spot
follow ss (Scalar a t w s v) = onward ss
follow ss (SeqStart a t w) = Element ∷ onward ss
follow ss SeqEnd = outward ss
follow ss (MapStart a t w) = Key ∷ onward ss
follow ss MapEnd = outward ss
follow ss (RecursiveAlias a) = onward ss

-- only an element's spot takes the end of a sequence, and only a key's that of a mapping
abbrev pub no_seq_end : Spot → Bool
no_seq_end Start = true
no_seq_end Element = false
no_seq_end Key = true
no_seq_end Value = true
no_seq_end Done = true

abbrev pub no_map_end : Spot → Bool
no_map_end Start = true
no_map_end Element = true
no_map_end Key = false
no_map_end Value = true
no_map_end Done = true

abbrev pub misplaced : Spot → Event → Bool
misplaced s (Scalar a t w y v) = false
misplaced s (SeqStart a t w) = false
misplaced s SeqEnd = no_seq_end s
misplaced s (MapStart a t w) = false
misplaced s MapEnd = no_map_end s
misplaced s (RecursiveAlias a) = false

-- the questions in their order: is a slot free, do the places lie in the text, may it be opened
abbrev pub first_no : Bool → Bool → Bool → Option Reason
first_no free lies low = cond free (cond lies (cond low None (Some TooDeep)) (Some PlaceOutsideRackText)) (Some RackFull)

-- why an event is refused
abbrev pub asked : Spot → Bool → ℕ → Bool → Event → Option Reason
asked s free n low e = cond (misplaced s e) (Some UnexpectedContainerEnd) (first_no free (placed n e) (cond (is_start e) low true))

abbrev pub first_in : Close → Location → List Record → Result Record Refusal
first_in c l [] = Err (ended_by c l)
first_in c l (r ∷ rs) = Ok r

-- the next event of a source, as it stands
abbrev pub first_record : Meaning → Result Record Refusal
first_record m = first_in m.close m.last m.events
