-- What a source of events means, and what each of its methods answers and leaves.
use Rattle.std.specs.Prelude.{ℕ, Bool, true, false, cond, ◌||◌, List, [], ◌∷◌, Some, None, Ok, Err, Option, Result, ◌==◌}
use Rattle.records.specs.declared.location.Location.{Location}
use Rattle.records.specs.declared.location.NodeOrigin.{NodeOrigin}
use Rattle.records.specs.declared.location.NodeOrigin.TheVariants.{Direct, Alias, Merge}
use Rattle.records.specs.declared.tags.SfTag.TheVariants.{Null}
use Rattle.records.specs.declared.record.ScalarStyle.TheVariants.{Plain as PlainStyle}
use Rattle.records.specs.declared.record.Event.{Event}
use Rattle.records.specs.declared.record.Event.TheVariants.{Scalar, SeqStart, SeqEnd, MapStart, MapEnd, RecursiveAlias}
use Rattle.records.specs.declared.record.Record.{Record}
use Rattle.records.specs.declared.refusal.Reason.TheVariants.{UnknownAlias}
use Rattle.records.specs.declared.refusal.Refusal.{Refusal}

-- how a source ends: plainly, or with one fault
pub data Close : Type 0 where
  Plain : Close
  Fault : Refusal → Close

pub record Meaning : Type 0 where
  -- the events still to come, each with the origin that is shown with it
  pub events : List Record
  pub close : Close
  -- the last location
  pub last : Location
  -- the origin shown past the end
  pub past : NodeOrigin
  -- whether recursive aliases are left as they are
  pub deferring : Bool
  -- the known anchors
  pub anchors : List ℕ

abbrev pub known : ℕ → List ℕ → Bool
known a [] = false
known a (k ∷ ks) = k == a || known a ks

-- the null that a recursive alias is read as
abbrev pub nulled : Record → ℕ → Record
nulled r a = record { location = r.location; origin = r.origin; event = Scalar a Null None PlainStyle (record { start = 0; len = 0 }) }

abbrev pub unknown_alias : Record → Refusal
unknown_alias r = record { reason = UnknownAlias; location = r.location; offset = 0 }

-- a record with its recursive alias resolved, by the known anchors
abbrev pub resolve : List ℕ → Record → Event → Result Record Refusal
resolve ks r (Scalar a t w s v) = Ok r
resolve ks r (SeqStart a t w) = Ok r
resolve ks r SeqEnd = Ok r
resolve ks r (MapStart a t w) = Ok r
resolve ks r MapEnd = Ok r
resolve ks r (RecursiveAlias a) = cond (known a ks) (Ok (nulled r a)) (Err (unknown_alias r))

-- a record as it stands at the front: resolved, unless aliases are deferred
abbrev pub stands : Bool → List ℕ → Record → Result Record Refusal
stands true ks r = Ok r
stands false ks r = resolve ks r r.event

abbrev pub closing : Close → Result (Option Record) Refusal
closing Plain = Ok None
closing (Fault f) = Err f

abbrev pub there : Result Record Refusal → Result (Option Record) Refusal
there (Ok r) = Ok (Some r)
there (Err e) = Err e

abbrev pub front : Bool → List ℕ → Close → List Record → Result (Option Record) Refusal
front d ks c [] = closing c
front d ks c (r ∷ rs) = there (stands d ks r)

-- what peek and next answer
abbrev pub peeked : Meaning → Result (Option Record) Refusal
peeked m = front m.deferring m.anchors m.close m.events

abbrev pub tail : List Record → List Record
tail [] = []
tail (r ∷ rs) = rs

-- what peek leaves: the front stays as it was answered
abbrev pub settled : Result (Option Record) Refusal → Meaning → Meaning
settled (Ok (Some r)) m = record { events = r ∷ tail m.events; close = m.close; last = m.last; past = m.past; deferring = m.deferring; anchors = m.anchors }
settled (Ok None) m = m
settled (Err e) m = m

-- what next leaves: an event that was answered is gone
abbrev pub taken : Result (Option Record) Refusal → Meaning → Meaning
taken (Ok (Some r)) m = record { events = tail m.events; close = m.close; last = r.location; past = m.past; deferring = m.deferring; anchors = m.anchors }
taken (Ok None) m = m
taken (Err e) m = m

-- what setting deferral leaves
abbrev pub deferred : Bool → Meaning → Meaning
deferred d m = record { events = m.events; close = m.close; last = m.last; past = m.past; deferring = d; anchors = m.anchors }

abbrev pub origin_at : NodeOrigin → List Record → NodeOrigin
origin_at past [] = past
origin_at past (r ∷ rs) = r.origin

-- the origin shown at the front, or past the end
abbrev pub origin_of : Meaning → NodeOrigin
origin_of m = origin_at m.past m.events

abbrev pub own_at : Location → List Record → Location
own_at last [] = last
own_at last (r ∷ rs) = r.location

-- where an origin points, that of a node at a location of its own
abbrev pub refers : NodeOrigin → Location → Location
refers Direct own = own
refers (Alias l) own = l
refers (Merge l) own = l

-- the reference location
abbrev pub reference_of : Meaning → Location
reference_of m = refers (origin_of m) (own_at m.last m.events)
