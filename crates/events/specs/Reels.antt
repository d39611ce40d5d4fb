-- What stands on a reel, and what a reader of it means.
use Rattle.std.specs.Prelude.{ℕ, Bool, List, [], ◌∷◌, Some, None, Ok, Option, Result}
use Rattle.records.specs.declared.location.Location.{Location}
use Rattle.records.specs.declared.location.NodeOrigin.{NodeOrigin}
use Rattle.records.specs.declared.record.Record.{Record}
use Rattle.records.specs.declared.refusal.Refusal.{Refusal}
use Rattle.events.specs.declared.reader.Reader.{Reader}
use Rattle.events.specs.Meaning.{Meaning, Close, closing}
use Rattle.events.specs.Fronts.{at_front}

abbrev pub first_record : List Record → Option Record
first_record [] = None
first_record (r ∷ rs) = Some r

-- the first of some records, or how they end where there is none
abbrev pub foremost : Close → List Record → Result (Option Record) Refusal
foremost c [] = closing c
foremost c (r ∷ rs) = Ok (Some r)

-- events to be read that end in a way, with an origin past the end; a recursive alias at the front may be resolved
abbrev pub reading : List Record → Close → NodeOrigin → Bool → Bool → Location → List ℕ → Meaning
reading es c past resolved deferring last ks = record { events = at_front resolved es; close = c; last = last; past = past; deferring = deferring; anchors = ks }

-- a reader, by what its reel means
module _ {R : Type 0} (coming : R → List Record) (ending : R → Close) (beyond : R → NodeOrigin) where
  abbrev pub reader_meaning : Reader R → Meaning
  reader_meaning s = reading (coming s.reel) (ending s.reel) (beyond s.reel) s.resolved s.deferring s.last s.anchors.now
