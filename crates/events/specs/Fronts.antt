-- A front that a peek may have resolved already.
use Rattle.std.specs.Prelude.{Bool, true, false, List, [], ◌∷◌}
use Rattle.records.specs.declared.record.Event.{Event}
use Rattle.records.specs.declared.record.Event.TheVariants.{Scalar, SeqStart, SeqEnd, MapStart, MapEnd, RecursiveAlias}
use Rattle.records.specs.declared.record.Record.{Record}
use Rattle.events.specs.Meaning.{nulled}

-- a recursive alias as the null that it is read as, and any other record as it is
abbrev pub null_if : Record → Event → Record
null_if r (Scalar a t w s v) = r
null_if r (SeqStart a t w) = r
null_if r SeqEnd = r
null_if r (MapStart a t w) = r
null_if r MapEnd = r
null_if r (RecursiveAlias a) = nulled r a

abbrev pub shown : Bool → Record → Record
shown true r = null_if r r.event
shown false r = r

abbrev pub at_front : Bool → List Record → List Record
at_front b [] = []
at_front b (r ∷ rs) = shown b r ∷ rs
