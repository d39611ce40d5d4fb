-- The unknown location, and the record of all zeros that stands for a missing one.
use Rattle.std.specs.Prelude.{None as NoPlace}
use Rattle.records.specs.declared.location.Location.{Location}
use Rattle.records.specs.declared.location.NodeOrigin.TheVariants.{Direct}
use Rattle.records.specs.declared.tags.SfTag.TheVariants.{None}
use Rattle.records.specs.declared.record.ScalarStyle.TheVariants.{Plain}
use Rattle.records.specs.declared.record.Event.TheVariants.{Scalar}
use Rattle.records.specs.declared.record.Record.{Record}

abbrev pub unknown : Location
unknown = record { line = 0; column = 0; source_id = 0 }

abbrev pub blank : Record
blank = record { location = unknown; origin = Direct; event = Scalar 0 None NoPlace Plain (record { start = 0; len = 0 }) }
