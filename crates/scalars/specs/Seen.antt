-- The scalar that an event is, if it is one.
use Rattle.std.specs.Prelude.{Some, None, Option}
use Rattle.events.specs.declared.ev.Ev.{Ev}
use Rattle.events.specs.declared.ev.Ev.TheVariants.{Scalar as ScalarEv, SeqStart, SeqEnd, MapStart, MapEnd, RecursiveAlias}
use Rattle.scalars.specs.declared.typed.Scalar.{Scalar}

abbrev pub scalar_in : Ev → Option Scalar
scalar_in (ScalarEv v t w s a l) = Some (record { value = v; tag = t; style = s })
scalar_in (SeqStart a t w l) = None
scalar_in (SeqEnd l) = None
scalar_in (MapStart a t w l) = None
scalar_in (MapEnd l) = None
scalar_in (RecursiveAlias a l) = None
