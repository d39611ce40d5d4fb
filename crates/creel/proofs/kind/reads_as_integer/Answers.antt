-- Whether the reading answers an integer decides whether the scalar reads as one.
use Rattle.std.proofs.Common.{Bool, Decides, sym, subst}
use Rattle.creel.specs.Kinds.{ReadsInteger}
use Rattle.creel.proofs.Readings.{reading_decides}
use Rattle.creel.proofs.kind.reads_as_integer.Goals as goal

pub returns : goal.returns
returns c =
    let s = c.args.scalar in
    subst (λ (b : Bool). Decides b (ReadsInteger s.tag s.style s.value.now)) (sym c.is_some.ensures)
    (reading_decides s.tag s.style s.value.now c.integer.result c.integer.ensures.reading)
