-- What is left of both pairs off exactly where the whole does.
use Rattle.std.proofs.Common.{◌≡◌, drop}
use Rattle.kept.specs.Pairing.{paired}
use Rattle.kept.proofs.pairing.take_all_off.Given as goal

abbrev pub invariant-loop-y : goal.invariant-loop-y
invariant-loop-y g l =
    paired (g.E.Equality.same l.eq) l.ys (l.initial.left.elements)
    ≡ paired (g.E.Equality.same l.eq) (drop l.y-index l.ys) (l.left.elements)
