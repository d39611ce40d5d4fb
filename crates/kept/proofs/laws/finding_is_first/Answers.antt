-- The law of searching.
use Rattle.kept.proofs.Finding.{finds_first}
use Rattle.kept.proofs.laws.finding_is_first.Goals as goal

pub returns : goal.returns
returns g c = λ x. finds_first (g.E.Equality.same c.args.eq.now x)
