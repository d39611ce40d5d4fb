-- What stands at the place that is found, and before it.
use Rattle.std.proofs.Common.{rules, tests, ap, ◌∙◌}
use Rattle.std.proofs.lemmas.Iterator.{YieldsList-from_slice}
use Rattle.std.proofs.lemmas.Iterator.Search.{position_from_yields_List}
use Rattle.kept.proofs.Finding.{finds_at}
use Rattle.kept.proofs.list.Kept.find.Goals as goal

pub returns-clause-finds : goal.returns-clause-finds
returns-clause-finds g c =
    finds_at (g.E.Equality.same c.args.eq.now c.args.x.now) c.args.self.now.elements _
    (position_from_yields_List _ _ _ c.position.result c.position.ensures.ran (YieldsList-from_slice _ (c.iter.ensures.rest ∙ ap (λ k. k.elements) c.self.view_is)) (λ x b q k. search (rules, tests)))
