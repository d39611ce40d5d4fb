-- The others moved down by one.
use Rattle.std.proofs.Common.{◌≡◌, ◌<◌, take, length, sym, ap, ◌∙◌, subst, arith, length-take}
use Rattle.std.specs.List.{remove}
use Rattle.kept.specs.Searching.{Finds, First}
use Rattle.kept.proofs.Removing.{take-copy_within}
use Rattle.kept.proofs.list.Kept.take_off.Goals as goal

pub returns-clause-list : goal.returns-clause-list
returns-clause-list g c =
    let p = g.E.Equality.same c.args.eq.now c.args.x.now in
    let held : take c.self.inside.len c.self.inside.items.now ≡ c.args.self.now.elements = ap (λ k. k.elements) c.self.view_is in
    let first : First p c.args.self.now.elements c.in-Some.place = subst (Finds p c.args.self.now.elements) c.in-Some.is c.find.ensures.finds in
    let below : c.in-Some.place < c.self.inside.len = omega (arith, first.below, ap length held, length-take c.self.inside.len c.self.inside.items.now) in
    ap (take _) c.copy_within.ensures.after ∙ take-copy_within c.self.inside.items.now c.self.inside.len c.in-Some.place below c.self.invariant ∙ ap (λ xs. remove xs c.in-Some.place) held ∙ sym first.rest
