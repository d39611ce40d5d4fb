-- The slot behind a node is known by how many slots are left.
use Rattle.std.proofs.Common.{◌≡◌, ◌+◌, ◌-◌, length, Ok, sym, ap, ◌∙◌, arith}
use Rattle.std.proofs.lemmas.List.{length-drop}
use Rattle.nodes.specs.Tree.{size}
use Rattle.nodes.proofs.Flats.{size_flat}
use Rattle.searching.specs.Slots.{sought}
use Rattle.searching.proofs.Walks.{ends_within}
use Rattle.searching.proofs.visits.visit_node.Goals as goal

pub returns-clause-found : goal.returns-clause-found
returns-clause-found c t rest w p e =
    let u = c.in_ok-left.ensures.found t rest w p (c.slots_from.ensures ∙ e) in
    let (f, g) = ends_within c.args.slots.now c.args.at t rest w e in
    let k = ap length e in
    let l = size_flat t rest w in
    let m = ap length u.0 in
    let n = length-drop c.args.at c.args.slots.now in
    let j : length c.args.slots.now - length c.in_ok-left.left.now ≡ c.args.at + size t = omega arith in
    ap Ok j ∙ ap (sought (c.args.at + size t)) (sym u.1)
