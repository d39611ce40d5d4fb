-- The count stops behind the node.
use Rattle.std.proofs.Common.{length, sym, ◌∙◌, ap, arith}
use Rattle.std.proofs.lemmas.List.{at_drop_all, length-drop}
use Rattle.searching.proofs.Walks.{run, run_node, stopped, ends_within}
use Rattle.searching.proofs.ends.node_end.Goals as goal

pub returns-then-depth-eq0-clause-node : goal.returns-then-depth-eq0-clause-node
returns-then-depth-eq0-clause-node c t rest w e =
    let k = ap (run 0) (c.slots_from-held.ensures ∙ e) ∙ run_node t rest w in
    let h = stopped _ _ _ _ c.loop-i-test.true (sym c.depth_after-depth.ensures.opened ∙ c.if-depth-eq0.true) (c.loop-i.invariant.same_end) in
    omega arith

pub returns-clause-node : goal.returns-clause-node
returns-clause-node c t rest w e =
    let k = ap (run 0) (c.slots_from-held.ensures ∙ e) ∙ run_node t rest w in
    let h = at_drop_all (run c.loop-i.depth) _ c.loop-i.i c.loop-i-test.false in
    let l = ap length c.slots_from-held.ensures in
    let m = length-drop c.args.at c.args.slots.now in
    let (f, g) = ends_within c.args.slots.now c.args.at t rest w e in
    omega (arith, c.loop-i.invariant.same_end)
