-- The search goes slot by slot.
use Rattle.std.proofs.Common.{Ok, Err, ap, refl, ⊎_elim, arith}
use Rattle.std.proofs.lemmas.Result.{err_from_is_err_and}
use Rattle.nodes.specs.Reading.{is_end}
use Rattle.searching.proofs.Visiting.{is_leaf, no_end, node_none, node_leaf, node_sequence, node_mapping, elements_none, elements_end, elements_found, elements_more, pairs_none, pairs_end, pairs_merge, key_found, value_found, pairs_more}
use Rattle.searching.proofs.visits.+past_node.Goals as goal

pub past_elements-returns-in-SeqEnd-clause-found :
    goal.past_elements-returns-in-SeqEnd-clause-found
past_elements-returns-in-SeqEnd-clause-found t c = c.loop-first.invariant.found (Ok c.in-Some.rest) (elements_end c.args.text.now _ _ _ c.in-Some.ensures.cases.0 c.in-Some.rest refl c.in-SeqEnd.is)

pub past_elements-returns-in_err-left : goal.past_elements-returns-in_err-left
past_elements-returns-in_err-left t c =
    let p = err_from_is_err_and c.from_residual.result c.from_residual.ensures.1 in
    rw (p.1, p.2) (record { fewer = tt; found = c.loop-first.invariant.found (Err _) (elements_found c.args.text.now _ _ _ c.in-Some.ensures.cases.0 _ c.in_default-event.not-SeqEnd c.in_err-left.ensures.found) })

pub past_elements-loop-first-preserved : goal.past_elements-loop-first-preserved
past_elements-loop-first-preserved t c = record { fewer = omega (arith, c.in_ok-left.ensures.fewer); found = λ o f. c.loop-first.invariant.found o (elements_more c.args.text.now _ _ _ c.in-Some.ensures.cases.0 c.in_ok-left.left o c.in_default-event.not-SeqEnd c.in_ok-left.ensures.found f) }

pub past_elements-returns-clause-found : goal.past_elements-returns-clause-found
past_elements-returns-clause-found t c = c.loop-first.invariant.found (Ok c.loop-first.left) (elements_none c.args.text.now _ (Ok c.loop-first.left) c.in_default.ensures.cases)

pub past_node-returns-in_default-clause-found : goal.past_node-returns-in_default-clause-found
past_node-returns-in_default-clause-found t c = node_none c.args.text.now _ (Ok c.args.slots) c.in_default.ensures.cases

pub past_node-returns-in-Scalar-clause-found : goal.past_node-returns-in-Scalar-clause-found
past_node-returns-in-Scalar-clause-found t c = node_leaf c.args.text.now _ _ _ c.in-Some.ensures.cases.0 c.in-Some.rest refl (⊎_elim (λ p. ap is_leaf p.5) (λ p. ap is_leaf p.1) c.in-Scalar.is)

pub past_node-returns-in-SeqStart-clause-found : goal.past_node-returns-in-SeqStart-clause-found
past_node-returns-in-SeqStart-clause-found t c = node_sequence _ _ _ _ c.in-Some.ensures.cases.0 _ _ _ _ c.in-SeqStart.is c.past_elements.ensures.found

pub past_node-returns-in-MapStart-clause-found : goal.past_node-returns-in-MapStart-clause-found
past_node-returns-in-MapStart-clause-found t c = node_mapping _ _ _ _ c.in-Some.ensures.cases.0 _ _ _ _ c.in-MapStart.is c.past_pairs.ensures.found

pub past_node-returns-in-SeqEnd-clause-found : goal.past_node-returns-in-SeqEnd-clause-found
past_node-returns-in-SeqEnd-clause-found t c n r w p e = absurd (no_end c.args.text.now _ _ _ c.in-Some.ensures.cases.0 n r (⊎_elim (ap is_end) (ap is_end) c.in-SeqEnd.is) w e)

pub past_pairs-returns-in-MapEnd-clause-found : goal.past_pairs-returns-in-MapEnd-clause-found
past_pairs-returns-in-MapEnd-clause-found t c = c.loop-first.invariant.found (Ok c.in-Some.rest) (pairs_end c.args.text.now _ _ _ c.in-Some.ensures.cases.0 c.in-Some.rest refl c.in-MapEnd.is)

pub past_pairs-returns-then-is_merge_key_at : goal.past_pairs-returns-then-is_merge_key_at
past_pairs-returns-then-is_merge_key_at t c = record { fewer = tt; found = c.loop-first.invariant.found (Err _) (pairs_merge c.args.text.now _ _ _ c.in-Some.ensures.cases.0 c.in_default-event.not-MapEnd c.if-is_merge_key_at.ensures) }

pub past_pairs-returns-in_err-value : goal.past_pairs-returns-in_err-value
past_pairs-returns-in_err-value t c =
    let p = err_from_is_err_and c.from_residual.result c.from_residual.ensures.1 in
    rw (p.1, p.2) (record { fewer = tt; found = c.loop-first.invariant.found (Err _) (key_found c.args.text.now _ _ _ c.in-Some.ensures.cases.0 c.in_default-event.not-MapEnd c.if-is_merge_key_at.ensures _ c.in_err-value.ensures.found) })

pub past_pairs-returns-in_err-left : goal.past_pairs-returns-in_err-left
past_pairs-returns-in_err-left t c =
    let p = err_from_is_err_and c.from_residual-in_err-left.result c.from_residual-in_err-left.ensures.1 in
    rw (p.1, p.2) (record { fewer = tt; found = c.loop-first.invariant.found (Err _) (value_found c.args.text.now _ _ _ c.in-Some.ensures.cases.0 c.in_default-event.not-MapEnd c.if-is_merge_key_at.ensures c.in_ok-value.value c.in_ok-value.ensures.found _ c.in_err-left.ensures.found) })

pub past_pairs-loop-first-preserved : goal.past_pairs-loop-first-preserved
past_pairs-loop-first-preserved t c = record { fewer = omega (arith, c.in_ok-value.ensures.fewer, c.in_ok-left.ensures.fewer); found = λ o f. c.loop-first.invariant.found o (pairs_more c.args.text.now _ _ _ c.in-Some.ensures.cases.0 c.in_default-event.not-MapEnd c.if-is_merge_key_at.ensures c.in_ok-value.value c.in_ok-value.ensures.found c.in_ok-left.left o c.in_ok-left.ensures.found f) }

pub past_pairs-returns-clause-found : goal.past_pairs-returns-clause-found
past_pairs-returns-clause-found t c = c.loop-first.invariant.found (Ok c.loop-first.left) (pairs_none c.args.text.now _ (Ok c.loop-first.left) c.in_default.ensures.cases)
