-- Fewer slots are left for each call inward. In a loop, an answer that is right for what is left is right from the first.
use Rattle.std.proofs.Common.{◌+◌, ◌*◌, ◌≤◌, length, List, Result, Bor}
use Rattle.records.specs.declared.location.Location.{Location}
use Rattle.records.specs.declared.record.Record.{Record}
use Rattle.searching.specs.Slots.{PastElements, PastPairs}
use Rattle.searching.proofs.visits.+past_node.Given as goal

abbrev pub decreases-past_elements : goal.decreases-past_elements
decreases-past_elements l = 2 * length l.slots.now + 1

abbrev pub decreases-past_node : goal.decreases-past_node
decreases-past_node l = 2 * length l.slots.now

abbrev pub decreases-past_pairs : goal.decreases-past_pairs
decreases-past_pairs l = 2 * length l.slots.now + 1

abbrev pub invariant-past_elements-loop-first : goal.invariant-past_elements-loop-first
invariant-past_elements-loop-first l = record { fewer : length l.left ≤ length l.slots; found : (o : Result (Bor (List Record)) Location) → PastElements l.text l.left o → PastElements l.text l.slots o }

abbrev pub decreases-past_elements-loop-first : goal.decreases-past_elements-loop-first
decreases-past_elements-loop-first l = length l.left

abbrev pub invariant-past_pairs-loop-first : goal.invariant-past_pairs-loop-first
invariant-past_pairs-loop-first l = record { fewer : length l.left ≤ length l.slots; found : (o : Result (Bor (List Record)) Location) → PastPairs l.text l.left o → PastPairs l.text l.slots o }

abbrev pub decreases-past_pairs-loop-first : goal.decreases-past_pairs-loop-first
decreases-past_pairs-loop-first l = length l.left
