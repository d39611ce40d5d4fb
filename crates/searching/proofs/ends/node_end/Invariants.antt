-- From each slot on, the count runs to the same end.
use Rattle.std.proofs.Common.{◌≡◌, ◌+◌, ◌≤◌, drop}
use Rattle.searching.proofs.Walks.{run}
use Rattle.searching.proofs.ends.node_end.Given as goal

abbrev pub invariant-loop-i : goal.invariant-loop-i
invariant-loop-i l = record { within : l.depth ≤ l.i; same_end : l.i + run l.depth (drop l.i l.held) ≡ run 0 l.held }
