-- What collecting leaves: the node that stands on the rack, and the source.
use Rattle.std.specs.Prelude.{◌≡◌, ℕ, Bool, true, false, cond, ◌&&◌}
use Rattle.records.specs.declared.options.MergeKeyPolicy.{MergeKeyPolicy}
use Rattle.records.specs.declared.options.MergeKeyPolicy.TheVariants.{Merge, AsOrdinary, Error as NoMerges}
use Rattle.events.specs.Meaning.{Meaning, peeked, settled}
use Rattle.nodes.specs.Tree.{Node, Nodes, Pairs, size, depth, whole}
use Rattle.nodes.specs.Tree.Node.{scalar, alias, seq, dict, cut}
use Rattle.nodes.specs.Tree.Nodes.{none, more}
use Rattle.nodes.specs.Tree.Pairs.{done, pair}
use Rattle.nodes.specs.Reading.{Limits, bars}
use Rattle.nodes.specs.Taking.{past}
use Rattle.nodes.specs.Fields.{Rules, resolved, is_merge}
use Rattle.nodes.specs.Collect.{Stop}

-- The node as its events were answered: a recursive alias is read as null where the collector looked at it undeferred,
-- that is as a key, as a merge value and as an element of one.
abbrev pub elements_taken : Bool → Nodes → Nodes
elements_taken defers (none k) = none k
elements_taken defers (more n ns) = more (resolved defers n) (elements_taken defers ns)

abbrev pub value_taken : Bool → Node → Node
value_taken defers (scalar k x) = scalar k x
value_taken defers (alias k a) = resolved defers (alias k a)
value_taken defers (seq k h ns) = seq k h (elements_taken defers ns)
value_taken defers (dict k h ps) = dict k h ps
value_taken defers (cut c) = cut c

abbrev pub is_merging : MergeKeyPolicy → Bool
is_merging Merge = true
is_merging AsOrdinary = false
is_merging NoMerges = false

abbrev pub pairs_taken : Rules → Bool → Pairs → Pairs
pairs_taken R defers (done k) = done k
pairs_taken R defers (pair k v ps) = pair (resolved defers k) (cond (is_merge R.text k && is_merging R.merges) (value_taken defers v) v) (pairs_taken R defers ps)

abbrev pub node_taken : Rules → Bool → Node → Node
node_taken R defers (scalar k x) = scalar k x
node_taken R defers (alias k a) = alias k a
node_taken R defers (seq k h ns) = seq k h ns
node_taken R defers (dict k h ps) = dict k h (pairs_taken R defers ps)
node_taken R defers (cut c) = cut c

-- the source after a refusal: what was taken is gone, and the next event may have been looked at
abbrev pub left_by : Stop → Meaning → Meaning
left_by s m = cond s.looked (settled (peeked (past s.taken m)) (past s.taken m)) (past s.taken m)

-- the node that is left is as large, as deep and as whole as the one that came, and is barred by the same
abbrev pub OneNodeLeft : Type 0
OneNodeLeft = (R : Rules) (defers : Bool) (t : Node)
    → (size (node_taken R defers t) ≡ size t) × (depth (node_taken R defers t) ≡ depth t) × (whole (node_taken R defers t) ≡ whole t)
    × ((l : Limits) (d i : ℕ) → bars l d i (node_taken R defers t) ≡ bars l d i t)
