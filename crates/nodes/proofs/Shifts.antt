-- What bars a node behind others, as at the start of what is left.
use Rattle.std.proofs.Common.{◌≡◌, ℕ, ◌+◌, ◌-◌, refl, arith}
use Rattle.nodes.specs.Tree.{Node, Nodes, Pairs, size}
use Rattle.nodes.specs.Tree.Cut.{ended, stray}
use Rattle.nodes.specs.Tree.Node.{scalar, alias, seq, dict, cut}
use Rattle.nodes.specs.Tree.Nodes.{none, more}
use Rattle.nodes.specs.Tree.Pairs.{done, pair}
use Rattle.nodes.specs.Reading.{Limits, bars, barss, barsp}
use Rattle.nodes.specs.Taking.{less, later}

-- n events having been taken, as with the limits that are left
module _ (l : Limits) (n : ℕ) where
  mutual
    pub bars-shift : (d i : ℕ) (t : Node) → bars l d (n + i) t ≡ later n (bars (less n l) d i t)
    bars-shift d i (scalar k x) = grind arith
    bars-shift d i (alias k a) = grind arith
    bars-shift d i (seq k h ns) = grind (arith, barss-shift (d - 1) (i + 1) ns)
    bars-shift d i (dict k h ps) = grind (arith, barsp-shift (d - 1) (i + 1) ps)
    bars-shift d i (cut ended) = refl
    bars-shift d i (cut (stray k e r)) = grind arith

    pub barss-shift : (d i : ℕ) (ns : Nodes) → barss l d (n + i) ns ≡ later n (barss (less n l) d i ns)
    barss-shift d i (none k) = grind arith
    barss-shift d i (more t ns) = grind (arith, bars-shift d i t, barss-shift d (i + size t) ns)

    pub barsp-shift : (d i : ℕ) (ps : Pairs) → barsp l d (n + i) ps ≡ later n (barsp (less n l) d i ps)
    barsp-shift d i (done k) = grind arith
    barsp-shift d i (pair k v ps) = grind (arith, bars-shift d i k, bars-shift d (i + size k) v, barsp-shift d (i + size k + size v) ps)
