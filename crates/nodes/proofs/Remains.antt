-- The node that a collection leaves is as large, as deep and as whole as the one that came, and is barred by the same.
use Rattle.std.proofs.Common.{◌≡◌, ℕ, ◌+◌, ◌-◌, Bool, true, false, cond, ◌&&◌, Option, refl, arith}
use lib.Dec.{leb-zero}
use Rattle.nodes.specs.Tree.{Mark, Head, Node, Nodes, Pairs, size, sizes, sizep, depth, depths, depthp, whole, wholes, wholep}
use Rattle.nodes.specs.Tree.Node.{scalar, alias, seq, dict, cut}
use Rattle.nodes.specs.Tree.Nodes.{none, more}
use Rattle.nodes.specs.Tree.Pairs.{done, pair}
use Rattle.nodes.specs.Reading.{Limits, Bar, bars, barss, barsp}
use Rattle.nodes.specs.Fields.{Rules, resolved, is_merge}
use Rattle.nodes.specs.Leaving.{elements_taken, value_taken, is_merging, pairs_taken, node_taken, OneNodeLeft}

-- two trees with the same outline
pub record Outlines (X : Type 0) (size_of depth_of : X → ℕ) (whole_of : X → Bool) (bars_of : Limits → ℕ → ℕ → X → Option Bar) (t u : X) : Type 0 where
  pub size : size_of t ≡ size_of u
  pub depth : depth_of t ≡ depth_of u
  pub whole : whole_of t ≡ whole_of u
  pub bars : (l : Limits) (d i : ℕ) → bars_of l d i t ≡ bars_of l d i u

abbrev pub Same : Node → Node → Type 0
Same t u = Outlines Node size depth whole bars t u

abbrev pub Sames : Nodes → Nodes → Type 0
Sames ns ms = Outlines Nodes sizes depths wholes barss ns ms

abbrev pub Samep : Pairs → Pairs → Type 0
Samep ps qs = Outlines Pairs sizep depthp wholep barsp ps qs

pub same : {X : Type 0} {size_of depth_of : X → ℕ} {whole_of : X → Bool} {bars_of : Limits → ℕ → ℕ → X → Option Bar} (t : X) → Outlines X size_of depth_of whole_of bars_of t t
same t = record { size = refl; depth = refl; whole = refl; bars = λ l d i. refl }

pub same_cond : (q : Bool) (t u : Node) → Same t u → Same (cond q t u) u
same_cond true t u s = s
same_cond false t u s = same u

pub same_more : (n m : Node) (ns ms : Nodes) → Same n m → Sames ns ms → Sames (more n ns) (more m ms)
same_more n m ns ms s r =
    record { size = cc; depth = cc; whole = cc; bars = λ l d i. cc (s.bars l d i, r.bars l d (i + size n)) }

pub same_pair : (k l v w : Node) (ps qs : Pairs) → Same k l → Same v w → Samep ps qs → Samep (pair k v ps) (pair l w qs)
same_pair k l v w ps qs s r p =
    record { size = cc; depth = cc; whole = cc; bars = λ m d i. cc (s.bars m d i, r.bars m d (i + size k), p.bars m d (i + size k + size v)) }

pub same_seq : (k : Mark) (h : Head) (ns ms : Nodes) → Sames ns ms → Same (seq k h ns) (seq k h ms)
same_seq k h ns ms s = record { size = cc; depth = cc; whole = s.whole; bars = λ l d i. cc (s.bars l (d - 1) (i + 1)) }

pub same_dict : (k : Mark) (h : Head) (ps qs : Pairs) → Samep ps qs → Same (dict k h ps) (dict k h qs)
same_dict k h ps qs s = record { size = cc; depth = cc; whole = s.whole; bars = λ l d i. cc (s.bars l (d - 1) (i + 1)) }

-- the null that a recursive alias is read as has no place outside any text
pub same_resolved : (defers : Bool) (t : Node) → Same (resolved defers t) t
same_resolved defers (scalar k x) = same (scalar k x)
same_resolved true (alias k a) = same (alias k a)
same_resolved false (alias k a) =
    record { size = refl; depth = refl; whole = refl; bars = λ l d i. grind (arith, leb-zero l.text) }
same_resolved defers (seq k h ns) = same (seq k h ns)
same_resolved defers (dict k h ps) = same (dict k h ps)
same_resolved defers (cut c) = same (cut c)

pub same_elements : (defers : Bool) (ns : Nodes) → Sames (elements_taken defers ns) ns
same_elements defers (none k) = same (none k)
same_elements defers (more n ns) = same_more (resolved defers n) n (elements_taken defers ns) ns (same_resolved defers n) (same_elements defers ns)

pub same_value : (defers : Bool) (t : Node) → Same (value_taken defers t) t
same_value defers (scalar k x) = same (scalar k x)
same_value defers (alias k a) = same_resolved defers (alias k a)
same_value defers (seq k h ns) = same_seq k h (elements_taken defers ns) ns (same_elements defers ns)
same_value defers (dict k h ps) = same (dict k h ps)
same_value defers (cut c) = same (cut c)

pub same_pairs : (R : Rules) (defers : Bool) (ps : Pairs) → Samep (pairs_taken R defers ps) ps
same_pairs R defers (done k) = same (done k)
same_pairs R defers (pair k v ps) =
    same_pair (resolved defers k) k _ v (pairs_taken R defers ps) ps
    (same_resolved defers k) (same_cond (is_merge R.text k && is_merging R.merges) (value_taken defers v) v (same_value defers v)) (same_pairs R defers ps)

pub same_node : (R : Rules) (defers : Bool) (t : Node) → Same (node_taken R defers t) t
same_node R defers (scalar k x) = same (scalar k x)
same_node R defers (alias k a) = same (alias k a)
same_node R defers (seq k h ns) = same (seq k h ns)
same_node R defers (dict k h ps) = same_dict k h (pairs_taken R defers ps) ps (same_pairs R defers ps)
same_node R defers (cut c) = same (cut c)

pub one_node_left : OneNodeLeft
one_node_left R defers t = let s = same_node R defers t in (s.size, s.depth, s.whole, s.bars)
