-- Slots and the nodes in them, and how the count of open containers runs over a node.
use Rattle.std.proofs.Common.{◌≡◌, ℕ, zero, suc, ◌+◌, ◌-◌, ◌<◌, ◌≤◌, true, List, [], ◌∷◌, length, get_or, drop, refl, ap, arith}
use Rattle.std.proofs.lemmas.List.{at_drop_more, length-drop}
use Rattle.std.proofs.lemmas.Bool.{false≢true, and_parts}
use Rattle.records.specs.declared.record.Record.{Record}
use Rattle.records.specs.Blank.{blank}
use Rattle.nodes.specs.Tree.{Node, Nodes, Pairs, flat, flats, flatp, size, sizes, sizep, whole, wholes, wholep}
use Rattle.nodes.specs.Tree.Node.{scalar, alias, seq, dict, cut}
use Rattle.nodes.specs.Tree.Nodes.{none, more}
use Rattle.nodes.specs.Tree.Pairs.{done, pair}
use Rattle.nodes.proofs.Flats.{size_flat, size_some}
use Rattle.nodes.specs.Reading.{opens}

-- a node ends in the slots
pub ends_within : (s : List Record) (i : ℕ) (t : Node) (r : List Record) → whole t ≡ true → drop i s ≡ flat t r → (0 < size t) × (i + size t ≤ length s)
ends_within s i t r w e =
    let l = ap length e in
    let m = size_flat t r w in
    let n = length-drop i s in
    let p = size_some t w in
    (p, omega arith)

-- how many records there are until no container is open
abbrev pub further : ℕ → ℕ → ℕ
further zero n = zero
further (suc d) n = n

abbrev pub run : ℕ → List Record → ℕ
run d [] = 0
run d (e ∷ r) = suc (further (opens d e.event) (run (opens d e.event) r))

one_less : (d : ℕ) → suc d - 1 ≡ d
one_less d = omega arith

mutual
  run_flat : (t : Node) (d : ℕ) (r : List Record) → whole t ≡ true → run (suc d) (flat t r) ≡ size t + run (suc d) r
  run_flat (scalar k x) d r w = omega arith
  run_flat (alias k a) d r w = omega arith
  run_flat (seq k h ns) d r w = omega (arith, run_flats ns (suc d) r w)
  run_flat (dict k h ps) d r w = omega (arith, run_flatp ps (suc d) r w)
  run_flat (cut c) d r w = absurd (false≢true w)

  run_flats : (ns : Nodes) (d : ℕ) (r : List Record) → wholes ns ≡ true → run (suc d) (flats ns r) ≡ sizes ns + further d (run d r)
  run_flats (none k) d r w = omega (arith, ap (λ x. further x (run x r)) (one_less d))
  run_flats (more n ns) d r w =
      let (a, b) = and_parts (whole n) (wholes ns) w in
      omega (arith, run_flat n d (flats ns r) a, run_flats ns d r b)

  run_flatp : (ps : Pairs) (d : ℕ) (r : List Record) → wholep ps ≡ true → run (suc d) (flatp ps r) ≡ sizep ps + further d (run d r)
  run_flatp (done k) d r w = omega (arith, ap (λ x. further x (run x r)) (one_less d))
  run_flatp (pair k v ps) d r w =
      let (a, w') = and_parts (whole k) _ w in
      let (b, c) = and_parts (whole v) (wholep ps) w' in
      omega (arith, run_flat k d (flat v (flatp ps r)) a, run_flat v d (flatp ps r) b, run_flatp ps d r c)

pub run_node : (t : Node) (r : List Record) → whole t ≡ true → run 0 (flat t r) ≡ size t
run_node (scalar k x) r w = refl
run_node (alias k a) r w = refl
run_node (seq k h ns) r w = omega (arith, run_flats ns 0 r w)
run_node (dict k h ps) r w = omega (arith, run_flatp ps 0 r w)
run_node (cut c) r w = absurd (false≢true w)

-- where the count comes to nothing it stops
pub stopped : (s : List Record) (i d m : ℕ) → i < length s → opens d (get_or s i blank).event ≡ 0 → i + run d (drop i s) ≡ m → i + 1 ≡ m
stopped s i d m h z k =
    let u = at_drop_more (run d) s i blank h in
    let v = ap (λ x. further x (run x (drop (i + 1) s))) z in
    omega arith
