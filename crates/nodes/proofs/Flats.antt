-- The records of a node: how many they are, and what stands behind them.
use Rattle.std.proofs.Common.{◌≡◌, ◌+◌, ◌<◌, true, false, List, [], ◌∷◌, ◌++◌, length, take, drop, refl, ap, ◌∙◌, arith}
use Rattle.std.proofs.lemmas.List.{take_at, drop_at}
use Rattle.records.specs.declared.record.Event.TheVariants.{RecursiveAlias}
use Rattle.records.specs.declared.record.Record.{Record}
use Rattle.nodes.specs.Tree.{Node, Nodes, Pairs, rec, scalar_event, seq_event, map_event, flat, flats, flatp, size, sizes, sizep, whole, wholes, wholep}
use Rattle.nodes.specs.Tree.Node.{scalar, alias, seq, dict, cut}
use Rattle.nodes.specs.Tree.Nodes.{none, more}
use Rattle.nodes.specs.Tree.Pairs.{done, pair}
use Rattle.nodes.specs.Reading.{is_end}

-- what stands behind a whole node may be parted anywhere
mutual
  pub flat_behind : (t : Node) (r x : List Record) → whole t ≡ true → flat t (r ++ x) ≡ flat t r ++ x
  flat_behind (scalar k y) r x w = refl
  flat_behind (alias k a) r x w = refl
  flat_behind (seq k h ns) r x w = grind (arith, flats_behind ns r x w)
  flat_behind (dict k h ps) r x w = grind (arith, flatp_behind ps r x w)
  flat_behind (cut c) r x w = cc

  pub flats_behind : (ns : Nodes) (r x : List Record) → wholes ns ≡ true → flats ns (r ++ x) ≡ flats ns r ++ x
  flats_behind (none k) r x w = refl
  flats_behind (more n ns) r x w = grind (arith, flats_behind ns r x, flat_behind n (flats ns r) x)

  pub flatp_behind : (ps : Pairs) (r x : List Record) → wholep ps ≡ true → flatp ps (r ++ x) ≡ flatp ps r ++ x
  flatp_behind (done k) r x w = refl
  flatp_behind (pair k v ps) r x w = grind (arith, flatp_behind ps r x, flat_behind v (flatp ps r) x, flat_behind k (flat v (flatp ps r)) x)

pub flat_append : (t : Node) (r : List Record) → whole t ≡ true → flat t r ≡ flat t [] ++ r
flat_append t r w = flat_behind t [] r w

pub flats_append : (ns : Nodes) (r : List Record) → wholes ns ≡ true → flats ns r ≡ flats ns [] ++ r
flats_append ns r w = flats_behind ns [] r w

pub flatp_append : (ps : Pairs) (r : List Record) → wholep ps ≡ true → flatp ps r ≡ flatp ps [] ++ r
flatp_append ps r w = flatp_behind ps [] r w

-- how many records a whole node has
mutual
  pub size_flat : (t : Node) (r : List Record) → whole t ≡ true → length (flat t r) ≡ size t + length r
  size_flat (scalar k y) r w = omega arith
  size_flat (alias k a) r w = omega arith
  size_flat (seq k h ns) r w = omega (arith, size_flats ns r w)
  size_flat (dict k h ps) r w = omega (arith, size_flatp ps r w)
  size_flat (cut c) r w = cc

  pub size_flats : (ns : Nodes) (r : List Record) → wholes ns ≡ true → length (flats ns r) ≡ sizes ns + length r
  size_flats (none k) r w = omega arith
  size_flats (more n ns) r w = grind (arith, size_flat n (flats ns r), size_flats ns r)

  pub size_flatp : (ps : Pairs) (r : List Record) → wholep ps ≡ true → length (flatp ps r) ≡ sizep ps + length r
  size_flatp (done k) r w = omega arith
  size_flatp (pair k v ps) r w = grind (arith, size_flat k (flat v (flatp ps r)), size_flat v (flatp ps r), size_flatp ps r)

-- a whole node has a record
pub size_some : (t : Node) → whole t ≡ true → 0 < size t
size_some (scalar k y) w = omega arith
size_some (alias k a) w = omega arith
size_some (seq k h ns) w = omega arith
size_some (dict k h ps) w = omega arith
size_some (cut c) w = cc

length_flat : (t : Node) → whole t ≡ true → length (flat t []) ≡ size t
length_flat t w = grind (arith, size_flat t)

pub take_flat : (t : Node) (r : List Record) → whole t ≡ true → take (size t) (flat t r) ≡ flat t []
take_flat t r w = ap (take (size t)) (flat_append t r w) ∙ take_at (flat t []) r (size t) (length_flat t w)

pub drop_flat : (t : Node) (r : List Record) → whole t ≡ true → drop (size t) (flat t r) ≡ r
drop_flat t r w = ap (drop (size t)) (flat_append t r w) ∙ drop_at (flat t []) r (size t) (length_flat t w)

-- the first record of a whole node is no end
pub record Headed (es : List Record) : Type 0 where
  pub first : Record
  pub rest : List Record
  pub is : es ≡ first ∷ rest
  pub no_end : is_end first.event ≡ false

pub flat_headed : (t : Node) (r : List Record) → whole t ≡ true → Headed (flat t r)
flat_headed (scalar k y) r w = record { first = rec k (scalar_event y); rest = r; is = refl; no_end = refl }
flat_headed (alias k a) r w = record { first = rec k (RecursiveAlias a); rest = r; is = refl; no_end = refl }
flat_headed (seq k h ns) r w = record { first = rec k (seq_event h); rest = flats ns r; is = refl; no_end = refl }
flat_headed (dict k h ps) r w = record { first = rec k (map_event h); rest = flatp ps r; is = refl; no_end = refl }
flat_headed (cut c) r w = cc

-- what stands behind a node that breaks off is not read
mutual
  pub flat_broken : (t : Node) (r s : List Record) → whole t ≡ false → flat t r ≡ flat t s
  flat_broken (scalar k y) r s w = cc
  flat_broken (alias k a) r s w = cc
  flat_broken (seq k h ns) r s w = grind (arith, flats_broken ns r s w)
  flat_broken (dict k h ps) r s w = grind (arith, flatp_broken ps r s w)
  flat_broken (cut c) r s w = refl

  pub flats_broken : (ns : Nodes) (r s : List Record) → wholes ns ≡ false → flats ns r ≡ flats ns s
  flats_broken (none k) r s w = cc
  flats_broken (more n ns) r s w = grind (arith, flat_broken n (flats ns r) (flats ns s), flats_broken ns r s)

  pub flatp_broken : (ps : Pairs) (r s : List Record) → wholep ps ≡ false → flatp ps r ≡ flatp ps s
  flatp_broken (done k) r s w = cc
  flatp_broken (pair k v ps) r s w = grind (arith, flat_broken k (flat v (flatp ps r)) (flat v (flatp ps s)), flat_broken v (flatp ps r) (flatp ps s), flatp_broken ps r s)
