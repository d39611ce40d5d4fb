-- Sound trees: their children behind a node, and that whole trees are sound.
use Rattle.std.proofs.Common.{◌≡◌, true, false, arith}
use Rattle.nodes.specs.Tree.{End, Node, Nodes, Pairs, whole, wholes, wholep, cut_at, no_nodes, no_pairs, Sound, Sounds, Soundp}
use Rattle.nodes.specs.Tree.Node.{scalar, alias, seq, dict, cut}
use Rattle.nodes.specs.Tree.End.{seq_end, map_end}
use Rattle.nodes.specs.Tree.Cut.{ended}
use Rattle.nodes.specs.Tree.Nodes.{none, more}
use Rattle.nodes.specs.Tree.Pairs.{done, pair}

-- the children behind a node, and the pairs behind a key and a value
module _ (n : Node) (ns : Nodes) where
  pub sounds_behind : Sounds (more n ns) → whole n ≡ true → Sounds ns
  sounds_behind s w = grind arith

  pub sounds_none : Sounds (more n ns) → whole n ≡ false → ns ≡ no_nodes
  sounds_none s w = grind arith

  pub sounds_from : cut_at seq_end n ≡ false → Sound n → whole n ≡ true → Sounds ns → Sounds (more n ns)
  sounds_from c s w s' = grind arith

pub sounds_cut : (n : Node) → cut_at seq_end n ≡ false → Sound n → whole n ≡ false → Sounds (more n no_nodes)
sounds_cut n c s w = grind arith

module _ (k v : Node) (ps : Pairs) where
  pub soundp_value : Soundp (pair k v ps) → whole k ≡ true → Sound v
  soundp_value s w = grind arith

  pub soundp_behind : Soundp (pair k v ps) → whole k ≡ true → whole v ≡ true → Soundp ps
  soundp_behind s w w' = grind arith

  pub soundp_none : Soundp (pair k v ps) → whole k ≡ true → whole v ≡ false → ps ≡ no_pairs
  soundp_none s w w' = grind arith

  pub soundp_neither : Soundp (pair k v ps) → whole k ≡ false → (v ≡ cut ended) × (ps ≡ no_pairs)
  soundp_neither s w = grind arith

  pub soundp_from : cut_at map_end k ≡ false → Sound k → whole k ≡ true → Sound v → whole v ≡ true → Soundp ps → Soundp (pair k v ps)
  soundp_from c s w s' w' s'' = grind arith

pub soundp_cut_value : (k v : Node) → cut_at map_end k ≡ false → Sound k → whole k ≡ true → Sound v → whole v ≡ false → Soundp (pair k v no_pairs)
soundp_cut_value k v c s w s' w' = grind arith

pub soundp_cut_key : (k : Node) → cut_at map_end k ≡ false → Sound k → whole k ≡ false → Soundp (pair k (cut ended) no_pairs)
soundp_cut_key k c s w = grind arith

-- a whole node is no end out of place
pub whole_uncut : (e : End) (t : Node) → whole t ≡ true → cut_at e t ≡ false
whole_uncut e t w = grind arith

mutual
  pub whole_sound : (t : Node) → whole t ≡ true → Sound t
  whole_sound (scalar k x) w = tt
  whole_sound (alias k a) w = tt
  whole_sound (seq k h ns) w = whole_sounds ns w
  whole_sound (dict k h ps) w = whole_soundp ps w
  whole_sound (cut c) w = cc

  pub whole_sounds : (ns : Nodes) → wholes ns ≡ true → Sounds ns
  whole_sounds (none k) w = tt
  whole_sounds (more n ns) w = grind (arith, whole_uncut seq_end n, whole_sound n, whole_sounds ns)

  pub whole_soundp : (ps : Pairs) → wholep ps ≡ true → Soundp ps
  whole_soundp (done k) w = tt
  whole_soundp (pair k v ps) w = grind (arith, whole_sound k, whole_sound v, whole_soundp ps)
