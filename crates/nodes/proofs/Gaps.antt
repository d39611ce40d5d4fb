-- Gaps in a node that is being read: whatever whole node is put there, some events behind it make the whole.
use Rattle.std.proofs.Common.{◌≡◌, Bool, true, false, List, [], ◌∷◌, ◌++◌, sym, refl, ap, ◌∙◌, subst, append_assoc, arith}
use Rattle.std.proofs.lemmas.Bool.{both_ways, and_from, and_left, and_right}
use Rattle.records.specs.declared.record.Record.{Record}
use Rattle.records.specs.Blank.{blank}
use Rattle.nodes.specs.Tree.{Mark, Head, End, Node, Nodes, Pairs, rec, mark_of, seq_event, map_event, end_event, flat, flats, flatp, whole, wholes, wholep, cut_at, no_nodes, no_pairs, Sound, Sounds, Soundp, Reads}
use Rattle.nodes.specs.Tree.End.{seq_end, map_end}
use Rattle.nodes.specs.Tree.Cut.{ended, stray}
use Rattle.nodes.specs.Tree.Node.{alias, seq, dict, cut}
use Rattle.nodes.specs.Tree.Nodes.{more}
use Rattle.nodes.specs.Tree.Pairs.{pair}
use Rattle.nodes.specs.Reading.{Begins}
use Rattle.nodes.proofs.Flats.{flat_append, flat_broken}
use Rattle.nodes.proofs.Sounds.{sounds_from, sounds_cut, soundp_from, soundp_cut_value, soundp_cut_key, whole_uncut, whole_sound}
use Rattle.nodes.proofs.Readings.{reads_unique, whole_reads}

-- where a node may stand: anywhere, or where the end of the container may stand too
pub data Spot : Type 0 where
  anywhere : Spot
  before : End → Spot

abbrev pub stops : Spot → Node → Bool
stops anywhere t = false
stops (before e) t = cut_at e t

-- behind the events `front`, what is whole makes a node, and what breaks off makes one that breaks off
pub record Gap (X : Type 0) (unbroken : X → Bool) (Ok : X → Type 0) (flat' : X → List Record → List Record) (front : List Record) : Type 0 where
  pub behind : List Record
  pub filled : (x : X) → unbroken x ≡ true → (u : Node) × (whole u ≡ true) × (flat u [] ≡ front ++ flat' x behind)
  pub broken : (x : X) → Ok x → unbroken x ≡ false → (u : Node) × Sound u × (whole u ≡ false) × (flat u [] ≡ front ++ flat' x [])

abbrev pub At : Spot → Node → Type 0
At s t = (stops s t ≡ false) × Sound t

abbrev pub NodeGap : Spot → List Record → Type 0
NodeGap s front = Gap Node whole (At s) flat front

abbrev pub NodesGap : List Record → Type 0
NodesGap front = Gap Nodes wholes Sounds flats front

abbrev pub PairsGap : List Record → Type 0
PairsGap front = Gap Pairs wholep Soundp flatp front

stops_seq : (s : Spot) (k : Mark) (h : Head) (ns : Nodes) → stops s (seq k h ns) ≡ false
stops_seq s k h ns = grind arith

stops_dict : (s : Spot) (k : Mark) (h : Head) (ps : Pairs) → stops s (dict k h ps) ≡ false
stops_dict s k h ps = grind arith

pub at_start : NodeGap anywhere []
at_start = record { behind = []; filled = λ t w. (t, w, refl); broken = λ t s w. (t, s.1, w, refl) }

module _ (s : Spot) (front : List Record) (g : NodeGap s front) (k : Mark) (h : Head) where
  pub in_seq : NodesGap (front ++ rec k (seq_event h) ∷ [])
  in_seq = record {
    behind = g.behind;
    filled = λ ns w. let (u, v, e) = g.filled (seq k h ns) w in (u, v, e ∙ sym (append_assoc front _ _));
    broken = λ ns o w. let (u, p, v, e) = g.broken (seq k h ns) (stops_seq s k h ns, o) w in (u, p, v, e ∙ sym (append_assoc front _ _));
  }

  pub in_dict : PairsGap (front ++ rec k (map_event h) ∷ [])
  in_dict = record {
    behind = g.behind;
    filled = λ ps w. let (u, v, e) = g.filled (dict k h ps) w in (u, v, e ∙ sym (append_assoc front _ _));
    broken = λ ps o w. let (u, p, v, e) = g.broken (dict k h ps) (stops_dict s k h ps, o) w in (u, p, v, e ∙ sym (append_assoc front _ _));
  }

-- what stands behind a whole node, as behind its records
pub past_node : (front : List Record) (t : Node) (r : List Record) → whole t ≡ true → front ++ flat t r ≡ (front ++ flat t []) ++ r
past_node front t r w = ap (λ x. front ++ x) (flat_append t r w) ∙ sym (append_assoc front (flat t []) r)

module _ (front : List Record) (g : NodesGap front) where
  pub at_element : NodeGap (before seq_end) front
  at_element = record {
    behind = flats no_nodes g.behind;
    filled = λ t w. g.filled (more t no_nodes) (and_from (whole t) true w refl);
    broken = λ t o w.
        let (u, p, v, e) = g.broken (more t no_nodes) (sounds_cut t o.0 o.1 w) (and_left (whole t) true w) in
        (u, p, v, e ∙ ap (λ x. front ++ x) (flat_broken t (flats no_nodes []) [] w));
  }

  pub past_element : (t : Node) → whole t ≡ true → NodesGap (front ++ flat t [])
  past_element t w = record {
    behind = g.behind;
    filled = λ ns v. let (u, z, e) = g.filled (more t ns) (and_from (whole t) (wholes ns) w v) in (u, z, e ∙ past_node front t (flats ns g.behind) w);
    broken = λ ns o v.
        let (u, p, z, e) = g.broken (more t ns) (sounds_from t ns (whole_uncut seq_end t w) (whole_sound t w) w o) (and_right (whole t) (wholes ns) v) in
        (u, p, z, e ∙ past_node front t (flats ns []) w);
  }

-- a node that may stand in any gap
abbrev pub filler : Node
filler = alias (mark_of blank) 0

module _ (front : List Record) (g : PairsGap front) where
  pub at_key : NodeGap (before map_end) front
  at_key = record {
    behind = flat filler (flatp no_pairs g.behind);
    filled = λ k w. g.filled (pair k filler no_pairs) (and_from (whole k) true w refl);
    broken = λ k o w. g.broken (pair k (cut ended) no_pairs) (soundp_cut_key k o.0 o.1 w) (and_left (whole k) false w);
  }

  pub at_value : (k : Node) → whole k ≡ true → NodeGap anywhere (front ++ flat k [])
  at_value k w = record {
    behind = flatp no_pairs g.behind;
    filled = λ v z. let (u, y, e) = g.filled (pair k v no_pairs) (and_from (whole k) _ w (and_from (whole v) true z refl)) in (u, y, e ∙ past_node front k (flat v (flatp no_pairs g.behind)) w);
    broken = λ v o z.
        let (u, p, y, e) = g.broken (pair k v no_pairs) (soundp_cut_value k v (whole_uncut map_end k w) (whole_sound k w) w o.1 z) (and_right (whole k) _ (and_left (whole v) true z)) in
        (u, p, y, e ∙ past_node front k (flat v (flatp no_pairs [])) w ∙ ap (λ x. (front ++ flat k []) ++ x) (flat_broken v (flatp no_pairs []) [] z));
  }

  pub past_pair : (k v : Node) → whole k ≡ true → whole v ≡ true → PairsGap ((front ++ flat k []) ++ flat v [])
  past_pair k v w z = record {
    behind = g.behind;
    filled = λ ps y.
        let (u, x, e) = g.filled (pair k v ps) (and_from (whole k) _ w (and_from (whole v) (wholep ps) z y)) in
        (u, x, e ∙ past_node front k (flat v (flatp ps g.behind)) w ∙ past_node (front ++ flat k []) v (flatp ps g.behind) z);
    broken = λ ps o y.
        let (u, p, x, e) = g.broken (pair k v ps) (soundp_from k v ps (whole_uncut map_end k w) (whole_sound k w) w (whole_sound v z) z o) (and_right (whole k) _ (and_right (whole v) (wholep ps) y)) in
        (u, p, x, e ∙ past_node front k (flat v (flatp ps [])) w ∙ past_node (front ++ flat k []) v (flatp ps []) z);
  }

-- events before a gap begin a node with the first event of what fills it
pub begun_with : (X : Type 0) (unbroken : X → Bool) (Ok : X → Type 0) (flat' : X → List Record → List Record) (front : List Record) (g : Gap X unbroken Ok flat' front) (x : X)
    → unbroken x ≡ true → (r : Record) (rest : List Record) → flat' x g.behind ≡ r ∷ rest → Begins (front ++ r ∷ [])
begun_with X unbroken Ok flat' front g x w r rest q = let (u, v, e) = g.filled x w in (u, rest, v, e ∙ ap (λ y. front ++ y) q ∙ sym (append_assoc front _ _))

-- an end that is out of place stays so, whatever comes behind it
stops_stray : (s : Spot) (k : Mark) (e : End) (q r : List Record) → stops s (cut (stray k e q)) ≡ false → stops s (cut (stray k e r)) ≡ false
stops_stray s k e q r h = grind arith

pub never_begun : (s : Spot) (front : List Record) → NodeGap s front → (k : Mark) (e : End) (q : List Record) → stops s (cut (stray k e q)) ≡ false → Begins (front ++ rec k (end_event e) ∷ []) → ⊥
never_begun s front g k e q h b =
    let (t, r, w, i) = b in
    let (u, p, v, j) = g.broken (cut (stray k e r)) (stops_stray s k e q r h, tt) refl in
    let same : flat t [] ≡ flat u [] = i ∙ append_assoc front _ r ∙ sym j in
    let (z, y) = reads_unique (flat u []) t u [] [] (subst (λ l. Reads l t []) same (whole_reads t [] w)) (record { sound = p; is = refl; all = λ x. refl }) in
    both_ways (whole u) v (ap whole (sym z) ∙ w)
