-- The search for the first merge key inside a node finds the first, in the order in which the node is written.
use Rattle.std.specs.Prelude.{◌≡◌, ℕ, suc, ◌+◌, ◌≤◌, true, ◌↔◌, List, [], ◌∷◌, drop, Some, None as Nothing}
use Rattle.records.specs.declared.location.Location.{Location}
use Rattle.records.specs.declared.record.Record.{Record}
use Rattle.nodes.specs.Tree.{Mark, Head, Text, Node, Nodes, Pairs, rec, scalar_event, flat, size, whole}
use Rattle.nodes.specs.Tree.Node.{seq, dict}
use Rattle.nodes.specs.Tree.Nodes.{more}
use Rattle.nodes.specs.Tree.Pairs.{pair}
use Rattle.nodes.specs.Fields.{merge_words, is_merge, place, merge_in}

-- a merge key of some mapping inside a node, which is the n-th record of the node, counted from 0, and stands at l
mutual
  pub data MergeAt (text : List ℕ) : Node → ℕ → Location → Type 0 where
    in_elements : {k : Mark} {h : Head} {ns : Nodes} {n : ℕ} {l : Location} → MergeAts text ns n l → MergeAt text (seq k h ns) (suc n) l
    in_pairs : {k : Mark} {h : Head} {ps : Pairs} {n : ℕ} {l : Location} → MergeAtp text ps n l → MergeAt text (dict k h ps) (suc n) l

  pub data MergeAts (text : List ℕ) : Nodes → ℕ → Location → Type 0 where
    in_element : {t : Node} {ns : Nodes} {n : ℕ} {l : Location} → MergeAt text t n l → MergeAts text (more t ns) n l
    later : {t : Node} {ns : Nodes} {n : ℕ} {l : Location} → MergeAts text ns n l → MergeAts text (more t ns) (size t + n) l

  pub data MergeAtp (text : List ℕ) : Pairs → ℕ → Location → Type 0 where
    key : {k v : Node} {ps : Pairs} → is_merge text k ≡ true → MergeAtp text (pair k v ps) 0 (place k)
    in_key : {k v : Node} {ps : Pairs} {n : ℕ} {l : Location} → MergeAt text k n l → MergeAtp text (pair k v ps) n l
    in_value : {k v : Node} {ps : Pairs} {n : ℕ} {l : Location} → MergeAt text v n l → MergeAtp text (pair k v ps) (size k + n) l
    behind : {k v : Node} {ps : Pairs} {n : ℕ} {l : Location} → MergeAtp text ps n l → MergeAtp text (pair k v ps) (size k + size v + n) l

-- the n-th of some records, from 0, is a scalar at l with the words of a merge key
pub record KeyAt (text : List ℕ) (es : List Record) (n : ℕ) (l : Location) : Type 0 where
  pub mark : Mark
  pub words : Text
  pub rest : List Record
  pub is : drop n es ≡ rec mark (scalar_event words) ∷ rest
  pub stands : mark.location ≡ l
  pub merges : merge_words text words ≡ true

-- Merge keys are counted as the records are. The search finds nothing exactly where there is no merge key, and else the
-- one before which there is none.
abbrev pub SearchFindsTheFirst : Type 0
SearchFindsTheFirst = (text : List ℕ) (t : Node) → whole t ≡ true
    → ((n : ℕ) (l : Location) → MergeAt text t n l → KeyAt text (flat t []) n l)
    × ((merge_in text t ≡ Nothing) ↔ ((n : ℕ) (l : Location) → MergeAt text t n l → ⊥))
    × ((l : Location) → (merge_in text t ≡ Some l) ↔ ((n : ℕ) × MergeAt text t n l × ((m : ℕ) (o : Location) → MergeAt text t m o → n ≤ m)))
