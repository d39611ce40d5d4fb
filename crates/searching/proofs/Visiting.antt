-- The steps of the search for merge keys: an answer that is right for what is left is right for what stands before.
use Rattle.std.proofs.Common.{◌≡◌, ℕ, true, false, cond, Bool, List, [], ◌∷◌, length, Bor, Some, None as Nothing, Ok, Err, Option, Result, sym, refl, ap, ◌∙◌, subst, arith}
use Rattle.std.proofs.lemmas.List.Elements.{All-take, All-drop, All-from_recursion, recursion_from_All}
use Rattle.std.proofs.lemmas.Bool.{true≢false, false≢true, and_parts, cond-true, cond-false}
use Rattle.records.specs.declared.location.Location.{Location}
use Rattle.records.specs.declared.tags.SfTag.{SfTag}
use Rattle.records.specs.declared.record.Place.{Place}
use Rattle.records.specs.declared.record.Event.{Event}
use Rattle.records.specs.declared.record.Event.TheVariants.{Scalar, SeqStart, SeqEnd, MapStart, MapEnd, RecursiveAlias}
use Rattle.records.specs.declared.record.Record.{Record}
use Rattle.records.specs.Places.{placed}
use Rattle.events.specs.View.{seen, viewed}
use Rattle.fingerprints.specs.Views.{merge_key}
use Rattle.nodes.specs.Tree.{Mark, Node, Pairs, Inside, rec, scalar_event, seq_event, map_event, flat, flats, flatp, whole, wholes, wholep}
use Rattle.nodes.specs.Tree.Node.{scalar, alias, seq, dict, cut}
use Rattle.nodes.specs.Tree.Nodes.{none, more}
use Rattle.nodes.specs.Tree.Pairs.{done, pair}
use Rattle.nodes.specs.Reading.{is_end}
use Rattle.nodes.specs.Fields.{is_merge, place, or_then, merge_in, merge_ins, merge_inp}
use Rattle.nodes.proofs.Flats.{take_flat, drop_flat, size_flat, size_some, flat_headed}
use Rattle.searching.specs.Slots.{merge_seen, Placed, Answers, PastNode, PastElements, PastPairs}

-- the places of a node, and of what stands behind it
first_placed : (n : ℕ) (t : Node) (rs : List Record) → whole t ≡ true → Placed n (flat t rs) → Inside n t
first_placed n t rs w p = let P : Record → Type 0 = λ r. placed n r.event ≡ true in subst (Placed n) (take_flat t rs w) (recursion_from_All P _ (All-take P _ (flat t rs) (All-from_recursion P _ p)))

rest_placed : (n : ℕ) (t : Node) (rs : List Record) → whole t ≡ true → Placed n (flat t rs) → Placed n rs
rest_placed n t rs w p = let P : Record → Type 0 = λ r. placed n r.event ≡ true in subst (Placed n) (drop_flat t rs w) (recursion_from_All P _ (All-drop P _ (flat t rs) (All-from_recursion P _ p)))

-- no node is read from no slots
no_node : (t : Node) (r s : List Record) → length s ≡ 0 → whole t ≡ true → s ≡ flat t r → ⊥
no_node t r s l w e =
    let k = ap length e in
    let m = size_flat t r w in
    let p = size_some t w in
    omega arith

-- nothing found at first, and something found at first
passed : (a b : Option Location) (rest : List Record) (o : Result (Bor (List Record)) Location) → a ≡ Nothing → Answers b rest o → Answers (or_then a b) rest o
passed a b rest o e h = subst (λ x. Answers (or_then x b) rest o) (sym e) h

found : (a b : Option Location) (l : Location) → a ≡ Some l → or_then a b ≡ Some l
found a b l e = ap (λ x. or_then x b) e

-- an event that is a node alone
abbrev pub is_leaf : Event → Bool
is_leaf (Scalar a t w s v) = true
is_leaf (SeqStart a t w) = false
is_leaf SeqEnd = false
is_leaf (MapStart a t w) = false
is_leaf MapEnd = false
is_leaf (RecursiveAlias a) = true

module _ (text : List ℕ) (s : List Record) where
  -- nothing is left
  pub node_none : (o : Result (Bor (List Record)) Location) → length s ≡ 0 → PastNode text s o
  node_none o l t r w p e = absurd (no_node t r s l w e)

  pub elements_none : (o : Result (Bor (List Record)) Location) → length s ≡ 0 → PastElements text s o
  elements_none o l (none k) r w p e = absurd (let j = ap length e in omega arith)
  elements_none o l (more n ns) r w p e = let (a, b) = and_parts (whole n) (wholes ns) w in absurd (no_node n _ s l a e)

  pub pairs_none : (o : Result (Bor (List Record)) Location) → length s ≡ 0 → PastPairs text s o
  pairs_none o l (done k) r w p e = absurd (let j = ap length e in omega arith)
  pairs_none o l (pair k v ps) r w p e = let (a, b) = and_parts (whole k) _ w in absurd (no_node k _ s l a e)

-- the first slot, and what stands behind it
module _ (text : List ℕ) (s : List Record) (x : Record) (xs : List Record) (h : s ≡ x ∷ xs) where
  -- what a node begins with
  pub no_end : (t : Node) (r : List Record) → is_end x.event ≡ true → whole t ≡ true → s ≡ flat t r → ⊥
  no_end t r q w e =
      let f = flat_headed t r w in
      let j : x ≡ f.first = cc (h, e, f.is) in
      true≢false (sym q ∙ ap (λ y. is_end y.event) j ∙ f.no_end)

  pub node_leaf : (left : Bor (List Record)) → left.now ≡ xs → is_leaf x.event ≡ true → PastNode text s (Ok left)
  node_leaf left n q (scalar k v) r w p e = (cc, refl)
  node_leaf left n q (alias k b) r w p e = (cc, refl)
  node_leaf left n q (seq k d ns) r w p e = let j : x ≡ rec k (seq_event d) = cc in absurd (true≢false (sym q ∙ ap (λ y. is_leaf y.event) j))
  node_leaf left n q (dict k d ps) r w p e = let j : x ≡ rec k (map_event d) = cc in absurd (true≢false (sym q ∙ ap (λ y. is_leaf y.event) j))
  node_leaf left n q (cut c) r w p e = absurd (false≢true w)

  -- a container, by what is inside it
  pub node_sequence : (o : Result (Bor (List Record)) Location) (a : ℕ) (tag : SfTag) (raw : Option Place) → x.event ≡ SeqStart a tag raw → PastElements text xs o → PastNode text s o
  node_sequence o a tag raw q v (scalar k y) r w p e = cc
  node_sequence o a tag raw q v (alias k b) r w p e = cc
  node_sequence o a tag raw q v (seq k d ns) r w p e = v ns r w p.1 cc
  node_sequence o a tag raw q v (dict k d ps) r w p e = cc
  node_sequence o a tag raw q v (cut c) r w p e = absurd (false≢true w)

  pub node_mapping : (o : Result (Bor (List Record)) Location) (a : ℕ) (tag : SfTag) (raw : Option Place) → x.event ≡ MapStart a tag raw → PastPairs text xs o → PastNode text s o
  node_mapping o a tag raw q v (scalar k y) r w p e = cc
  node_mapping o a tag raw q v (alias k b) r w p e = cc
  node_mapping o a tag raw q v (seq k d ns) r w p e = cc
  node_mapping o a tag raw q v (dict k d ps) r w p e = v ps r w p.1 cc
  node_mapping o a tag raw q v (cut c) r w p e = absurd (false≢true w)

  -- the elements of a sequence
  pub elements_end : (left : Bor (List Record)) → left.now ≡ xs → x.event ≡ SeqEnd → PastElements text s (Ok left)
  elements_end left n q (none k) r w p e = (cc, refl)
  elements_end left n q (more t ns) r w p e = let (a, b) = and_parts (whole t) (wholes ns) w in absurd (no_end t _ (ap is_end q) a e)

  pub elements_found : (l : Location) → (x.event ≡ SeqEnd → ⊥) → PastNode text s (Err l) → PastElements text s (Err l)
  elements_found l q v (none k) r w p e = absurd (q cc)
  elements_found l q v (more t ns) r w p e =
      let (a, b) = and_parts (whole t) (wholes ns) w in
      found _ (merge_ins text ns) l (v t _ a (first_placed _ t (flats ns []) a p) e)

  pub elements_more : (next : Bor (List Record)) (o : Result (Bor (List Record)) Location) → (x.event ≡ SeqEnd → ⊥) → PastNode text s (Ok next) → PastElements text next.now o → PastElements text s o
  elements_more next o q v f (none k) r w p e = absurd (q cc)
  elements_more next o q v f (more t ns) r w p e =
      let (a, b) = and_parts (whole t) (wholes ns) w in
      let u = v t _ a (first_placed _ t (flats ns []) a p) e in
      passed _ (merge_ins text ns) r o u.1 (f ns r b (rest_placed _ t (flats ns []) a p) u.0)

  -- the pairs of a mapping
  pub pairs_end : (left : Bor (List Record)) → left.now ≡ xs → x.event ≡ MapEnd → PastPairs text s (Ok left)
  pairs_end left n q (done k) r w p e = (cc, refl)
  pairs_end left n q (pair k v ps) r w p e = let (a, b) = and_parts (whole k) _ w in absurd (no_end k _ (ap is_end q) a e)

  -- a key is a merge key where its first slot is seen as one
  seen_at : (k : Mark) (e : Event) → placed (length text) e ≡ true → merge_seen (seen text (rec k e)) ≡ merge_key (viewed text k.location e)
  seen_at k e p = ap (λ b. merge_seen (cond b (Some (viewed text k.location e)) Nothing)) p

  key_seen : (t : Node) (r : List Record) → whole t ≡ true → Inside (length text) t → s ≡ flat t r → merge_seen (seen text x) ≡ is_merge text t
  key_seen (scalar k y) r w p e = let j : x ≡ rec k (scalar_event y) = cc in ap (λ z. merge_seen (seen text z)) j ∙ seen_at k (scalar_event y) p.0
  key_seen (alias k b) r w p e = let j : x ≡ rec k (RecursiveAlias b) = cc in ap (λ z. merge_seen (seen text z)) j
  key_seen (seq k d ns) r w p e = let j : x ≡ rec k (seq_event d) = cc in ap (λ z. merge_seen (seen text z)) j ∙ seen_at k (seq_event d) p.0
  key_seen (dict k d ps) r w p e = let j : x ≡ rec k (map_event d) = cc in ap (λ z. merge_seen (seen text z)) j ∙ seen_at k (map_event d) p.0
  key_seen (cut c) r w p e = absurd (false≢true w)

  key_place : (t : Node) (r : List Record) → whole t ≡ true → s ≡ flat t r → place t ≡ x.location
  key_place (scalar k y) r w e = cc
  key_place (alias k b) r w e = cc
  key_place (seq k d ns) r w e = cc
  key_place (dict k d ps) r w e = cc
  key_place (cut c) r w e = absurd (false≢true w)

  pub pairs_merge : (x.event ≡ MapEnd → ⊥) → true ≡ merge_seen (seen text x) → PastPairs text s (Err x.location)
  pairs_merge q m (done k) r w p e = absurd (q cc)
  pairs_merge q m (pair k v ps) r w p e =
      let (a, b) = and_parts (whole k) _ w in
      let g = key_seen k _ a (first_placed _ k (flat v (flatp ps [])) a p) e in
      cond-true (is_merge text k) _ _ (sym (m ∙ g)) ∙ ap Some (key_place k _ a e)

  -- a key that is none, by what is inside it
  module _ (q : x.event ≡ MapEnd → ⊥) (m : false ≡ merge_seen (seen text x)) where
    plain_key : (k v : Node) (ps : Pairs) (r : List Record) → whole k ≡ true → Placed (length text) (flat k (flat v (flatp ps []))) → s ≡ flat k (flat v (flatp ps r)) → merge_inp text (pair k v ps) ≡ or_then (merge_in text k) (or_then (merge_in text v) (merge_inp text ps))
    plain_key k v ps r a p e = cond-false (is_merge text k) _ _ (sym (m ∙ key_seen k _ a (first_placed _ k (flat v (flatp ps [])) a p) e))

    pub key_found : (l : Location) → PastNode text s (Err l) → PastPairs text s (Err l)
    key_found l f (done k) r w p e = absurd (q cc)
    key_found l f (pair k v ps) r w p e =
        let (a, b) = and_parts (whole k) _ w in
        plain_key k v ps r a p e ∙ found _ _ l (f k _ a (first_placed _ k (flat v (flatp ps [])) a p) e)

    -- the value behind it
    module _ (value : Bor (List Record)) (f : PastNode text s (Ok value)) where
      pub value_found : (l : Location) → PastNode text value.now (Err l) → PastPairs text s (Err l)
      value_found l g (done k) r w p e = absurd (q cc)
      value_found l g (pair k v ps) r w p e =
          let (a, w') = and_parts (whole k) _ w in
          let (b, c) = and_parts (whole v) (wholep ps) w' in
          let u = f k _ a (first_placed _ k (flat v (flatp ps [])) a p) e in
          let z = g v _ b (first_placed _ v (flatp ps []) b (rest_placed _ k (flat v (flatp ps [])) a p)) u.0 in
          plain_key k v ps r a p e ∙ passed _ _ r (Err l) u.1 (found _ (merge_inp text ps) l z)

      pub pairs_more : (next : Bor (List Record)) (o : Result (Bor (List Record)) Location) → PastNode text value.now (Ok next) → PastPairs text next.now o → PastPairs text s o
      pairs_more next o g y (done k) r w p e = absurd (q cc)
      pairs_more next o g y (pair k v ps) r w p e =
          let (a, w') = and_parts (whole k) _ w in
          let (b, c) = and_parts (whole v) (wholep ps) w' in
          let u = f k _ a (first_placed _ k (flat v (flatp ps [])) a p) e in
          let p' = rest_placed _ k (flat v (flatp ps [])) a p in
          let j = g v _ b (first_placed _ v (flatp ps []) b p') u.0 in
          subst (λ z. Answers z r o) (sym (plain_key k v ps r a p e)) (passed _ _ r o u.1 (passed _ (merge_inp text ps) r o j.1 (y ps r c (rest_placed _ v (flatp ps []) b p') j.0)))
