-- No more fields are collected than there are places, or records in a whole node, for which as many places are enough.
use Rattle.std.proofs.Common.{◌≡◌, ℕ, suc, ◌+◌, ◌<◌, ◌≤◌, Bool, true, false, cond, ltb, List, [], ◌++◌, length, Ok, Err, Option, Result, subst, arith, length-append}
use Rattle.std.proofs.lemmas.Bool.{and_parts, cond_both, ltb-true, ltb-false}
use Rattle.records.specs.declared.location.Location.{Location}
use Rattle.records.specs.declared.options.MergeKeyPolicy.{MergeKeyPolicy}
use Rattle.records.specs.declared.refusal.Refusal.{Refusal}
use Rattle.events.specs.Meaning.{known}
use Rattle.nodes.specs.Tree.{Node, Nodes, Pairs, scalar_event, seq_event, map_event, size, sizes, sizep, whole, wholes, wholep}
use Rattle.nodes.specs.Tree.Cut.{ended, stray}
use Rattle.nodes.specs.Tree.Node.{scalar, alias, seq, dict, cut}
use Rattle.nodes.specs.Tree.Nodes.{none, more}
use Rattle.nodes.specs.Tree.Pairs.{done, pair}
use Rattle.nodes.specs.Fields.{Rules, Basis, Item, is_merge, null_words}
use Rattle.nodes.specs.Collect.{Stop, Stand, Gathered, inner, after, and_then, at, stop_with, captured, slot_for, place_for, start_for, unknown_at, closed, as_field, as_merge, by_policy, gather, merge_value, elements, expand, collected}
use Rattle.nodes.specs.Collect.Stand.{held}
use Rattle.nodes.specs.Rooming.{with_places, Full, PlacesOnlyLimit}
use Rattle.nodes.proofs.Flats.{size_some}
use Rattle.nodes.proofs.Fewer.{collected_short}
use Rattle.nodes.proofs.Unfull.{Other, Unfull, unfull_captured, unfull_slot, unfull_place, unfull_start, unfull_unknown, Keeps, keeps}

abbrev entries : Gathered → ℕ
entries g = length g.own + length g.brought

pair_parts : (k v : Node) (ps : Pairs) → wholep (pair k v ps) ≡ true → (whole v ≡ true) × (wholep ps ≡ true) × (0 < size k)
pair_parts k v ps w = grind (arith, size_some k)

module _ (R : Rules) where
  -- Of n records, with u places taken before: a number of entries that fits in the places, and that is at most n where
  -- the records are whole.
  record Few (w : Bool) (u n count : ℕ) : Type 0 where
    fits : u ≤ R.places → u + count ≤ R.places
    few : w ≡ true → count ≤ n

  -- so many are answered, or the refusal is not for want of a place where n are free
  abbrev Within : {B : Type 0} → (B → ℕ) → Bool → ℕ → ℕ → Result B Stop → Type 0
  Within count w u n (Ok x) = Few w u n (count x)
  Within count w u n (Err s) = w ≡ true → u + n ≤ R.places → Other s.why.reason

  within_then : {A B : Type 0} (c : A → ℕ) (d : B → ℕ) (w w' : Bool) (u u' n n' : ℕ) (r : Result A Stop) (f : A → Result B Stop)
      → (w ≡ true → (w' ≡ true) × (u' + n' ≤ u + n)) → Within c w' u' n' r → ((x : A) → Few w' u' n' (c x) → Within d w u n (f x)) → Within d w u n (and_then r f)
  within_then c d w w' u u' n n' (Ok x) f i h g = g x h
  within_then c d w w' u u' n n' (Err s) f i h g = λ y room. let (a, b) = i y in h a (omega arith)

  module _ {B : Type 0} (c : B → ℕ) (w : Bool) (u n : ℕ) where
    within-after : (o : Option Stop) (r : Result B Stop) → (w ≡ true → Unfull o) → Within c w u n r → Within c w u n (after o r)
    within-after o r h p = grind arith

    within-at : (j : ℕ) (r : Result B Stop) → Within c w u n r → Within c w u n (at j r)
    within-at j r h = grind arith

    within-cond : (q : Bool) (r r' : Result B Stop) → Within c w u n r → Within c w u n r' → Within c w u n (cond q r r')
    within-cond q r r' x y = grind arith

    within-by-policy : (m : MergeKeyPolicy) (r r' e : Result B Stop) → Within c w u n r → Within c w u n r' → Within c w u n e → Within c w u n (by_policy m r r' e)
    within-by-policy m r r' e x y z = grind arith

    within_more : (m : ℕ) (r : Result B Stop) → n ≤ m → Within c w u n r → Within c w u m r
    within_more m r l h = grind arith

  within_none : (w : Bool) (u n : ℕ) → Within {B = List Item} length w u n (Ok [])
  within_none w u n = grind arith

  kept_within : (w : Bool) (u n j : ℕ) (g : Gathered) (r : Result (List Item) Refusal) → Keeps (length g.own) r → Few w u n (entries g)
      → Within length w u n (and_then (stop_with j r) (λ es. Ok (es ++ g.brought)))
  kept_within w u n j g r k h = grind (arith, length-append)

  closed_within : (w : Bool) (u n j : ℕ) (g : Gathered) → Few w u n (entries g) → Within length w u n (closed R j g)
  closed_within w u n j g h = kept_within w u n j g _ (keeps R.repeats R.merges R.text g.own) h

  -- the entries of a mapping, and of its pairs
  mapping_within : (w : Bool) (u n m j : ℕ) (r : Result Gathered Stop) → n ≤ m → Within entries w u n r → Within length w u m (and_then r (closed R j))
  mapping_within w u n m j r l h =
      within_more length w u n m _ l (within_then entries length w w u u n n r (closed R j) (λ y. (y, omega arith)) h (closed_within w u n j))

  module _ (b : Basis) (s : Stand) (defers : Bool) (u i : ℕ) (k v : Node) (ps : Pairs) (next : ℕ → ℕ → Result Gathered Stop)
      (rest : (u' i' : ℕ) → Within entries (wholep ps) u' (sizep ps) (next u' i')) where
    field-within : Within entries (wholep (pair k v ps)) u (sizep (pair k v ps)) (as_field R b s defers u i k v next)
    field-within =
        let w = wholep (pair k v ps) in
        let m = sizep (pair k v ps) in
        let parts = pair_parts k v ps in
        within-after entries w u m (captured false s (i + size k) v) _ (λ y. unfull_captured false s (i + size k) v (parts y).0)
        (cond_both (ltb u R.places) _ _ (Within entries w u m)
        (λ e. let free = ltb-true u R.places e in
        within_then entries entries w (wholep ps) u (u + 1) m (sizep ps) (next (u + 1) (i + size k + size v)) _
        (λ y. let (p, q, some) = parts y in (q, omega arith)) (rest (u + 1) (i + size k + size v))
        (λ g h. record { fits = λ l. let p = h.fits (omega arith) in omega arith; few = λ y. let (p, q, some) = parts y in let f = h.few q in omega arith }))
        (λ e y room full. let taken = ltb-false u R.places e in let (p, q, some) = parts y in omega arith))

    merge-within : (j : ℕ) (r : Result (List Item) Stop) → Within length (whole v) u (size v) r → Within entries (wholep (pair k v ps)) u (sizep (pair k v ps)) (as_merge u j r next)
    merge-within j r h =
        let w = wholep (pair k v ps) in
        let m = sizep (pair k v ps) in
        let parts = pair_parts k v ps in
        within_then length entries w (whole v) u u m (size v) r _ (λ y. ((parts y).0, omega arith)) h
        (λ new f. within_then entries entries w (wholep ps) u (u + length new) m (sizep ps) (next (u + length new) j) _
        (λ y. let (p, q, some) = parts y in let l = f.few p in (q, omega arith)) (rest (u + length new) j)
        (λ g h. let e = length-append new g.brought in record {
          fits = λ l. let p = h.fits (f.fits l) in omega arith;
          few = λ y. let (p, q, some) = parts y in let a = f.few p in let b = h.few q in omega arith;
        }))

  mutual
    gather-within : (b : Basis) (s : Stand) (defers : Bool) (u i : ℕ) (ps : Pairs) → Within entries (wholep ps) u (sizep ps) (gather R b s defers u i ps)
    gather-within b s defers u i (done k) = within-after entries true u 1 (slot_for s i k) _ (λ y. unfull_slot s i k) (record { fits = λ h. omega arith; few = λ y. omega arith })
    gather-within b s defers u i (pair k v ps) =
        let w = wholep (pair k v ps) in
        let m = sizep (pair k v ps) in
        let f = λ (n j : ℕ). gather R b s defers n j ps in
        let rest = λ (n j : ℕ). gather-within b s defers n j ps in
        let own = field-within b s defers u i k v ps f rest in
        within-after entries w u m (unknown_at defers R.anchors i k) _ (λ y. unfull_unknown defers R.anchors i k)
        (within-after entries w u m (captured true s i k) _ (λ y. unfull_captured true s i k (and_parts (whole k) _ y).0)
        (within-cond entries w u m (is_merge R.text k) _ _
        (within-by-policy entries w u m R.merges _ _ _
        (merge-within b s defers u i k v ps f rest (i + size k + size v) _ (value-within b s defers u (i + size k) v)) own
        (λ y room e. cc)) own))

    value-within : (b : Basis) (s : Stand) (defers : Bool) (u i : ℕ) (t : Node) → Within length (whole t) u (size t) (merge_value R b s defers u i t)
    value-within b s defers u i (scalar k x) =
        within-after length true u 1 (place_for s i k (scalar_event x)) _ (λ y. unfull_place s i k (scalar_event x))
        (within-cond length true u 1 (null_words R.text x) _ _ (within-after length true u 1 (slot_for s i k) _ (λ y. unfull_slot s i k) (within_none true u 1))
        (λ y room e. cc))
    value-within b s defers u i (alias k a) =
        within-cond length true u 1 (known a R.anchors) _ _ (within-after length true u 1 (slot_for s i k) _ (λ y. unfull_slot s i k) (within_none true u 1))
        (λ y room e. cc)
    value-within b s defers u i (seq k h ns) =
        within-after length (wholes ns) u (suc (sizes ns)) (start_for s i k (seq_event h)) _ (λ y. unfull_start s i k (seq_event h))
        (within_more length (wholes ns) u (sizes ns) (suc (sizes ns)) _ (omega arith) (elements-within b (inner s) defers u (i + 1) ns))
    value-within b s defers u i (dict k h ps) =
        within-after length (wholep ps) u (suc (sizep ps)) (captured true s i (dict k h ps)) _ (λ y. unfull_captured true s i (dict k h ps) y)
        (within-at length (wholep ps) u (suc (sizep ps)) _ _ (mapping_within (wholep ps) u (sizep ps) (suc (sizep ps)) 0 _ (omega arith) (gather-within _ held false u 0 ps)))
    value-within b s defers u i (cut ended) = λ y. cc
    value-within b s defers u i (cut (stray k e r)) = λ y. cc

    elements-within : (b : Basis) (s : Stand) (defers : Bool) (u i : ℕ) (ns : Nodes) → Within length (wholes ns) u (sizes ns) (elements R b s defers u i ns)
    elements-within b s defers u i (none k) = within-after length true u 1 (slot_for s i k) _ (λ y. unfull_slot s i k) (within_none true u 1)
    elements-within b s defers u i (more n ns) =
        let w = wholes (more n ns) in
        let m = sizes (more n ns) in
        let parts = and_parts (whole n) (wholes ns) in
        within-after length w u m (unknown_at defers R.anchors i n) _ (λ y. unfull_unknown defers R.anchors i n)
        (within-after length w u m (captured true s i n) _ (λ y. unfull_captured true s i n (parts y).0)
        (within_then length length w (whole n) u u m (size n) _ _ (λ y. ((parts y).0, omega arith)) (within-at length (whole n) u (size n) _ _ (expand-within _ u n))
        (λ new f. within_then length length w (wholes ns) u (u + length new) m (sizes ns) _ _
        (λ y. let (p, q) = parts y in let l = f.few p in (q, omega arith)) (elements-within b s defers (u + length new) (i + size n) ns)
        (λ others h. let e = length-append new others in record {
          fits = λ l. let p = h.fits (f.fits l) in omega arith;
          few = λ y. let (p, q) = parts y in let a = f.few p in let b = h.few q in omega arith;
        }))))

    expand-within : (l : Location) (u : ℕ) (t : Node) → Within length (whole t) u (size t) (expand R l u t)
    expand-within l u (scalar k x) = within-cond length true u 1 (null_words R.text x) _ _ (within_none true u 1) (λ y room e. cc)
    expand-within l u (alias k a) = within-cond length true u 1 (known a R.anchors) _ _ (within_none true u 1) (λ y room e. cc)
    expand-within l u (seq k h ns) = within_more length (wholes ns) u (sizes ns) (suc (sizes ns)) _ (omega arith) (elements-within _ held false u 0 ns)
    expand-within l u (dict k h ps) = mapping_within (wholep ps) u (sizep ps) (suc (sizep ps)) 0 _ (omega arith) (gather-within _ held false u 0 ps)
    expand-within l u (cut c) = within_none false u 0

  collected_within : (b : Basis) (s : Stand) (defers : Bool) (missing : Refusal) (t : Node) → Within length (whole t) 0 (size t) (collected R b s defers missing t)
  collected_within b s defers missing (scalar k x) = λ y room e. cc
  collected_within b s true missing (alias k a) = λ y room e. cc
  collected_within b s false missing (alias k a) =
      within-cond length true 0 1 (known a R.anchors) _ _ (λ y room e. cc) (λ y room e. cc)
  collected_within b s defers missing (seq k h ns) = λ y room e. cc
  collected_within b s defers missing (dict k h ps) =
      within-after length (wholep ps) 0 (suc (sizep ps)) (start_for s 0 k (map_event h)) _ (λ y. unfull_start s 0 k (map_event h))
      (mapping_within (wholep ps) 0 (sizep ps) (suc (sizep ps)) _ _ (omega arith) (gather-within b (inner s) defers 0 1 ps))
  collected_within b s defers missing (cut ended) = λ y. cc
  collected_within b s defers missing (cut (stray k e r)) = λ y room e. cc

  roomy : (w : Bool) (n : ℕ) (r : Result (List Item) Stop) → Within length w 0 n r → w ≡ true → n ≤ R.places → Full r → ⊥
  roomy w n r h y room full = grind arith

pub places_only_limit : PlacesOnlyLimit
places_only_limit R p b s defers missing t =
    let h = collected_within (with_places p R) b s defers missing t in (
      λ q few. collected_short R p q few b s defers missing t,
      λ es e. let f = (subst (Within (with_places p R) length (whole t) 0 (size t)) e h).fits (omega arith) in omega arith,
      roomy (with_places p R) (whole t) (size t) _ h,
    )
