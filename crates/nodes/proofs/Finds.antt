-- What the search for merge keys finds: none, or the first, which is one of the node's records.
use Rattle.std.proofs.Common.{◌≡◌, ℕ, suc, ◌+◌, ◌<◌, ◌≤◌, true, false, ◌⊎◌, ◌↔◌, List, [], ◌∷◌, drop, Some, None as Nothing, Option, sym, refl, ap, ◌∙◌, subst, inl, inr, ⊎_elim, arith}
use Rattle.std.proofs.lemmas.List.{drop-drop}
use Rattle.std.proofs.lemmas.Bool.{and_parts, cond_both}
use Rattle.records.specs.declared.location.Location.{Location}
use Rattle.records.specs.declared.record.Record.{Record}
use Rattle.events.specs.Meaning.{own_at}
use Rattle.nodes.specs.Tree.{Mark, Head, Node, Nodes, Pairs, flat, flats, flatp, size, sizes, sizep, whole, wholes, wholep}
use Rattle.nodes.specs.Tree.Node.{scalar, alias, seq, dict, cut}
use Rattle.nodes.specs.Tree.Nodes.{none, more}
use Rattle.nodes.specs.Tree.Pairs.{done, pair}
use Rattle.nodes.specs.Fields.{is_merge, place, or_then, merge_in, merge_ins, merge_inp}
use Rattle.nodes.specs.Searching.{MergeAt, MergeAts, MergeAtp, KeyAt, SearchFindsTheFirst}
use Rattle.nodes.specs.Searching.MergeAt.{in_elements, in_pairs}
use Rattle.nodes.specs.Searching.MergeAts.{in_element, later}
use Rattle.nodes.specs.Searching.MergeAtp.{key, in_key, in_value, behind}
use Rattle.nodes.proofs.Flats.{drop_flat}

-- places of keys: what is found of them, none or the first
abbrev Finds : (ℕ → Location → Type 0) → Option Location → Type 0
Finds At Nothing = (n : ℕ) (l : Location) → At n l → ⊥
Finds At (Some l) = (n : ℕ) × At n l × ((m : ℕ) (o : Location) → At m o → n ≤ m)

-- the places of the one, and those of the other moved by s
abbrev Either : ℕ → (ℕ → Location → Type 0) → (ℕ → Location → Type 0) → ℕ → Location → Type 0
Either s A B n l = A n l ⊎ ((m : ℕ) × (n ≡ s + m) × B m l)

finds_same : (A B : ℕ → Location → Type 0) (o : Option Location) → ((n : ℕ) (l : Location) → A n l → B n l) → ((n : ℕ) (l : Location) → B n l → A n l) → Finds A o → Finds B o
finds_same A B o f g h = grind arith

finds_deeper : (A B : ℕ → Location → Type 0) (o : Option Location) → ((n : ℕ) (l : Location) → A n l → B (suc n) l) → ((n : ℕ) (l : Location) → B n l → (m : ℕ) × (n ≡ suc m) × A m l) → Finds A o → Finds B o
finds_deeper A B Nothing f g h = λ n l b. let (m, e, a) = g n l b in h m l a
finds_deeper A B (Some l) f g (n, a, least) = (suc n, f n l a, λ m o b. let (j, e, x) = g m o b in let q = least j o x in omega arith)

finds_either : (s : ℕ) (A B : ℕ → Location → Type 0) (o p : Option Location) → ((n : ℕ) (l : Location) → A n l → n < s) → Finds A o → Finds B p → Finds (Either s A B) (or_then o p)
finds_either s A B Nothing Nothing below a b = λ n l. ⊎_elim (a n l) (λ (m, e, x). b m l x)
finds_either s A B Nothing (Some l) below a (n, x, least) = (s + n, inr (n, refl, x), λ m o. ⊎_elim (λ y. absurd (a m o y)) (λ (j, e, y). let h = least j o y in omega arith))
finds_either s A B (Some l) p below (n, x, least) b = (n, inl x, λ m o. ⊎_elim (least m o) (λ (j, e, y). let h = below n l x in omega arith))

module _ (text : List ℕ) where
  -- a key that stands among the records behind a whole node
  key_past : (t : Node) (r : List Record) {n : ℕ} {l : Location} → whole t ≡ true → KeyAt text r n l → KeyAt text (flat t r) (size t + n) l
  key_past t r {n} w p = record {
    mark = p.mark;
    words = p.words;
    rest = p.rest;
    is = sym (drop-drop n (size t) (flat t r)) ∙ ap (drop n) (drop_flat t r w) ∙ p.is;
    stands = p.stands;
    merges = p.merges;
  }

  key_first : (k : Node) (r : List Record) → is_merge text k ≡ true → KeyAt text (flat k r) 0 (place k)
  key_first (scalar k x) r m = record { mark = k; words = x; rest = r; is = refl; stands = refl; merges = m }
  key_first (alias k a) r m = cc
  key_first (seq k h ns) r m = cc
  key_first (dict k h ps) r m = cc
  key_first (cut c) r m = cc

  key_deeper : (e : Record) (es : List Record) {n : ℕ} {l : Location} → KeyAt text es n l → KeyAt text (e ∷ es) (suc n) l
  key_deeper e es p = record { mark = p.mark; words = p.words; rest = p.rest; is = p.is; stands = p.stands; merges = p.merges }

  -- merge keys are counted as the records are
  mutual
    key-at : {t : Node} {n : ℕ} {l : Location} → MergeAt text t n l → (r : List Record) → whole t ≡ true → KeyAt text (flat t r) n l
    key-at (in_elements a) r w = key_deeper _ _ (keys-at a r w)
    key-at (in_pairs a) r w = key_deeper _ _ (keyp-at a r w)

    keys-at : {ns : Nodes} {n : ℕ} {l : Location} → MergeAts text ns n l → (r : List Record) → wholes ns ≡ true → KeyAt text (flats ns r) n l
    keys-at (in_element {t} {ns} a) r w = key-at a (flats ns r) (and_parts (whole t) (wholes ns) w).0
    keys-at (later {t} {ns} a) r w = let (x, y) = and_parts (whole t) (wholes ns) w in key_past t (flats ns r) x (keys-at a r y)

    keyp-at : {ps : Pairs} {n : ℕ} {l : Location} → MergeAtp text ps n l → (r : List Record) → wholep ps ≡ true → KeyAt text (flatp ps r) n l
    keyp-at (key {k} {v} {ps} m) r w = key_first k (flat v (flatp ps r)) m
    keyp-at (in_key {k} {v} {ps} a) r w = key-at a (flat v (flatp ps r)) (and_parts (whole k) _ w).0
    keyp-at (in_value {k} {v} {ps} a) r w =
        let (x, w') = and_parts (whole k) _ w in
        key_past k (flat v (flatp ps r)) x (key-at a (flatp ps r) (and_parts (whole v) (wholep ps) w').0)
    keyp-at (behind {k} {v} {ps} {n} {l} a) r w =
        let (x, w') = and_parts (whole k) _ w in
        let (y, z) = and_parts (whole v) (wholep ps) w' in
        let e : size k + (size v + n) ≡ size k + size v + n = omega arith in
        subst (λ j. KeyAt text (flat k (flat v (flatp ps r))) j l) e (key_past k (flat v (flatp ps r)) x (key_past v (flatp ps r) y (keyp-at a r z)))

  -- at one record there is one key
  key_once : {es : List Record} {n : ℕ} {l o : Location} → KeyAt text es n l → KeyAt text es n o → l ≡ o
  key_once {es} {n} {l} {o} p q = sym p.stands ∙ ap (own_at l) (sym p.is ∙ q.is) ∙ q.stands

  key_size : (k : Node) → is_merge text k ≡ true → 0 < size k
  key_size k m = grind arith

  mutual
    inside : {t : Node} {n : ℕ} {l : Location} → MergeAt text t n l → n < size t
    inside (in_elements a) = let h = insides a in omega arith
    inside (in_pairs a) = let h = insidep a in omega arith

    insides : {ns : Nodes} {n : ℕ} {l : Location} → MergeAts text ns n l → n < sizes ns
    insides (in_element a) = let h = inside a in omega arith
    insides (later a) = let h = insides a in omega arith

    insidep : {ps : Pairs} {n : ℕ} {l : Location} → MergeAtp text ps n l → n < sizep ps
    insidep (key {k} m) = let h = key_size k m in omega arith
    insidep (in_key a) = let h = inside a in omega arith
    insidep (in_value a) = let h = inside a in omega arith
    insidep (behind a) = let h = insidep a in omega arith

  from_seq : {k : Mark} {h : Head} {ns : Nodes} {n : ℕ} {l : Location} → MergeAt text (seq k h ns) n l → (m : ℕ) × (n ≡ suc m) × MergeAts text ns m l
  from_seq (in_elements {n = n} a) = (n, refl, a)

  from_dict : {k : Mark} {h : Head} {ps : Pairs} {n : ℕ} {l : Location} → MergeAt text (dict k h ps) n l → (m : ℕ) × (n ≡ suc m) × MergeAtp text ps m l
  from_dict (in_pairs {n = n} a) = (n, refl, a)

  from_more : {t : Node} {ns : Nodes} {n : ℕ} {l : Location} → MergeAts text (more t ns) n l → Either (size t) (MergeAt text t) (MergeAts text ns) n l
  from_more (in_element a) = inl a
  from_more (later {n = n} a) = inr (n, refl, a)

  to_more : (t : Node) (ns : Nodes) (n : ℕ) (l : Location) → Either (size t) (MergeAt text t) (MergeAts text ns) n l → MergeAts text (more t ns) n l
  to_more t ns n l (inl a) = in_element a
  to_more t ns n l (inr (m, e, a)) = subst (λ j. MergeAts text (more t ns) j l) (sym e) (later a)

  -- where the key of a pair is no merge key
  abbrev InPair : Node → Node → Pairs → ℕ → Location → Type 0
  InPair k v ps = Either (size k) (MergeAt text k) (Either (size v) (MergeAt text v) (MergeAtp text ps))

  from_pair : {k v : Node} {ps : Pairs} {n : ℕ} {l : Location} → MergeAtp text (pair k v ps) n l → is_merge text k ≡ false → InPair k v ps n l
  from_pair (key {k} m) f = cc
  from_pair (in_key a) f = inl a
  from_pair (in_value {n = n} a) f = inr (n, refl, inl a)
  from_pair (behind {k} {v} {n = n} a) f = inr (size v + n, omega arith, inr (n, refl, a))

  to_pair : (k v : Node) (ps : Pairs) (n : ℕ) (l : Location) → InPair k v ps n l → MergeAtp text (pair k v ps) n l
  to_pair k v ps n l (inl a) = in_key a
  to_pair k v ps n l (inr (m, e, inl a)) = subst (λ j. MergeAtp text (pair k v ps) j l) (sym e) (in_value a)
  to_pair k v ps n l (inr (m, e, inr (i, d, a))) = let q : size k + size v + i ≡ n = omega arith in subst (λ j. MergeAtp text (pair k v ps) j l) q (behind a)

  mutual
    finds : (t : Node) → Finds (MergeAt text t) (merge_in text t)
    finds (scalar k x) = λ n l a. elim a [ ]
    finds (alias k a) = λ n l p. elim p [ ]
    finds (seq k h ns) = finds_deeper _ _ (merge_ins text ns) (λ n l a. in_elements a) (λ n l a. from_seq a) (finds-elements ns)
    finds (dict k h ps) = finds_deeper _ _ (merge_inp text ps) (λ n l a. in_pairs a) (λ n l a. from_dict a) (finds-pairs ps)
    finds (cut c) = λ n l a. elim a [ ]

    finds-elements : (ns : Nodes) → Finds (MergeAts text ns) (merge_ins text ns)
    finds-elements (none k) = λ n l a. elim a [ ]
    finds-elements (more t ns) =
        finds_same _ _ _ (to_more t ns) (λ n l a. from_more a) (finds_either (size t) _ _ (merge_in text t) (merge_ins text ns) (λ n l a. inside a) (finds t) (finds-elements ns))

    finds-pairs : (ps : Pairs) → Finds (MergeAtp text ps) (merge_inp text ps)
    finds-pairs (done k) = λ n l a. elim a [ ]
    finds-pairs (pair k v ps) = cond_both (is_merge text k) _ _ (Finds (MergeAtp text (pair k v ps)))
        (λ m. (0, key m, λ n l a. omega arith))
        (λ m. finds_same _ _ _ (to_pair k v ps) (λ n l a. from_pair a m)
        (finds_either (size k) _ _ (merge_in text k) _ (λ n l a. inside a) (finds k) (finds_either (size v) _ _ (merge_in text v) (merge_inp text ps) (λ n l a. inside a) (finds v) (finds-pairs ps))))

-- from what is found to what there is, and back, where one place has one key
found_none : (At : ℕ → Location → Type 0) (o : Option Location) → Finds At o → (o ≡ Nothing) ↔ ((n : ℕ) (l : Location) → At n l → ⊥)
found_none At Nothing f = (λ e. f, λ h. refl)
found_none At (Some l) (n, a, least) = (λ e. cc, λ h. absurd (h n l a))

found_first : (At : ℕ → Location → Type 0) (o : Option Location) → ((n : ℕ) (l p : Location) → At n l → At n p → l ≡ p) → Finds At o → (l : Location)
    → (o ≡ Some l) ↔ ((n : ℕ) × At n l × ((m : ℕ) (p : Location) → At m p → n ≤ m))
found_first At Nothing once f l = (λ e. cc, λ (n, a, least). absurd (f n l a))
found_first At (Some p) once (n, a, least) l = (
  λ e. let q : p ≡ l = cc in subst (λ x. (n : ℕ) × At n x × ((m : ℕ) (p : Location) → At m p → n ≤ m)) q (n, a, least),
  λ (m, b, first). let x = least m l b in let y = first n p a in let e : n ≡ m = omega arith in ap Some (once m p l (subst (λ j. At j p) e a) b),
)

pub search_finds_the_first : SearchFindsTheFirst
search_finds_the_first text t w = (
  λ n l a. key-at text a [] w,
  found_none (MergeAt text t) (merge_in text t) (finds text t),
  found_first (MergeAt text t) (merge_in text t) (λ n l p a b. key_once text (key-at text a [] w) (key-at text b [] w)) (finds text t),
)
