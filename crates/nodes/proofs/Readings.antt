-- The one tree that some events read as, and that no other does.
use Rattle.std.proofs.Common.{◌≡◌, Bool, ℕ, zero, suc, ◌+◌, ◌*◌, ◌<◌, true, false, cond, List, [], ◌∷◌, length, sym, refl, ap, ◌∙◌, subst, ap₂, ⊎_elim, arith}
use Rattle.std.proofs.lemmas.Bool.{cases_Bool, and_left, and_right, cond-true, cond-false, cond_both}
use Rattle.records.specs.declared.record.Event.{Event}
use Rattle.records.specs.declared.record.Event.TheVariants.{Scalar, SeqStart, SeqEnd, MapStart, MapEnd, RecursiveAlias}
use Rattle.records.specs.declared.record.Record.{Record}
use Rattle.nodes.specs.Tree.{Mark, End, Node, Nodes, Pairs, rec, mark_of, flat, flats, flatp, whole, wholes, wholep, cut_at, no_nodes, no_pairs, Sound, Sounds, Soundp, Reads}
use Rattle.nodes.specs.Tree.End.{seq_end, map_end}
use Rattle.nodes.specs.Tree.Cut.{ended, stray}
use Rattle.nodes.specs.Tree.Node.{scalar, alias, seq, dict, cut}
use Rattle.nodes.specs.Tree.Nodes.{none, more}
use Rattle.nodes.specs.Tree.Pairs.{done, pair}
use Rattle.nodes.specs.Reading.{UniqueReading, ReadsOnce}
use Rattle.nodes.proofs.Flats.{size_flat, size_some, flat_broken}
use Rattle.nodes.proofs.Sounds.{sounds_behind, sounds_none, sounds_from, sounds_cut, soundp_value, soundp_behind, soundp_none, soundp_neither, soundp_from, soundp_cut_value, soundp_cut_key, whole_sound}

-- a node by its first event: the children of a container are read by f and g
abbrev begin : (List Record → Nodes × List Record) → (List Record → Pairs × List Record) → Mark → Event → List Record → Node × List Record
begin f g k (Scalar a t w s v) rs = (scalar k (record { head = record { anchor = a; tag = t; raw = w }; style = s; value = v }), rs)
begin f g k (SeqStart a t w) rs = (seq k (record { anchor = a; tag = t; raw = w }) (f rs).0, (f rs).1)
begin f g k SeqEnd rs = (cut (stray k seq_end rs), [])
begin f g k (MapStart a t w) rs = (dict k (record { anchor = a; tag = t; raw = w }) (g rs).0, (g rs).1)
begin f g k MapEnd rs = (cut (stray k map_end rs), [])
begin f g k (RecursiveAlias a) rs = (alias k a, rs)

abbrev first : (List Record → Nodes × List Record) → (List Record → Pairs × List Record) → List Record → Node × List Record
first f g [] = (cut ended, [])
first f g (r ∷ rs) = begin f g (mark_of r) r.event rs

-- a node, unless it is the end e out of place, which closes the container
abbrev closed : {A : Type 0} → End → (Mark → List Record → A) → A → Node → A
closed e yes' no' (scalar k x) = no'
closed e yes' no' (alias k a) = no'
closed e yes' no' (seq k h ns) = no'
closed e yes' no' (dict k h ps) = no'
closed e yes' no' (cut ended) = no'
closed seq_end yes' no' (cut (stray k seq_end r)) = yes' k r
closed seq_end yes' no' (cut (stray k map_end r)) = no'
closed map_end yes' no' (cut (stray k seq_end r)) = no'
closed map_end yes' no' (cut (stray k map_end r)) = yes' k r

-- children from a node on, which was read with what is left: none behind it if it breaks off
abbrev elements : Node × List Record → (List Record → Nodes × List Record) → Nodes × List Record
elements x f = closed seq_end (λ k r. (none k, r)) (cond (whole x.0) (more x.0 (f x.1).0, (f x.1).1) (more x.0 no_nodes, [])) x.0

abbrev values : Node → Node × List Record → (List Record → Pairs × List Record) → Pairs × List Record
values k y f = cond (whole y.0) (pair k y.0 (f y.1).0, (f y.1).1) (pair k y.0 no_pairs, [])

abbrev entries : Node × List Record → (List Record → Node × List Record) → (List Record → Pairs × List Record) → Pairs × List Record
entries x g f = closed map_end (λ k r. (done k, r)) (cond (whole x.0) (values x.0 (g x.1) f) (pair x.0 (cut ended) no_pairs, [])) x.0

-- reading, at most n calls deep
abbrev mutual
  pub node : ℕ → List Record → Node × List Record
  node zero es = (cut ended, es)
  node (suc n) es = first (nodes n) (pairs n) es

  pub nodes : ℕ → List Record → Nodes × List Record
  nodes zero es = (no_nodes, es)
  nodes (suc n) es = elements (node n es) (nodes n)

  pub pairs : ℕ → List Record → Pairs × List Record
  pairs zero es = (no_pairs, es)
  pairs (suc n) es = entries (node n es) (node n) (pairs n)

-- the tree that some events read as, and what is left behind it
abbrev pub read : List Record → Node × List Record
read es = node (suc (2 * length es)) es

bounded : (n : ℕ) (t : Node) (r : List Record) → whole t ≡ true → 2 * length (flat t r) < n → 2 * length r + 1 < n
bounded n t r w h = grind (arith, size_flat t r, size_some t)

module _ (t : Node) (r : List Record) (f : List Record → Nodes × List Record) (c : cut_at seq_end t ≡ false) where
  elements_whole : whole t ≡ true → elements (t, r) f ≡ (more t (f r).0, (f r).1)
  elements_whole w = grind arith

  elements_broken : whole t ≡ false → elements (t, r) f ≡ (more t no_nodes, [])
  elements_broken w = grind arith

module _ (t : Node) (r : List Record) (g : List Record → Node × List Record) (f : List Record → Pairs × List Record) (c : cut_at map_end t ≡ false) where
  entries_whole : whole t ≡ true → entries (t, r) g f ≡ values t (g r) f
  entries_whole w = grind arith

  entries_broken : whole t ≡ false → entries (t, r) g f ≡ (pair t (cut ended) no_pairs, [])
  entries_broken w = grind arith

-- a sound tree is read from what it is written as
mutual
  read_flat : (n : ℕ) (t : Node) (r : List Record) → Sound t → (whole t ≡ false → r ≡ []) → 2 * length (flat t r) < n → node n (flat t r) ≡ (t, r)
  read_flat zero t r s e h = absurd (omega arith)
  read_flat (suc n) (scalar k x) r s e h = refl
  read_flat (suc n) (alias k a) r s e h = refl
  read_flat (suc n) (seq k h' ns) r s e h = grind (arith, read_flats n ns r s e)
  read_flat (suc n) (dict k h' ps) r s e h = grind (arith, read_flatp n ps r s e)
  read_flat (suc n) (cut ended) r s e h = grind arith
  read_flat (suc n) (cut (stray k seq_end q)) r s e h = grind arith
  read_flat (suc n) (cut (stray k map_end q)) r s e h = grind arith

  read_flats : (n : ℕ) (ns : Nodes) (r : List Record) → Sounds ns → (wholes ns ≡ false → r ≡ []) → 2 * length (flats ns r) + 1 < n → nodes n (flats ns r) ≡ (ns, r)
  read_flats zero ns r s e h = absurd (omega arith)
  read_flats (suc zero) ns r s e h = absurd (omega arith)
  read_flats (suc (suc n)) (none k) r s e h = refl
  read_flats (suc (suc n)) (more t ns) r s e h = ⊎_elim
      (λ w. ap (λ x. elements x (nodes (suc n))) (read_flat (suc n) t (flats ns r) s.1 (λ w'. cc) (omega arith))
      ∙ elements_whole t (flats ns r) (nodes (suc n)) s.0 w
      ∙ ap (λ q. (more t q.0, q.1)) (read_flats (suc n) ns r (sounds_behind t ns s w) (λ b. e (and_right (whole t) (wholes ns) b)) (bounded (suc n) t (flats ns r) w (omega arith))))
      (λ w. let q = flat_broken t (flats ns r) [] w in
      ap (λ l. elements (node (suc n) l) (nodes (suc n))) q
      ∙ ap (λ x. elements x (nodes (suc n))) (read_flat (suc n) t [] s.1 (λ w'. refl) (let m = ap length q in omega arith))
      ∙ elements_broken t [] (nodes (suc n)) s.0 w
      ∙ ap₂ (λ x y. (more t x, y)) (sym (sounds_none t ns s w)) (sym (e (and_left (whole t) (wholes ns) w))))
      (cases_Bool (whole t))

  read_flatp : (n : ℕ) (ps : Pairs) (r : List Record) → Soundp ps → (wholep ps ≡ false → r ≡ []) → 2 * length (flatp ps r) + 1 < n → pairs n (flatp ps r) ≡ (ps, r)
  read_flatp zero ps r s e h = absurd (omega arith)
  read_flatp (suc zero) ps r s e h = absurd (omega arith)
  read_flatp (suc (suc n)) (done k) r s e h = refl
  read_flatp (suc (suc n)) (pair k v ps) r s e h = ⊎_elim
      (λ w. let b = bounded (suc n) k (flat v (flatp ps r)) w (omega arith) in
      ap (λ x. entries x (node (suc n)) (pairs (suc n))) (read_flat (suc n) k (flat v (flatp ps r)) s.1 (λ w'. cc) (omega arith))
      ∙ entries_whole k (flat v (flatp ps r)) (node (suc n)) (pairs (suc n)) s.0 w
      ∙ ⊎_elim
      (λ u. ap (λ y. values k y (pairs (suc n))) (read_flat (suc n) v (flatp ps r) (soundp_value k v ps s w) (λ u'. cc) (omega arith))
      ∙ cond-true (whole v) _ _ u
      ∙ ap (λ q. (pair k v q.0, q.1)) (read_flatp (suc n) ps r (soundp_behind k v ps s w u) (λ c. e (and_right (whole k) _ (and_right (whole v) _ c))) (bounded (suc n) v (flatp ps r) u (omega arith))))
      (λ u. let q = flat_broken v (flatp ps r) [] u in
      ap (λ l. values k (node (suc n) l) (pairs (suc n))) q
      ∙ ap (λ y. values k y (pairs (suc n))) (read_flat (suc n) v [] (soundp_value k v ps s w) (λ u'. refl) (let m = ap length q in omega arith))
      ∙ cond-false (whole v) _ _ u
      ∙ ap₂ (λ x y. (pair k v x, y)) (sym (soundp_none k v ps s w u)) (sym (e (and_right (whole k) _ (and_left (whole v) _ u)))))
      (cases_Bool (whole v)))
      (λ w. let q = flat_broken k (flat v (flatp ps r)) [] w in
      let z = soundp_neither k v ps s w in
      ap (λ l. entries (node (suc n) l) (node (suc n)) (pairs (suc n))) q
      ∙ ap (λ x. entries x (node (suc n)) (pairs (suc n))) (read_flat (suc n) k [] s.1 (λ w'. refl) (let m = ap length q in omega arith))
      ∙ entries_broken k [] (node (suc n)) (pairs (suc n)) s.0 w
      ∙ ap₂ (λ x y. (pair k x y, [])) (sym z.0) (sym z.1)
      ∙ ap (λ x. (pair k v ps, x)) (sym (e (and_left (whole k) _ w))))
      (cases_Bool (whole k))

-- so events read as one tree only
pub reads_read : (es : List Record) (t : Node) (r : List Record) → Reads es t r → read es ≡ (t, r)
reads_read es t r h = ap read h.is ∙ read_flat (suc (2 * length (flat t r))) t r h.sound h.all (omega arith)

pub reads_unique : (es : List Record) (t u : Node) (r s : List Record) → Reads es t r → Reads es u s → (t ≡ u) × (r ≡ s)
reads_unique es t u r s h k = grind (arith, reads_read es t r h, reads_read es u s k)

pub whole_reads : (t : Node) (r : List Record) → whole t ≡ true → Reads (flat t r) t r
whole_reads t r w = record { sound = whole_sound t w; is = refl; all = λ b. cc }

pub unique_reading : UniqueReading
unique_reading t u r s v w e = reads_unique (flat u s) t u r s (subst (λ es. Reads es t r) e (whole_reads t r v)) (whole_reads u s w)

-- and they do read as one
record ReadsAs (X : Type 0) (IsSound : X → Type 0) (flat_of : X → List Record → List Record) (whole_of : X → Bool) (es : List Record) (x : X) (rest : List Record) : Type 0 where
  sound : IsSound x
  is : es ≡ flat_of x rest
  all : whole_of x ≡ false → rest ≡ []

abbrev Readss : List Record → Nodes → List Record → Type 0
Readss es ns rest = ReadsAs Nodes Sounds flats wholes es ns rest

abbrev Readsp : List Record → Pairs → List Record → Type 0
Readsp es ps rest = ReadsAs Pairs Soundp flatp wholep es ps rest

begin_reads : (f : List Record → Nodes × List Record) (g : List Record → Pairs × List Record) (k : Mark) (e : Event) (rs : List Record)
    → Readss rs (f rs).0 (f rs).1 → Readsp rs (g rs).0 (g rs).1 → Reads (rec k e ∷ rs) (begin f g k e rs).0 (begin f g k e rs).1
begin_reads f g k (Scalar a t w s v) rs p q = record { sound = tt; is = refl; all = λ b. cc }
begin_reads f g k (SeqStart a t w) rs p q = record { sound = p.sound; is = ap (λ l. rec k (SeqStart a t w) ∷ l) p.is; all = p.all }
begin_reads f g k SeqEnd rs p q = record { sound = tt; is = refl; all = λ b. refl }
begin_reads f g k (MapStart a t w) rs p q = record { sound = q.sound; is = ap (λ l. rec k (MapStart a t w) ∷ l) q.is; all = q.all }
begin_reads f g k MapEnd rs p q = record { sound = tt; is = refl; all = λ b. refl }
begin_reads f g k (RecursiveAlias a) rs p q = record { sound = tt; is = refl; all = λ b. cc }

-- a node that was read is not the end e, or it is
closed_both : {A : Type 0} (e : End) (y : Mark → List Record → A) (n : A) (t : Node) (P : A → Type 0) → (cut_at e t ≡ false → P n) → ((k : Mark) (r : List Record) → t ≡ cut (stray k e r) → P (y k r)) → P (closed e y n t)
closed_both e y n (scalar k x) P f g = f refl
closed_both e y n (alias k a) P f g = f refl
closed_both e y n (seq k h ns) P f g = f refl
closed_both e y n (dict k h ps) P f g = f refl
closed_both e y n (cut ended) P f g = f refl
closed_both seq_end y n (cut (stray k seq_end r)) P f g = g k r refl
closed_both seq_end y n (cut (stray k map_end r)) P f g = f refl
closed_both map_end y n (cut (stray k seq_end r)) P f g = f refl
closed_both map_end y n (cut (stray k map_end r)) P f g = g k r refl

elements_reads : (es : List Record) (t : Node) (r : List Record) (f : List Record → Nodes × List Record) → Reads es t r → (whole t ≡ true → Readss r (f r).0 (f r).1)
    → Readss es (elements (t, r) f).0 (elements (t, r) f).1
elements_reads es t r f h p =
    closed_both seq_end (λ k r. (none k, r)) (cond (whole t) (more t (f r).0, (f r).1) (more t no_nodes, [])) t (λ (x : Nodes × List Record). Readss es x.0 x.1)
    (λ c. cond_both (whole t) (more t (f r).0, (f r).1) (more t no_nodes, []) (λ (x : Nodes × List Record). Readss es x.0 x.1)
    (λ w. let q = p w in record { sound = sounds_from t (f r).0 c h.sound w q.sound; is = h.is ∙ ap (flat t) q.is; all = λ b. q.all (grind arith) })
    (λ w. record { sound = sounds_cut t c h.sound w; is = h.is ∙ flat_broken t r (flats no_nodes []) w; all = λ b. refl }))
    (λ k q e. record { sound = tt; is = h.is ∙ ap (λ u. flat u r) e; all = λ b. cc })

values_reads : (k : Node) (es : List Record) (t : Node) (r : List Record) (f : List Record → Pairs × List Record)
    → cut_at map_end k ≡ false → Sound k → whole k ≡ true → Reads es t r → (whole t ≡ true → Readsp r (f r).0 (f r).1)
    → Readsp (flat k es) (values k (t, r) f).0 (values k (t, r) f).1
values_reads k es t r f c s w h p = cond_both (whole t) (pair k t (f r).0, (f r).1) (pair k t no_pairs, []) (λ (x : Pairs × List Record). Readsp (flat k es) x.0 x.1)
    (λ u. let q = p u in record { sound = soundp_from k t (f r).0 c s w h.sound u q.sound; is = ap (flat k) (h.is ∙ ap (flat t) q.is); all = λ b. q.all (grind arith) })
    (λ u. record { sound = soundp_cut_value k t c s w h.sound u; is = ap (flat k) (h.is ∙ flat_broken t r (flatp no_pairs []) u); all = λ b. refl })

entries_reads : (es : List Record) (t : Node) (r : List Record) (g : List Record → Node × List Record) (f : List Record → Pairs × List Record) → Reads es t r
    → (whole t ≡ true → Reads r (g r).0 (g r).1) → (whole t ≡ true → whole (g r).0 ≡ true → Readsp (g r).1 (f (g r).1).0 (f (g r).1).1)
    → Readsp es (entries (t, r) g f).0 (entries (t, r) g f).1
entries_reads es t r g f h p q =
    closed_both map_end (λ k r. (done k, r)) (cond (whole t) (values t (g r) f) (pair t (cut ended) no_pairs, [])) t (λ (x : Pairs × List Record). Readsp es x.0 x.1)
    (λ c. cond_both (whole t) (values t (g r) f) (pair t (cut ended) no_pairs, []) (λ (x : Pairs × List Record). Readsp es x.0 x.1)
    (λ w. subst (λ l. Readsp l (values t (g r) f).0 (values t (g r) f).1) (sym h.is) (values_reads t r (g r).0 (g r).1 f c h.sound w (p w) (q w)))
    (λ w. record { sound = soundp_cut_key t c h.sound w; is = h.is ∙ flat_broken t r [] w; all = λ b. refl }))
    (λ k s e. record { sound = tt; is = h.is ∙ ap (λ u. flat u r) e; all = λ b. cc })

-- what is left is shorter
less : (n : ℕ) (es : List Record) (t : Node) (r : List Record) → Reads es t r → whole t ≡ true → 2 * length es < n → 2 * length r + 1 < n
less n es t r h w b = grind (arith, bounded n t r w)

mutual
  node_reads : (n : ℕ) (es : List Record) → 2 * length es < n → Reads es (node n es).0 (node n es).1
  node_reads zero es h = absurd (omega arith)
  node_reads (suc n) [] h = record { sound = tt; is = refl; all = λ b. refl }
  node_reads (suc n) (r ∷ rs) h = begin_reads (nodes n) (pairs n) (mark_of r) r.event rs (nodes_reads n rs (omega arith)) (pairs_reads n rs (omega arith))

  nodes_reads : (n : ℕ) (es : List Record) → 2 * length es + 1 < n → Readss es (nodes n es).0 (nodes n es).1
  nodes_reads zero es h = absurd (omega arith)
  nodes_reads (suc n) es h = grind (arith, node_reads n es, elements_reads es, nodes_reads n, less n es)

  pairs_reads : (n : ℕ) (es : List Record) → 2 * length es + 1 < n → Readsp es (pairs n es).0 (pairs n es).1
  pairs_reads zero es h = absurd (omega arith)
  pairs_reads (suc n) es h =
      let x = node n es in
      let a = node_reads n es (omega arith) in
      let y = node n x.1 in
      let b : whole x.0 ≡ true → 2 * length x.1 + 1 < n = λ w. less n es x.0 x.1 a w (omega arith) in
      let c : whole x.0 ≡ true → Reads x.1 y.0 y.1 = λ w. node_reads n x.1 (let z = b w in omega arith) in
      entries_reads es x.0 x.1 (node n) (pairs n) a c (λ w u. pairs_reads n y.1 (less n x.1 y.0 y.1 (c w) u (let z = b w in omega arith)))

pub read_reads : (es : List Record) → Reads es (read es).0 (read es).1
read_reads es = node_reads (suc (2 * length es)) es (omega arith)

pub reads_once : ReadsOnce
reads_once = (λ es. ((read es).0, (read es).1, read_reads es), reads_unique)
