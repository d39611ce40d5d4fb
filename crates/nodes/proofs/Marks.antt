-- What a mapping is collected to: its own fields, which are not marked as merged, and merged ones, which are.
use Rattle.std.proofs.Common.{◌≡◌, ℕ, ◌+◌, Bool, true, false, ltb, arith, List, [], ◌∷◌, ◌++◌, length, Ok, Err, Option, Result, sym, refl, ap, ◌∙◌, subst}
use Rattle.std.specs.List.{All, Contains}
use Rattle.std.specs.Result.{IfOk}
use Rattle.std.proofs.lemmas.List.Elements.{All-nil, All-cons, All-head, All-tail, All-append, All-contains, Contains-append_right}
use Rattle.std.proofs.lemmas.Result.{IfOk-at_ok}
use Rattle.std.proofs.lemmas.Bool.{cond_both}
use Rattle.records.specs.declared.location.Location.{Location}
use Rattle.records.specs.declared.options.MergeKeyPolicy.{MergeKeyPolicy}
use Rattle.records.specs.declared.options.DuplicateKeyPolicy.{DuplicateKeyPolicy}
use Rattle.records.specs.declared.refusal.Refusal.{Refusal}
use Rattle.events.specs.Meaning.{known}
use Rattle.nodes.specs.Tree.{Node, Nodes, Pairs, size, sizep}
use Rattle.nodes.specs.Tree.Cut.{ended, stray}
use Rattle.nodes.specs.Tree.Node.{scalar, alias, seq, dict, cut}
use Rattle.nodes.specs.Tree.Nodes.{none, more}
use Rattle.nodes.specs.Tree.Pairs.{done, pair}
use Rattle.nodes.specs.Fields.{Rules, Basis, Item, is_merged, is_merge, null_words, reference_at, has_key}
use Rattle.nodes.specs.Fields.Basis.{direct, expansion}
use Rattle.nodes.specs.Repeats.{firsts, lasts, refuse_merge, dropping, kept_by, Distinct}
use Rattle.nodes.specs.Collect.{Stop, Stand, Gathered, inner, after, and_then, stop_with, captured, slot_for, unknown_at, closed, as_field, as_merge, gather, merge_value, elements, expand, collected}
use Rattle.nodes.specs.Collect.Stand.{held}
use Rattle.nodes.specs.Agreeing.{KeysAreUnique}
use Rattle.nodes.proofs.Stops.{then_made, stop_with_made, if_ok_then, if_ok_after, if_ok_at, if_ok_stop_with, if_ok_cond, if_ok_by_policy}
use Rattle.nodes.proofs.Keeping.{error_at_first_repeat}

-- what holds of each field holds of each that is kept
module _ (P : Item → Type 0) where
  pub all_firsts : (text : List ℕ) (seen es : List Item) → All P es → All P (firsts text seen es)
  all_firsts text seen [] h = h
  all_firsts text seen (e ∷ es) h =
      let r = all_firsts text (seen ++ e ∷ []) es (All-tail P e es h) in
      cond_both (has_key text e seen) _ _ (λ l. All P l) (λ p. r) (λ p. All-cons P e _ (All-head P e es h) r)

  pub all_lasts : (text : List ℕ) (es : List Item) → All P es → All P (lasts text es)
  all_lasts text [] h = h
  all_lasts text (e ∷ es) h =
      let r = all_lasts text es (All-tail P e es h) in
      cond_both (has_key text e es) _ _ (λ l. All P l) (λ p. r) (λ p. All-cons P e _ (All-head P e es h) r)

  all_merge : (es : List Item) (o : Option Location) → All P es → IfOk (refuse_merge es o) (λ l. All P l)
  all_merge es o h = grind arith

  all_dropping : (m : MergeKeyPolicy) (text : List ℕ) (es dropped : List Item) → All P es → IfOk (dropping m text es dropped) (λ l. All P l)
  all_dropping m text es dropped h = grind (arith, all_merge)

  pub all_kept : (p : DuplicateKeyPolicy) (m : MergeKeyPolicy) (text : List ℕ) (es : List Item) → All P es → IfOk (kept_by p m text es) (λ l. All P l)
  all_kept p m text es h = grind (arith, all_firsts text [] es, all_lasts text es, all_dropping)

  pub all_at : (es : List Item) → All P es → (a b : List Item) (e : Item) → es ≡ a ++ e ∷ b → P e
  all_at es h a b e p = All-contains P es e h (subst (λ l. Contains l e) (sym p) (Contains-append_right a (e ∷ b) e (0, omega arith, refl)))

abbrev pub Marked : Bool → List Item → Type 0
Marked q es = All (λ e. e.merged ≡ q) es

-- the own fields are marked by the basis, and what is brought is merged
pub record Parted (b : Basis) (g : Gathered) : Type 0 where
  pub own : Marked (is_merged b) g.own
  pub brought : Marked true g.brought

module _ (R : Rules) where
  pub closed_made : (n : ℕ) (g : Gathered) (es : List Item) → closed R n g ≡ Ok es → (kept : List Item) × (kept_by R.repeats R.merges R.text g.own ≡ Ok kept) × (es ≡ kept ++ g.brought)
  closed_made n g es h =
      let (kept, p, q) = then_made _ _ es h in
      (kept, stop_with_made n _ kept p, cc)

  closed_marked : (n : ℕ) (l : Location) (g : Gathered) → Parted (expansion l) g → IfOk (closed R n g) (Marked true)
  closed_marked n l g p = if_ok_then (Marked true) (Marked true) _ _
      (if_ok_stop_with (Marked true) n _ (all_kept (λ e. e.merged ≡ true) R.repeats R.merges R.text g.own p.own))
      (λ es q. All-append (λ e. e.merged ≡ true) es g.brought q p.brought)

  field_parted : (b : Basis) (s : Stand) (defers : Bool) (u i : ℕ) (k v : Node) (f : ℕ → ℕ → Result Gathered Stop) → ((n j : ℕ) → IfOk (f n j) (Parted b)) → IfOk (as_field R b s defers u i k v f) (Parted b)
  field_parted b s defers u i k v f h = if_ok_after (Parted b) _ _ (if_ok_cond (Parted b) (ltb u R.places) _ _
      (λ free. if_ok_then (Parted b) (Parted b) (f (u + 1) (i + size k + size v)) _ (h (u + 1) (i + size k + size v)) (λ g p. record { own = All-cons (λ e. e.merged ≡ is_merged b) _ _ refl p.own; brought = p.brought }))
      (λ full. tt))

  merge_parted : (b : Basis) (u i : ℕ) (r : Result (List Item) Stop) (f : ℕ → ℕ → Result Gathered Stop) → IfOk r (Marked true) → ((n j : ℕ) → IfOk (f n j) (Parted b)) → IfOk (as_merge u i r f) (Parted b)
  merge_parted b u i r f m h = if_ok_then (Parted b) (Marked true) r _ m
      (λ new q. if_ok_then (Parted b) (Parted b) (f (u + length new) i) _ (h (u + length new) i)
      (λ g p. record { own = p.own; brought = All-append (λ e. e.merged ≡ true) new g.brought q p.brought }))

  -- nothing is merged
  none_marked : Marked true []
  none_marked = All-nil (λ e. e.merged ≡ true)

  slot_marked : (o : Option Stop) → IfOk (after o (Ok [])) (Marked true)
  slot_marked o = if_ok_after (Marked true) o (Ok []) none_marked

  mutual
    pub gather-parted : (b : Basis) (s : Stand) (defers : Bool) (u i : ℕ) (ps : Pairs) → IfOk (gather R b s defers u i ps) (Parted b)
    gather-parted b s defers u i (done k) =
        let none' : Parted b (record { own = []; brought = [] }) = record { own = All-nil (λ e. e.merged ≡ is_merged b); brought = none_marked } in
        if_ok_after (Parted b) (slot_for s i k) _ none'
    gather-parted b s defers u i (pair k v ps) =
        let f = λ (n j : ℕ). gather R b s defers n j ps in
        let h = λ (n j : ℕ). gather-parted b s defers n j ps in
        let own = field_parted b s defers u i k v f h in
        if_ok_after (Parted b) (unknown_at defers R.anchors i k) _ (if_ok_after (Parted b) (captured true s i k) _ (if_ok_cond (Parted b) (is_merge R.text k) _ _
        (λ yes'. if_ok_by_policy (Parted b) R.merges _ _ _ (merge_parted b u (i + size k + size v) _ f (value-marked b s defers u (i + size k) v) h) own tt) (λ no'. own)))

    pub value-marked : (b : Basis) (s : Stand) (defers : Bool) (u i : ℕ) (t : Node) → IfOk (merge_value R b s defers u i t) (Marked true)
    value-marked b s defers u i (scalar k x) =
        if_ok_after (Marked true) _ _ (if_ok_cond (Marked true) (null_words R.text x) _ _ (λ yes'. slot_marked (slot_for s i k)) (λ no'. tt))
    value-marked b s defers u i (alias k a) = if_ok_cond (Marked true) (known a R.anchors) _ _ (λ yes'. slot_marked (slot_for s i k)) (λ no'. tt)
    value-marked b s defers u i (seq k h ns) = if_ok_after (Marked true) _ _ (elements-marked b (inner s) defers u (i + 1) ns)
    value-marked b s defers u i (dict k h ps) =
        let l = reference_at b (dict k h ps) in
        if_ok_after (Marked true) _ _ (if_ok_at (Marked true) _ _ (if_ok_then (Marked true) (Parted (expansion l)) _ _ (gather-parted (expansion l) held false u 0 ps) (closed_marked 0 l)))
    value-marked b s defers u i (cut ended) = tt
    value-marked b s defers u i (cut (stray k e r)) = tt

    pub elements-marked : (b : Basis) (s : Stand) (defers : Bool) (u i : ℕ) (ns : Nodes) → IfOk (elements R b s defers u i ns) (Marked true)
    elements-marked b s defers u i (none k) = slot_marked (slot_for s i k)
    elements-marked b s defers u i (more n ns) =
        if_ok_after (Marked true) (unknown_at defers R.anchors i n) _ (if_ok_after (Marked true) (captured true s i n) _ (if_ok_then (Marked true) (Marked true) _ _
        (if_ok_at (Marked true) (i + size n) _ (expand-marked (reference_at b n) u n))
        (λ new q. if_ok_then (Marked true) (Marked true) _ _ (elements-marked b s defers (u + length new) (i + size n) ns)
        (λ more p. All-append (λ e. e.merged ≡ true) new more q p))))

    pub expand-marked : (l : Location) (u : ℕ) (t : Node) → IfOk (expand R l u t) (Marked true)
    expand-marked l u (scalar k x) = if_ok_cond (Marked true) (null_words R.text x) _ _ (λ yes'. none_marked) (λ no'. tt)
    expand-marked l u (alias k a) = if_ok_cond (Marked true) (known a R.anchors) _ _ (λ yes'. none_marked) (λ no'. tt)
    expand-marked l u (seq k h ns) = elements-marked (expansion l) held false u 0 ns
    expand-marked l u (dict k h ps) = if_ok_then (Marked true) (Parted (expansion l)) _ _ (gather-parted (expansion l) held false u 0 ps) (closed_marked 0 l)
    expand-marked l u (cut c) = none_marked

  -- what stands behind what a mapping is collected to
  pub record Fielded (b : Basis) (es : List Item) : Type 0 where
    pub gathered : Gathered
    pub parted : Parted b gathered
    pub kept : List Item
    pub keeps : kept_by R.repeats R.merges R.text gathered.own ≡ Ok kept
    pub is : es ≡ kept ++ gathered.brought

  closed_fielded : (b : Basis) (n : ℕ) (g : Gathered) → Parted b g → (r : Result (List Item) Refusal) → kept_by R.repeats R.merges R.text g.own ≡ r → IfOk (and_then (stop_with n r) (λ es. Ok (es ++ g.brought))) (Fielded b)
  closed_fielded b n g p (Ok kept) e = record { gathered = g; parted = p; kept = kept; keeps = e; is = refl }
  closed_fielded b n g p (Err why) e = tt

  pub collected_fielded : (b : Basis) (s : Stand) (defers : Bool) (missing : Refusal) (t : Node) → IfOk (collected R b s defers missing t) (Fielded b)
  collected_fielded b s defers missing (scalar k x) = tt
  collected_fielded b s true missing (alias k a) = tt
  collected_fielded b s false missing (alias k a) = if_ok_cond (Fielded b) (known a R.anchors) _ _ (λ yes'. tt) (λ no'. tt)
  collected_fielded b s defers missing (seq k h ns) = tt
  collected_fielded b s defers missing (dict k h ps) =
      if_ok_after (Fielded b) _ _ (if_ok_then (Fielded b) (Parted b) _ _ (gather-parted b (inner s) defers 0 1 ps) (λ g p. closed_fielded b (1 + sizep ps) g p _ refl))
  collected_fielded b s defers missing (cut ended) = tt
  collected_fielded b s defers missing (cut (stray k e r)) = tt

pub keys_are_unique : KeysAreUnique
keys_are_unique R l s defers missing t es h =
    let f = IfOk-at_ok (Fielded R (direct l)) h (collected_fielded R (direct l) s defers missing t) in
    let own = f.gathered.own in (
      f.kept,
      f.gathered.brought,
      f.is,
      all_at (λ e. e.merged ≡ false) f.kept (IfOk-at_ok (λ l. All (λ e. e.merged ≡ false) l) f.keeps (all_kept (λ e. e.merged ≡ false) R.repeats R.merges R.text own f.parted.own)),
      all_at (λ e. e.merged ≡ true) f.gathered.brought f.parted.brought,
      λ p. let (q, d) = (error_at_first_repeat R.merges R.text own).2 f.kept (ap (λ r. kept_by r R.merges R.text own) (sym p) ∙ f.keeps) in subst (Distinct R.text) (sym q) d,
    )
