-- What an accepted collection of a held mapping brings: the mapping with its merges resolved.
use Rattle.std.proofs.Common.{◌≡◌, ℕ, ◌+◌, true, false, ltb, List, [], ◌∷◌, ◌++◌, length, Ok, Err, Result, sym, refl, ap, ◌∙◌, subst, arith}
use Rattle.std.specs.Result.{IfOk}
use Rattle.std.proofs.lemmas.Result.{IfOk-weaker, IfOk-at_ok}
use Rattle.std.proofs.lemmas.List.Sums.{fold-append}
use Rattle.std.proofs.lemmas.Bool.{and_parts, cond-true, cond-false}
use Rattle.records.specs.declared.location.Location.{Location}
use Rattle.records.specs.declared.options.MergeKeyPolicy.TheVariants.{Merge}
use Rattle.records.specs.declared.refusal.Refusal.{Refusal}
use Rattle.events.specs.Meaning.{known}
use Rattle.nodes.specs.Tree.{Mark, Head, Node, Nodes, Pairs, size, sizep, whole, wholes, wholep}
use Rattle.nodes.specs.Tree.Node.{scalar, alias, seq, dict, cut}
use Rattle.nodes.specs.Tree.Nodes.{none, more}
use Rattle.nodes.specs.Tree.Pairs.{done, pair}
use Rattle.nodes.specs.Fields.{Rules, Basis, Item, is_merge, null_words, reference_at, field_of}
use Rattle.nodes.specs.Fields.Basis.{expansion}
use Rattle.nodes.specs.Repeats.{kept_by}
use Rattle.nodes.specs.Collect.{Stop, Gathered, and_then, stop_with, unknown_at, closed, as_field, as_merge, gather, merge_value, elements, expand}
use Rattle.nodes.specs.Collect.Stand.{held}
use Rattle.nodes.specs.Merging.{effective, inserted, merged_in, merged_all, fields, Resolves, Merges, StandsFor, StandFor}
use Rattle.nodes.specs.Merging.Resolves.{resolves}
use Rattle.nodes.specs.Merging.Merges.{no_more, plain, merge}
use Rattle.nodes.specs.Merging.StandsFor.{null, reference, itself, each}
use Rattle.nodes.specs.Merging.StandFor.{ended, element}
use Rattle.nodes.proofs.Stops.{if_ok_then, if_ok_after, if_ok_at, if_ok_cond, if_ok_merge}
use Rattle.nodes.proofs.Inserting.{effective-++, merged_in_effective}

-- the reference of an element is its own reference again, once it is expanded with it
reference_again : (b : Basis) (n : Node) → reference_at (expansion (reference_at b n)) n ≡ reference_at b n
reference_again b n = grind arith

-- fields that come to the same, inserted one by one, as some mappings merged in turn
record Brings (R : Rules) (Stands : List (List Item) → Type 0) (new : List Item) : Type 0 where
  ms : List (List Item)
  stands : Stands ms
  same : (now : List Item) → merged_in R.text now new ≡ merged_all R.text now ms

-- the own fields of a mapping, and what its merge keys bring
record Gathers (R : Rules) (b : Basis) (ps : Pairs) (g : Gathered) : Type 0 where
  own : g.own ≡ fields R b ps
  merged : Brings R (Merges R b ps) g.brought

module _ (R : Rules) where
  brings_none : {S : List (List Item) → Type 0} → S [] → Brings R S []
  brings_none s = record { ms = []; stands = s; same = λ now. refl }

  brings_one : {S : List (List Item) → Type 0} {new : List Item} → S (effective R.text new ∷ []) → Brings R S new
  brings_one {S} {new} s = record { ms = effective R.text new ∷ []; stands = s; same = λ now. sym (merged_in_effective R.text now new) }

  brings_both : {S T U : List (List Item) → Type 0} {xs ys : List Item} → ((ms ns : List (List Item)) → S ms → T ns → U (ms ++ ns)) → Brings R S xs → Brings R T ys → Brings R U (xs ++ ys)
  brings_both {S} {T} {U} {xs} {ys} f p q = record {
    ms = p.ms ++ q.ms;
    stands = f p.ms q.ms p.stands q.stands;
    same = λ now. fold-append (inserted R.text) now xs ys ∙ q.same _ ∙ ap (λ m. merged_all R.text m q.ms) (p.same now) ∙ sym (fold-append (merged_in R.text) now p.ms q.ms);
  }

  brings_each : {b : Basis} {k : Mark} {h : Head} {ns : Nodes} {new : List Item} → Brings R (StandFor R b ns) new → Brings R (StandsFor R b (seq k h ns)) new
  brings_each r = record { ms = r.ms; stands = each r.stands; same = r.same }

-- what is answered of a mapping, its merges merged
module _ (R : Rules) (merging : R.merges ≡ Merge) where
  abbrev Resolved : Basis → Pairs → List Item → Type 0
  Resolved b ps es = Resolves R b ps (effective R.text es)

  closed_resolves : (b : Basis) (ps : Pairs) (n : ℕ) (g : Gathered) → Gathers R b ps g → IfOk (closed R n g) (Resolved b ps)
  closed_resolves b ps n g c = by (kept_by R.repeats R.merges R.text g.own) refl
    where
      by : (r : Result (List Item) Refusal) → kept_by R.repeats R.merges R.text g.own ≡ r → IfOk (and_then (stop_with n r) (λ es. Ok (es ++ g.brought))) (Resolved b ps)
      by (Ok own) e =
          let kept : kept_by R.repeats Merge R.text (fields R b ps) ≡ Ok own = cc (merging, c.own, e) in
          subst (Resolves R b ps) (sym (c.merged.same _) ∙ sym (effective-++ R.text own g.brought)) (resolves own c.merged.ms kept c.merged.stands)
      by (Err why) e = tt

  module _ (b : Basis) (k v : Node) (ps : Pairs) (u i : ℕ) (next : ℕ → ℕ → Result Gathered Stop) (rest : (u' i' : ℕ) → IfOk (next u' i') (Gathers R b ps)) where
    gathers-field : is_merge R.text k ≡ false → IfOk (as_field R b held false u i k v next) (Gathers R b (pair k v ps))
    gathers-field m = if_ok_cond (Gathers R b (pair k v ps)) (ltb u R.places) _ _
        (λ free. if_ok_then (Gathers R b (pair k v ps)) (Gathers R b ps) (next (u + 1) (i + size k + size v)) _ (rest (u + 1) (i + size k + size v)) (λ g r. record {
          own = ap (λ es. field_of b false k v ∷ es) r.own ∙ sym (cond-false _ _ _ m);
          merged = record { ms = r.merged.ms; stands = plain m r.merged.stands; same = r.merged.same };
        }))
        (λ full. tt)

    gathers-merge : (brought : Result (List Item) Stop) → is_merge R.text k ≡ true → IfOk brought (Brings R (StandsFor R b v)) → IfOk (as_merge u i brought next) (Gathers R b (pair k v ps))
    gathers-merge brought m value = if_ok_then (Gathers R b (pair k v ps)) (Brings R (StandsFor R b v)) brought _ value
        (λ new w. if_ok_then (Gathers R b (pair k v ps)) (Gathers R b ps) (next (u + length new) i) _ (rest (u + length new) i)
        (λ g r. record { own = r.own ∙ sym (cond-true _ _ _ m); merged = brings_both R (λ ms ns s t. merge ms m s t) w r.merged }))

  mutual
    gathered : (ps : Pairs) (b : Basis) (u i : ℕ) → wholep ps ≡ true → IfOk (gather R b held false u i ps) (Gathers R b ps)
    gathered (done k) b u i w = record { own = refl; merged = brings_none R no_more }
    gathered (pair k v ps) b u i w =
        let (_, w') = and_parts (whole k) _ w in
        let (x, y) = and_parts (whole v) (wholep ps) w' in
        let next = λ (u' i' : ℕ). gather R b held false u' i' ps in
        let rest = λ (u' i' : ℕ). gathered ps b u' i' y in
        if_ok_after (Gathers R b (pair k v ps)) (unknown_at false R.anchors i k) _ (if_ok_cond (Gathers R b (pair k v ps)) (is_merge R.text k) _ _
        (λ m. if_ok_merge (Gathers R b (pair k v ps)) R.merges _ _ _ merging (gathers-merge b k v ps u (i + size k + size v) next rest _ m (valued v b u (i + size k) x)))
        (λ m. gathers-field b k v ps u i next rest m))

    valued : (v : Node) (b : Basis) (u i : ℕ) → whole v ≡ true → IfOk (merge_value R b held false u i v) (Brings R (StandsFor R b v))
    valued (scalar k x) b u i w = if_ok_cond (Brings R (StandsFor R b (scalar k x))) (null_words R.text x) _ _ (λ q. brings_none R (null q)) (λ q. tt)
    valued (alias k a) b u i w = if_ok_cond (Brings R (StandsFor R b (alias k a))) (known a R.anchors) _ _ (λ q. brings_none R (reference q)) (λ q. tt)
    valued (seq k x ns) b u i w = IfOk-weaker _ _ (Brings R (StandsFor R b (seq k x ns))) (λ new r. brings_each R r) (brought ns b u (i + 1) w)
    valued (dict k x ps) b u i w =
        let l = expansion (reference_at b (dict k x ps)) in
        if_ok_at (Brings R (StandsFor R b (dict k x ps))) _ _ (IfOk-weaker _ _ (Brings R (StandsFor R b (dict k x ps))) (λ new q. brings_one R (itself q)) (if_ok_then (Resolved l ps) (Gathers R l ps) _ _ (gathered ps l u 0 w) (closed_resolves l ps 0)))
    valued (cut c) b u i w = cc

    brought : (ns : Nodes) (b : Basis) (u i : ℕ) → wholes ns ≡ true → IfOk (elements R b held false u i ns) (Brings R (StandFor R b ns))
    brought (none k) b u i w = brings_none R ended
    brought (more n ns) b u i w =
        let (x, y) = and_parts (whole n) (wholes ns) w in
        let l = reference_at b n in
        if_ok_after (Brings R (StandFor R b (more n ns))) (unknown_at false R.anchors i n) _
        (if_ok_then (Brings R (StandFor R b (more n ns))) (Brings R (StandsFor R (expansion l) n)) _ _
        (if_ok_at (Brings R (StandsFor R (expansion l) n)) (i + size n) _ (expanded n l u x (reference_again b n)))
        (λ first p. if_ok_then (Brings R (StandFor R b (more n ns))) (Brings R (StandFor R b ns)) _ _ (brought ns b (u + length first) (i + size n) y)
        (λ others q. brings_both R (λ ms ns s t. element ms s t) p q)))

    expanded : (n : Node) (l : Location) (u : ℕ) → whole n ≡ true → reference_at (expansion l) n ≡ l → IfOk (expand R l u n) (Brings R (StandsFor R (expansion l) n))
    expanded (scalar k x) l u w r = if_ok_cond (Brings R (StandsFor R (expansion l) (scalar k x))) (null_words R.text x) _ _ (λ q. brings_none R (null q)) (λ q. tt)
    expanded (alias k a) l u w r = if_ok_cond (Brings R (StandsFor R (expansion l) (alias k a))) (known a R.anchors) _ _ (λ q. brings_none R (reference q)) (λ q. tt)
    expanded (seq k x ns) l u w r = IfOk-weaker _ _ (Brings R (StandsFor R (expansion l) (seq k x ns))) (λ new s. brings_each R s) (brought ns (expansion l) u 0 w)
    expanded (dict k x ps) l u w r =
        IfOk-weaker _ _ (Brings R (StandsFor R (expansion l) (dict k x ps)))
        (λ new q. brings_one R (itself (subst (λ o. Resolves R (expansion o) ps (effective R.text new)) (sym r) q))) (if_ok_then (Resolved (expansion l) ps) (Gathers R (expansion l) ps) _ _ (gathered ps (expansion l) u 0 w) (closed_resolves (expansion l) ps 0))
    expanded (cut c) l u w r = cc

  mapping : (ps : Pairs) (b : Basis) (u i n : ℕ) → wholep ps ≡ true → IfOk (and_then (gather R b held false u i ps) (closed R n)) (Resolved b ps)
  mapping ps b u i n w = if_ok_then (Resolved b ps) (Gathers R b ps) _ _ (gathered ps b u i w) (closed_resolves b ps n)

-- what a mapping, its merges merged, is collected to
pub merges_resolved : (R : Rules) (b : Basis) (ps : Pairs) (es : List Item) → wholep ps ≡ true → R.merges ≡ Merge
    → and_then (gather R b held false 0 1 ps) (closed R (1 + sizep ps)) ≡ Ok es → Resolves R b ps (effective R.text es)
merges_resolved R b ps es w merging h = IfOk-at_ok (λ es. Resolves R b ps (effective R.text es)) h (mapping R merging ps b 0 1 (1 + sizep ps) w)
