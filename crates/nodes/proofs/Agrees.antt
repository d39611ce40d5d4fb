-- Where a node can be captured, collecting it from a source and collecting it held give the same.
use Rattle.std.proofs.Common.{◌≡◌, ℕ, ◌+◌, ◌-◌, Bool, true, false, cond, List, ◌++◌, length, None as Nothing, Ok, Result, refl, ap, ◌∙◌, ap₂, arith}
use Rattle.records.specs.declared.refusal.Reason.TheVariants.{MergeKeyNotAllowed}
use Rattle.records.specs.declared.refusal.Refusal.{Refusal}
use Rattle.nodes.specs.Tree.{Node, Nodes, Pairs, size}
use Rattle.nodes.specs.Tree.Cut.{ended, stray}
use Rattle.nodes.specs.Tree.Node.{scalar, alias, seq, dict, cut}
use Rattle.nodes.specs.Tree.Nodes.{none, more}
use Rattle.nodes.specs.Tree.Pairs.{done, pair}
use Rattle.nodes.specs.Reading.{Limits, bars, barss, barsp, barred}
use Rattle.nodes.specs.Fields.{Rules, Basis, Item, is_merge, place, reference_at}
use Rattle.nodes.specs.Collect.{Stop, Gathered, after, and_then, at, stopped, bar_stop, unknown_at, as_field, as_merge, by_policy, gather, merge_value, elements, expand, collected}
use Rattle.nodes.specs.Collect.Stand.{held, live}
use Rattle.nodes.specs.Agreeing.{answer, CollectionsAgree}
use Rattle.nodes.proofs.Fits.{neither}
use Rattle.nodes.proofs.Stops.{then_same, after_yes}

module _ (R : Rules) (l : Limits) (defers : Bool) where
  field_same : (b : Basis) (d u i : ℕ) (k v : Node) (f g : ℕ → ℕ → Result Gathered Stop) → bars l d (i + size k) v ≡ Nothing → ((n : ℕ) → f n (i + size k + size v) ≡ g n (i + size k + size v))
      → as_field R b (live l d) defers u i k v f ≡ as_field R b held defers u i k v g
  field_same b d u i k v f g h e = grind arith

  merge_same : (u i : ℕ) (r q : Result (List Item) Stop) (f g : ℕ → ℕ → Result Gathered Stop) → r ≡ q → ((n : ℕ) → f n i ≡ g n i) → as_merge u i r f ≡ as_merge u i q g
  merge_same u i r q f g e h = grind (arith, then_same)

  mutual
    pub gather-same : (b : Basis) (d u i : ℕ) (ps : Pairs) → barsp l d i ps ≡ Nothing → gather R b (live l d) defers u i ps ≡ gather R b held defers u i ps
    gather-same b d u i (done k) h = after_yes _ _ (ap (bar_stop true i) h)
    gather-same b d u i (pair k v ps) h =
        let (p, h') = neither (bars l d i k) _ h in
        let (q, r) = neither (bars l d (i + size k) v) _ h' in
        let f = λ (n j : ℕ). gather R b (live l d) defers n j ps in
        let g = λ (n j : ℕ). gather R b held defers n j ps in
        let rest = λ (n : ℕ). gather-same b d n (i + size k + size v) ps r in
        ap (after (unknown_at defers R.anchors i k))
        (after_yes _ _ (ap (bar_stop true i) p)
        ∙ ap₂ (λ x y. cond (is_merge R.text k) (by_policy R.merges x y (stopped MergeKeyNotAllowed (place k) (i + size k))) y)
        (merge_same u (i + size k + size v) _ _ f g (value_same b d u (i + size k) v q) rest) (field_same b d u i k v f g q rest))

    pub value_same : (b : Basis) (d u i : ℕ) (t : Node) → bars l d i t ≡ Nothing → merge_value R b (live l d) defers u i t ≡ merge_value R b held defers u i t
    value_same b d u i (scalar k x) h = grind arith
    value_same b d u i (alias k a) h = grind arith
    value_same b d u i (seq k x ns) h = grind (arith, elements_same b (d - 1) u (i + 1) ns)
    value_same b d u i (dict k x ps) h = after_yes _ _ (ap (bar_stop true i) h)
    value_same b d u i (cut c) h = cc

    pub elements_same : (b : Basis) (d u i : ℕ) (ns : Nodes) → barss l d i ns ≡ Nothing → elements R b (live l d) defers u i ns ≡ elements R b held defers u i ns
    elements_same b d u i (none k) h = after_yes _ _ (ap (bar_stop true i) h)
    elements_same b d u i (more n ns) h =
        let (p, q) = neither (bars l d i n) _ h in
        ap (after (unknown_at defers R.anchors i n))
        (after_yes _ _ (ap (bar_stop true i) p)
        ∙ then_same (at (i + size n) (expand R (reference_at b n) u n)) _ _ (λ new. ap (λ r. and_then r (λ more. Ok (new ++ more))) (elements_same b d (u + length new) (i + size n) ns q)))

  -- even what was taken when a refusal came is the same
  pub collected_same : (b : Basis) (missing : Refusal) (t : Node) → barred l t ≡ Nothing → collected R b (live l l.deep) defers missing t ≡ collected R b held defers missing t
  collected_same b missing (scalar k x) h = refl
  collected_same b missing (alias k a) h = grind arith
  collected_same b missing (seq k x ns) h = refl
  collected_same b missing (dict k x ps) h = grind (arith, gather-same b)
  collected_same b missing (cut ended) h = refl
  collected_same b missing (cut (stray k e r)) h = refl

pub collections_agree : CollectionsAgree
collections_agree R l b missing t h = ap answer (collected_same R l false b missing t h)
