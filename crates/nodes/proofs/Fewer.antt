-- With fewer entry places collecting answers the same, or that they are full.
use Rattle.std.proofs.Common.{◌≡◌, ℕ, ◌+◌, ◌≤◌, Bool, true, false, cond, ◌⊎◌, List, length, Option, Result, refl, inr, arith}
use Rattle.records.specs.declared.location.Location.{Location}
use Rattle.records.specs.declared.options.MergeKeyPolicy.{MergeKeyPolicy}
use Rattle.records.specs.declared.refusal.Refusal.{Refusal}
use Rattle.nodes.specs.Tree.{Node, Nodes, Pairs, size}
use Rattle.nodes.specs.Tree.Cut.{ended, stray}
use Rattle.nodes.specs.Tree.Node.{scalar, alias, seq, dict, cut}
use Rattle.nodes.specs.Tree.Nodes.{none, more}
use Rattle.nodes.specs.Tree.Pairs.{done, pair}
use Rattle.nodes.specs.Fields.{Rules, Basis, Item, is_merge}
use Rattle.nodes.specs.Collect.{Stop, Stand, Gathered, inner, after, and_then, at, captured, unknown_at, as_field, as_merge, by_policy, gather, merge_value, elements, expand, collected}
use Rattle.nodes.specs.Collect.Stand.{held}
use Rattle.nodes.specs.Rooming.{with_places, Full}

-- the same answer, or that the places are full
abbrev pub Short : {B : Type 0} → Result B Stop → Result B Stop → Type 0
Short r q = Full r ⊎ (r ≡ q)

module _ {A B : Type 0} where
  short_then : (r q : Result A Stop) (f g : A → Result B Stop) → Short r q → ((x : A) → Short (f x) (g x)) → Short (and_then r f) (and_then q g)
  short_then r q f g x h = grind arith

module _ {B : Type 0} where
  short_after : (o : Option Stop) (r q : Result B Stop) → Short r q → Short (after o r) (after o q)
  short_after o r q h = grind arith

  short_at : (n : ℕ) (r q : Result B Stop) → Short r q → Short (at n r) (at n q)
  short_at n r q h = grind arith

  short_cond : (b : Bool) (r r' q q' : Result B Stop) → Short r r' → Short q q' → Short (cond b r q) (cond b r' q')
  short_cond b r r' q q' x y = grind arith

  short_by_policy : (m : MergeKeyPolicy) (r r' q q' e : Result B Stop) → Short r r' → Short q q' → Short (by_policy m r q e) (by_policy m r' q' e)
  short_by_policy m r r' q q' e x y = grind arith

module _ (R : Rules) (p q : ℕ) (few : p ≤ q) where
  field_short : (b : Basis) (s : Stand) (defers : Bool) (u i : ℕ) (k v : Node) (f g : ℕ → ℕ → Result Gathered Stop) → ((n j : ℕ) → Short (f n j) (g n j))
      → Short (as_field (with_places p R) b s defers u i k v f) (as_field (with_places q R) b s defers u i k v g)
  field_short b s defers u i k v f g h = grind (arith, h (u + 1) (i + size k + size v))

  merge_short : (u i : ℕ) (r r' : Result (List Item) Stop) (f g : ℕ → ℕ → Result Gathered Stop) → Short r r' → ((n j : ℕ) → Short (f n j) (g n j)) → Short (as_merge u i r f) (as_merge u i r' g)
  merge_short u i r r' f g x h = grind arith

  mutual
    gather-short : (b : Basis) (s : Stand) (defers : Bool) (u i : ℕ) (ps : Pairs) → Short (gather (with_places p R) b s defers u i ps) (gather (with_places q R) b s defers u i ps)
    gather-short b s defers u i (done k) = inr refl
    gather-short b s defers u i (pair k v ps) =
        let f = λ (n j : ℕ). gather (with_places p R) b s defers n j ps in
        let g = λ (n j : ℕ). gather (with_places q R) b s defers n j ps in
        let rest = λ (n j : ℕ). gather-short b s defers n j ps in
        let own = field_short b s defers u i k v f g rest in
        short_after (unknown_at defers R.anchors i k) _ _ (short_after (captured true s i k) _ _ (short_cond (is_merge R.text k) _ _ _ _
        (short_by_policy R.merges _ _ _ _ _ (merge_short u (i + size k + size v) _ _ f g (value-short b s defers u (i + size k) v) rest) own) own))

    value-short : (b : Basis) (s : Stand) (defers : Bool) (u i : ℕ) (t : Node) → Short (merge_value (with_places p R) b s defers u i t) (merge_value (with_places q R) b s defers u i t)
    value-short b s defers u i (scalar k x) = inr refl
    value-short b s defers u i (alias k a) = inr refl
    value-short b s defers u i (seq k h ns) = short_after _ _ _ (elements-short b (inner s) defers u (i + 1) ns)
    value-short b s defers u i (dict k h ps) = short_after _ _ _ (short_at _ _ _ (short_then _ _ _ _ (gather-short _ held false u 0 ps) (λ g. inr refl)))
    value-short b s defers u i (cut ended) = inr refl
    value-short b s defers u i (cut (stray k e r)) = inr refl

    elements-short : (b : Basis) (s : Stand) (defers : Bool) (u i : ℕ) (ns : Nodes) → Short (elements (with_places p R) b s defers u i ns) (elements (with_places q R) b s defers u i ns)
    elements-short b s defers u i (none k) = inr refl
    elements-short b s defers u i (more n ns) =
        short_after (unknown_at defers R.anchors i n) _ _ (short_after (captured true s i n) _ _
        (short_then _ _ _ _ (short_at _ _ _ (expand-short _ u n)) (λ new. short_then _ _ _ _ (elements-short b s defers (u + length new) (i + size n) ns) (λ more. inr refl))))

    expand-short : (l : Location) (u : ℕ) (t : Node) → Short (expand (with_places p R) l u t) (expand (with_places q R) l u t)
    expand-short l u (scalar k x) = inr refl
    expand-short l u (alias k a) = inr refl
    expand-short l u (seq k h ns) = elements-short _ held false u 0 ns
    expand-short l u (dict k h ps) = short_then _ _ _ _ (gather-short _ held false u 0 ps) (λ g. inr refl)
    expand-short l u (cut c) = inr refl

  pub collected_short : (b : Basis) (s : Stand) (defers : Bool) (missing : Refusal) (t : Node) → Short (collected (with_places p R) b s defers missing t) (collected (with_places q R) b s defers missing t)
  collected_short b s defers missing t = grind (arith, gather-short)
