-- What the policies for repeated keys keep: over parts of a list, one field of each key, and no key is lost.
use Rattle.std.proofs.Common.{◌≡◌, ℕ, true, false, ◌||◌, List, [], ◌∷◌, ◌++◌, Ok, sym, refl, ap, ◌∙◌, subst, ap₂, append_assoc, append-nil, arith}
use Rattle.std.proofs.lemmas.Bool.{cond-true, cond-false, cond_both}
use Rattle.nodes.specs.Fields.{Item, same_key, has_key}
use Rattle.nodes.specs.Repeats.{firsts, not_firsts, lasts, lasts_before, head, refuse_repeat, Distinct, FirstWinsLaw, LastWinsLaw, KeysKeptOnce, ErrorAtFirstRepeat}
use Rattle.std.proofs.lemmas.List.Folds.{list_any-append}
use Rattle.nodes.proofs.KeyLaws.{same_key_refl, same_key_sym, has_key_same}

module _ (text : List ℕ) where
  pub firsts_append : (seen a b : List Item) → firsts text seen (a ++ b) ≡ firsts text seen a ++ firsts text (seen ++ a) b
  firsts_append seen [] b = ap (λ s. firsts text s b) (sym (append-nil seen))
  firsts_append seen (e ∷ a) b = grind (arith, firsts_append (seen ++ e ∷ []) a b, append_assoc seen (e ∷ []) a)

  pub not_firsts_append : (seen a b : List Item) → not_firsts text seen (a ++ b) ≡ not_firsts text seen a ++ not_firsts text (seen ++ a) b
  not_firsts_append seen [] b = ap (λ s. not_firsts text s b) (sym (append-nil seen))
  not_firsts_append seen (e ∷ a) b = grind (arith, not_firsts_append (seen ++ e ∷ []) a b, append_assoc seen (e ∷ []) a)

  pub lasts_append : (a b : List Item) → lasts text (a ++ b) ≡ lasts_before text b a ++ lasts text b
  lasts_append [] b = refl
  lasts_append (e ∷ a) b = grind (arith, lasts_append a b)

pub first_wins : FirstWinsLaw
first_wins text a b e = grind (arith, firsts_append text [] a (e ∷ b))

pub last_wins : LastWinsLaw
last_wins text a b e = grind (arith, lasts_append text a (e ∷ b))

module _ (text : List ℕ) where
  -- what is kept holds no key that was seen
  pub firsts_unseen : (k : Item) (seen es : List Item) → has_key text k seen ≡ true → has_key text k (firsts text seen es) ≡ false
  firsts_unseen k seen [] h = refl
  firsts_unseen k seen (e ∷ es) h = grind (arith, firsts_unseen k (seen ++ e ∷ []) es, list_any-append (same_key text k) seen (e ∷ []), has_key_same text k e seen)

  pub distinct_none : Distinct text []
  distinct_none [] b e h = cc
  distinct_none (x ∷ a) b e h = cc

  pub distinct_more : (e : Item) (es : List Item) → has_key text e es ≡ false → Distinct text es → Distinct text (e ∷ es)
  distinct_more e es h d [] b f p = grind arith
  distinct_more e es h d (g ∷ a) b f p = grind (arith, d a b f, list_any-append (same_key text e) a (f ∷ b), same_key_sym text e f)

  pub distinct_firsts : (seen es : List Item) → Distinct text (firsts text seen es)
  distinct_firsts seen [] = distinct_none
  distinct_firsts seen (e ∷ es) =
      let d = distinct_firsts (seen ++ e ∷ []) es in
      let h : has_key text e (seen ++ e ∷ []) ≡ true = grind (arith, list_any-append (same_key text e) seen (e ∷ []), same_key_refl text e) in
      cond_both (has_key text e seen) _ _ (Distinct text) (λ p. d) (λ p. distinct_more e _ (firsts_unseen e (seen ++ e ∷ []) es h) d)

  -- no key is lost
  pub firsts_keys : (k : Item) (seen es : List Item) → (has_key text k seen || has_key text k (firsts text seen es)) ≡ (has_key text k seen || has_key text k es)
  firsts_keys k seen [] = refl
  firsts_keys k seen (e ∷ es) = grind (arith, firsts_keys k (seen ++ e ∷ []) es, list_any-append (same_key text k) seen (e ∷ []), has_key_same text k e seen)

  pub lasts_keys : (k : Item) (es : List Item) → has_key text k (lasts text es) ≡ has_key text k es
  lasts_keys k [] = refl
  lasts_keys k (e ∷ es) = grind (arith, lasts_keys k es, has_key_same text k e es)

  pub distinct_lasts : (es : List Item) → Distinct text (lasts text es)
  distinct_lasts [] = distinct_none
  distinct_lasts (e ∷ es) =
      cond_both (has_key text e es) _ _ (Distinct text) (λ p. distinct_lasts es) (λ p. distinct_more e _ (lasts_keys e es ∙ p) (distinct_lasts es))

  -- nothing is dropped exactly where no key repeats
  none_seen : (seen es : List Item) → ((a b : List Item) (e : Item) → es ≡ a ++ e ∷ b → has_key text e (seen ++ a) ≡ false) → not_firsts text seen es ≡ []
  none_seen seen [] h = refl
  none_seen seen (e ∷ es) h =
      cond-false (has_key text e seen) _ _ (ap (has_key text e) (sym (append-nil seen)) ∙ h [] es e refl)
      ∙ none_seen (seen ++ e ∷ []) es (λ a b f p. ap (has_key text f) (append_assoc seen (e ∷ []) a) ∙ h (e ∷ a) b f (ap (λ x. e ∷ x) p))

  pub distinct_kept : (es : List Item) → Distinct text es → not_firsts text [] es ≡ []
  distinct_kept es d = none_seen [] es (λ a b e p. (d a b e p).0)

  pub kept_firsts : (seen es : List Item) → not_firsts text seen es ≡ [] → firsts text seen es ≡ es
  kept_firsts seen [] h = refl
  kept_firsts seen (e ∷ es) h = grind (arith, kept_firsts (seen ++ e ∷ []) es)

  pub kept_distinct : (es : List Item) → not_firsts text [] es ≡ [] → Distinct text es
  kept_distinct es h = subst (Distinct text) (kept_firsts [] es h) (distinct_firsts [] es)

pub keys_kept_once : KeysKeptOnce
keys_kept_once text es = (distinct_firsts text [] es, distinct_lasts text es, (λ e. firsts_keys text e [] es), (λ e. lasts_keys text e es))

not_refused : (es dropped kept : List Item) → refuse_repeat es (head dropped) ≡ Ok kept → (kept ≡ es) × (dropped ≡ [])
not_refused es dropped kept h = grind arith

pub error_at_first_repeat : ErrorAtFirstRepeat
error_at_first_repeat m text es = (
  (λ d. ap (λ x. refuse_repeat es (head x)) (distinct_kept text es d)),
  (λ a b e p d h. ap (λ x. refuse_repeat es (head x))
      (ap (not_firsts text []) p ∙ not_firsts_append text [] a (e ∷ b) ∙ ap₂ ◌++◌ (distinct_kept text a d) (cond-true (has_key text e a) _ _ h))),
  (λ kept h. let (p, q) = not_refused es (not_firsts text [] es) kept h in (p, kept_distinct text es q)),
)
