-- Inserting the fields of a mapping one by one gives the first field of each key.
use Rattle.std.proofs.Common.{◌≡◌, ℕ, true, List, [], ◌∷◌, ◌++◌, sym, ap, ◌∙◌, append_assoc, append-nil, refl, arith}
use Rattle.std.proofs.lemmas.List.Folds.{list_any-append}
use Rattle.std.proofs.lemmas.List.Sums.{fold-append}
use Rattle.nodes.specs.Fields.{Item, same_key, has_key}
use Rattle.nodes.specs.Repeats.{firsts}
use Rattle.nodes.specs.Merging.{effective, inserted, merged_in}
use Rattle.nodes.proofs.KeyLaws.{has_key_same}

module _ (text : List ℕ) where
  -- each key of the one list is in the other
  abbrev Within : List Item → List Item → Type 0
  Within a b = (x : Item) → has_key text x a ≡ true → has_key text x b ≡ true

  -- one more field at the end
  within_left : (e : Item) (a b : List Item) → Within a b → Within a (b ++ e ∷ [])
  within_left e a b w x p = grind (arith, list_any-append (same_key text x) b (e ∷ []), w x)

  within_here : (e : Item) (a b : List Item) → Within a b → has_key text e b ≡ true → Within (a ++ e ∷ []) b
  within_here e a b w h x p = grind (arith, list_any-append (same_key text x) a (e ∷ []), has_key_same text x e b, w x)

  within_both : (e : Item) (a b : List Item) → Within a b → Within (a ++ e ∷ []) (b ++ e ∷ [])
  within_both e a b w x p = grind (arith, list_any-append (same_key text x) a (e ∷ []), list_any-append (same_key text x) b (e ∷ []), w x)

  -- what is inserted behind `now` are the first fields of their keys, where `seen` has the keys of `now`
  merged_in_firsts : (es seen now : List Item) → Within seen now → Within now seen → merged_in text now es ≡ now ++ firsts text seen es
  merged_in_firsts [] seen now v w = sym (append-nil now)
  merged_in_firsts (e ∷ es) seen now v w =
      let fs = firsts text (seen ++ e ∷ []) es in
      let there : has_key text e now ≡ true → merged_in text now es ≡ now ++ fs =
      λ p. merged_in_firsts es (seen ++ e ∷ []) now (within_here e seen now v p) (within_left e now seen w) in
      let fresh : merged_in text (now ++ e ∷ []) es ≡ (now ++ e ∷ []) ++ fs =
      merged_in_firsts es (seen ++ e ∷ []) (now ++ e ∷ []) (within_both e seen now v) (within_both e now seen w) in
      grind (arith, there, fresh, v e, w e, append_assoc now (e ∷ []) fs)

  -- a field that is no first of its key is not inserted
  merged_in_only_firsts : (es seen now : List Item) → Within seen now → merged_in text now (firsts text seen es) ≡ merged_in text now es
  merged_in_only_firsts [] seen now w = refl
  merged_in_only_firsts (e ∷ es) seen now w =
      let fs = firsts text (seen ++ e ∷ []) es in
      let there : has_key text e now ≡ true → merged_in text now fs ≡ merged_in text now es =
      λ p. merged_in_only_firsts es (seen ++ e ∷ []) now (within_here e seen now w p) in
      let fresh : merged_in text (now ++ e ∷ []) fs ≡ merged_in text (now ++ e ∷ []) es =
      merged_in_only_firsts es (seen ++ e ∷ []) (now ++ e ∷ []) (within_both e seen now w) in
      grind (arith, there, fresh, w e)

  effective_is : (es : List Item) → effective text es ≡ merged_in text [] es
  effective_is es = sym (merged_in_firsts es [] [] (λ x h. h) (λ x h. h))

  -- of a list behind another: its fields are inserted into the effective list of that one
  pub effective-++ : (xs ys : List Item) → effective text (xs ++ ys) ≡ merged_in text (effective text xs) ys
  effective-++ xs ys = effective_is (xs ++ ys) ∙ fold-append (inserted text) [] xs ys ∙ ap (λ m. merged_in text m ys) (sym (effective_is xs))

  -- a mapping may be merged by its effective list
  pub merged_in_effective : (now es : List Item) → merged_in text now (effective text es) ≡ merged_in text now es
  merged_in_effective now es = merged_in_only_firsts es [] now (λ x h. cc)
