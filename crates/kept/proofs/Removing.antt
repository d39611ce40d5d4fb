-- A list whose elements behind a place were moved down by one.
use Rattle.std.proofs.Common.{◌≡◌, ℕ, suc, ◌+◌, ◌-◌, ◌<◌, ◌≤◌, List, ◌++◌, length, take, drop, sym, ap, ◌∙◌, arith, length-drop, add-one}
use Rattle.std.specs.List.{remove, copy_within}
use Rattle.std.proofs.lemmas.List.{take-take, drop-take}
use Rattle.std.proofs.lemmas.List.Edits.{take-paste}
use lib.Seq.{paste}

-- the first `i + m`, where the `m` behind the place `i` were copied to it
take-paste_down : {X : Type 0} (xs : List X) (i m : ℕ) → i + 1 + m ≤ length xs → take (i + m) (paste xs i (drop (i + 1) xs) m) ≡ remove (take (i + 1 + m) xs) i
take-paste_down xs i m le =
    take-paste xs i (drop (i + 1) xs) m (omega arith) (omega (arith, length-drop (i + 1) xs))
    ∙ sym (ap (λ ys. ys ++ drop (suc i) (take (i + 1 + m) xs)) (take-take i (i + 1 + m) xs (omega arith)) ∙ ap (λ k. take i xs ++ drop k (take (i + 1 + m) xs)) (sym (add-one i)) ∙ ap (λ ys. take i xs ++ ys) (drop-take (i + 1) m xs))

-- the first `n - 1`, where what stood behind the place `i` was copied to it
pub take-copy_within : {X : Type 0} (xs : List X) (n i : ℕ) → i < n → n ≤ length xs → take (n - 1) (copy_within xs (i + 1) n i) ≡ remove (take n xs) i
take-copy_within xs n i lt le =
    let m = n - (i + 1) in
    let e : n ≡ i + 1 + m = omega arith in
    let f : n - 1 ≡ i + m = omega arith in
    ap (λ k. take k (paste xs i (drop (i + 1) xs) m)) f ∙ take-paste_down xs i m (omega arith) ∙ ap (λ k. remove (take k xs) i) (sym e)
