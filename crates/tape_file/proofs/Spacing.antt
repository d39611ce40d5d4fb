-- Lines and their words: joining words, and cutting a line into them.
use Rattle.std.proofs.Common.{◌≡◌, ℕ, ◌<◌, true, false, not, eqb, List, [], ◌∷◌, ◌++◌, length, get_or, Some, None, Option, Bor, refl, ap, ◌∙◌, arith, rules}
use Rattle.std.proofs.lemmas.Bool.{ne_eqb, not-true}
use Rattle.std.proofs.lemmas.List.Elements.{All-from_get_or}
use Rattle.std.proofs.lemmas.List.Splits.{slice_split_at, slice_split_none, join_with_byte-slice_split}
use Rattle.std.proofs.lemmas.List.Sums.{AllPass-from_list_all}
use Rattle.std.specs.Iterator.{YieldsFirstRef, MakesProgress, item_count}
use Rattle.std.specs.Bool.{⊤}
use Rattle.std.specs.List.{All, AllByRecursion, list_all}
use Rattle.tape_file.specs.Spaces.{spaced, split}

-- a word has no blank
abbrev pub Solid : List ℕ → Type 0
Solid w = All (λ b. eqb b 32 ≡ false) w

pub solid_text : (w : List ℕ) → list_all (λ b. not (eqb b 32)) w ≡ true → Solid w
solid_text w h k d l = not-true (eqb (get_or w k d) 32) (AllPass-from_list_all (λ b. not (eqb b 32)) w h k d l)

pub solid_from_reads : (w : List ℕ) → ((i : ℕ) → i < length w → get_or w i 0 ≡ 32 → ⊥) → Solid w
solid_from_reads w h = All-from_get_or (λ b. eqb b 32 ≡ false) w 0 (λ i k. ne_eqb (get_or w i 0) 32 (h i k))

-- the first word, before a blank
pub split_first : (w s : List ℕ) → Solid w → split (w ++ (32 ∷ s)) ≡ w ∷ split s
unfolding split
split_first w s h = slice_split_at (λ b. eqb b 32) w 32 s h refl

-- the last word
pub split_last : (w : List ℕ) → Solid w → split w ≡ w ∷ []
unfolding split
split_last w h = slice_split_none (λ b. eqb b 32) w h

pub solid_append : (vs ws : List (List ℕ)) → AllByRecursion Solid vs → AllByRecursion Solid ws → AllByRecursion Solid (vs ++ ws)
solid_append [] ws h k = k
solid_append (v ∷ vs) ws h k = (h.0, solid_append vs ws h.1 k)

pub split_spaced : (ws : List (List ℕ)) → 0 < length ws → AllByRecursion Solid ws → split (spaced ws) ≡ ws
split_spaced [] h k = absurd (omega arith)
split_spaced (w ∷ []) h k = split_last w k.0
split_spaced (w ∷ (v ∷ vs)) h k = split_first w (spaced (v ∷ vs)) k.0 ∙ ap (λ (l : List (List ℕ)). w ∷ l) (split_spaced (v ∷ vs) (search rules) k.1)

pub spaced_split : (s : List ℕ) → spaced (split s) ≡ s
unfolding split
spaced_split s = join_with_byte-slice_split 32 s

-- what `split_once` finds is the first word, and where it finds none, one word is left
pub split_once_some : (bs a b : List ℕ) → bs ≡ a ++ (32 ∷ b) → ((i : ℕ) → i < length a → get_or a i 0 ≡ 32 → ⊥) → split bs ≡ a ∷ split b
split_once_some bs a b e h = ap split e ∙ split_first a b (solid_from_reads a h)

-- such a step leaves fewer words than there were
pub moves_on : (ws vs : List (List ℕ)) (r : Option (Bor (List ℕ))) → YieldsFirstRef (λ (l : List (List ℕ)). l) ws r vs → MakesProgress (λ _. ⊤) (item_count (λ (l : List (List ℕ)). l)) ws r vs
moves_on ws vs None h = record { on = λ f. tt; keeps = tt; rests = λ f. search rules }
moves_on ws vs (Some x) h = record { on = λ f. (tt, search rules, omega (arith, ap length h)); keeps = tt; rests = λ f. tt }
