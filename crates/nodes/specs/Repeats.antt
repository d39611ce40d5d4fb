-- What the policies for repeated keys keep of the fields of a mapping.
use Rattle.std.specs.Prelude.{◌≡◌, ℕ, true, false, cond, List, [], ◌∷◌, ◌++◌, reverse, Some, None as Nothing, Ok, Err, Option, Result}
use Rattle.records.specs.declared.location.Location.{Location}
use Rattle.records.specs.declared.options.MergeKeyPolicy.{MergeKeyPolicy}
use Rattle.records.specs.declared.options.MergeKeyPolicy.TheVariants.{Merge, AsOrdinary, Error as NoMerges}
use Rattle.records.specs.declared.options.DuplicateKeyPolicy.{DuplicateKeyPolicy}
use Rattle.records.specs.declared.options.DuplicateKeyPolicy.TheVariants.{Error, FirstWins, LastWins}
use Rattle.records.specs.declared.refusal.Reason.TheVariants.{MergeKeyNotAllowed, DuplicateMappingKey}
use Rattle.records.specs.declared.refusal.Refusal.{Refusal}
use Rattle.nodes.specs.Reading.{refusal}
use Rattle.nodes.specs.Fields.{Item, has_key, key_text, place, merge_in, or_then}

-- the fields with no alike key before them, where `seen` stands before all; and the others
abbrev pub firsts : List ℕ → List Item → List Item → List Item
firsts text seen [] = []
firsts text seen (e ∷ es) = cond (has_key text e seen) (firsts text (seen ++ e ∷ []) es) (e ∷ firsts text (seen ++ e ∷ []) es)

abbrev pub not_firsts : List ℕ → List Item → List Item → List Item
not_firsts text seen [] = []
not_firsts text seen (e ∷ es) = cond (has_key text e seen) (e ∷ not_firsts text (seen ++ e ∷ []) es) (not_firsts text (seen ++ e ∷ []) es)

-- the fields with no alike key behind them, and the others
abbrev pub lasts : List ℕ → List Item → List Item
lasts text [] = []
lasts text (e ∷ es) = cond (has_key text e es) (lasts text es) (e ∷ lasts text es)

-- the same where `behind` stands behind all
abbrev pub lasts_before : List ℕ → List Item → List Item → List Item
lasts_before text behind [] = []
lasts_before text behind (e ∷ es) = cond (has_key text e (es ++ behind)) (lasts_before text behind es) (e ∷ lasts_before text behind es)

abbrev pub not_lasts : List ℕ → List Item → List Item
not_lasts text [] = []
not_lasts text (e ∷ es) = cond (has_key text e es) (e ∷ not_lasts text es) (not_lasts text es)

abbrev pub head : List Item → Option Item
head [] = Nothing
head (e ∷ es) = Some e

abbrev pub refuse_repeat : List Item → Option Item → Result (List Item) Refusal
refuse_repeat es Nothing = Ok es
refuse_repeat es (Some e) = Err (refusal (DuplicateMappingKey (key_text e.key)) (place e.key))

-- the first merge key in the values of some fields
abbrev pub searched : List ℕ → List Item → Option Location
searched text [] = Nothing
searched text (e ∷ es) = or_then (merge_in text e.value) (searched text es)

abbrev pub refuse_merge : List Item → Option Location → Result (List Item) Refusal
refuse_merge es Nothing = Ok es
refuse_merge es (Some l) = Err (refusal MergeKeyNotAllowed l)

-- where merge keys are refused, the values of dropped fields are searched for them
abbrev pub dropping : MergeKeyPolicy → List ℕ → List Item → List Item → Result (List Item) Refusal
dropping Merge text es dropped = Ok es
dropping AsOrdinary text es dropped = Ok es
dropping NoMerges text es dropped = refuse_merge es (searched text dropped)

-- what the policy keeps of the fields of one mapping
abbrev pub kept_by : DuplicateKeyPolicy → MergeKeyPolicy → List ℕ → List Item → Result (List Item) Refusal
kept_by Error m text es = refuse_repeat es (head (not_firsts text [] es))
kept_by FirstWins m text es = dropping m text (firsts text [] es) (not_firsts text [] es)
kept_by LastWins m text es = dropping m text (lasts text es) (reverse (not_lasts text es))

-- no two keys are alike
abbrev pub Distinct : List ℕ → List Item → Type 0
Distinct text es = (a b : List Item) (e : Item) → es ≡ a ++ e ∷ b → (has_key text e a ≡ false) × (has_key text e b ≡ false)

-- FirstWins: a field is kept exactly where no alike key stands before it; LastWins: behind it
abbrev pub FirstWinsLaw : Type 0
FirstWinsLaw = (text : List ℕ) (a b : List Item) (e : Item)
    → firsts text [] (a ++ e ∷ b) ≡ firsts text [] a ++ (cond (has_key text e a) [] (e ∷ []) ++ firsts text (a ++ e ∷ []) b)

abbrev pub LastWinsLaw : Type 0
LastWinsLaw = (text : List ℕ) (a b : List Item) (e : Item)
    → lasts text (a ++ e ∷ b) ≡ lasts_before text (e ∷ b) a ++ (cond (has_key text e b) [] (e ∷ []) ++ lasts text b)

-- both keep one field of each key, and lose no key
abbrev pub KeysKeptOnce : Type 0
KeysKeptOnce = (text : List ℕ) (es : List Item)
    → Distinct text (firsts text [] es) × Distinct text (lasts text es)
    × ((e : Item) → has_key text e (firsts text [] es) ≡ has_key text e es) × ((e : Item) → has_key text e (lasts text es) ≡ has_key text e es)

-- Error refuses exactly where a key repeats, at the first that does
abbrev pub ErrorAtFirstRepeat : Type 0
ErrorAtFirstRepeat = (m : MergeKeyPolicy) (text : List ℕ) (es : List Item)
    → (Distinct text es → kept_by Error m text es ≡ Ok es)
    × ((a b : List Item) (e : Item) → es ≡ a ++ e ∷ b → Distinct text a → has_key text e a ≡ true → kept_by Error m text es ≡ Err (refusal (DuplicateMappingKey (key_text e.key)) (place e.key)))
    × ((kept : List Item) → kept_by Error m text es ≡ Ok kept → (kept ≡ es) × Distinct text es)
