-- Merging, from the text of YAML's merge key type: each pair of a merged mapping is inserted into the current mapping,
-- unless its key exists there; the mappings of a sequence are merged in turn.
use Rattle.std.specs.Prelude.{◌≡◌, ℕ, ◌+◌, true, false, cond, List, [], ◌∷◌, ◌++◌, Some, None as Nothing, Ok, codes, Result}
use Rattle.std.specs.List.{fold}
use Rattle.records.specs.declared.location.Location.{Location}
use Rattle.records.specs.declared.location.NodeOrigin.TheVariants.{Direct}
use Rattle.records.specs.declared.options.MergeKeyPolicy.TheVariants.{Merge}
use Rattle.records.specs.declared.options.DuplicateKeyPolicy.{DuplicateKeyPolicy}
use Rattle.records.specs.declared.options.DuplicateKeyPolicy.TheVariants.{Error, FirstWins, LastWins}
use Rattle.records.specs.declared.record.ScalarStyle.TheVariants.{Plain}
use Rattle.records.specs.declared.refusal.Reason.TheVariants.{DuplicateMappingKey}
use Rattle.records.specs.declared.refusal.Refusal.{Refusal}
use Rattle.records.specs.declared.tags.SfTag.TheVariants.{None}
use Rattle.events.specs.Meaning.{known}
use Rattle.nodes.specs.Tree.{Mark, Head, Text, Node, Nodes, Pairs, whole}
use Rattle.nodes.specs.Tree.Node.{scalar, alias, seq, dict}
use Rattle.nodes.specs.Tree.Nodes.{none, more}
use Rattle.nodes.specs.Tree.Pairs.{done, pair}
use Rattle.nodes.specs.Fields.{Rules, Basis, Item, is_merge, null_words, has_key, reference_at, field_of}
use Rattle.nodes.specs.Fields.Basis.{direct, expansion}
use Rattle.nodes.specs.Repeats.{firsts, kept_by}
use Rattle.nodes.specs.Collect.{Stop, stopped, collected}
use Rattle.nodes.specs.Collect.Stand.{held}

-- the effective list: the first field of each key
abbrev pub effective : List ℕ → List Item → List Item
effective text es = firsts text [] es

-- a pair is inserted into the current mapping, unless its key exists there
abbrev pub inserted : List ℕ → List Item → Item → List Item
inserted text now e = cond (has_key text e now) now (now ++ e ∷ [])

-- each pair of a mapping is
abbrev pub merged_in : List ℕ → List Item → List Item → List Item
merged_in text now es = fold (inserted text) now es

-- each of some mappings, in turn
abbrev pub merged_all : List ℕ → List Item → List (List Item) → List Item
merged_all text now ms = fold (merged_in text) now ms

-- the fields of a mapping that are no merge keys, in order
abbrev pub fields : Rules → Basis → Pairs → List Item
fields R b (done k) = []
fields R b (pair k v ps) = cond (is_merge R.text k) (fields R b ps) (field_of b false k v ∷ fields R b ps)

mutual
  -- A mapping with its merges resolved: its own fields, as the policy for repeated keys keeps them, into which the
  -- mappings of its merge keys are merged in turn.
  pub data Resolves (R : Rules) : Basis → Pairs → List Item → Type 0 where
    resolves : {b : Basis} {ps : Pairs} (own : List Item) (ms : List (List Item)) → kept_by R.repeats Merge R.text (fields R b ps) ≡ Ok own
        → Merges R b ps ms → Resolves R b ps (merged_all R.text (effective R.text own) ms)

  -- the mappings of all merge keys of a mapping, in order
  pub data Merges (R : Rules) : Basis → Pairs → List (List Item) → Type 0 where
    no_more : {b : Basis} {k : Mark} → Merges R b (done k) []
    plain : {b : Basis} {k v : Node} {ps : Pairs} {ms : List (List Item)} → is_merge R.text k ≡ false → Merges R b ps ms → Merges R b (pair k v ps) ms
    merge : {b : Basis} {k v : Node} {ps : Pairs} (new : List (List Item)) {ms : List (List Item)} → is_merge R.text k ≡ true → StandsFor R b v new → Merges R b ps ms
        → Merges R b (pair k v ps) (new ++ ms)

  -- The mappings that a merge value stands for: a mapping for itself, its own merges resolved first; a sequence for
  -- those of its elements, in order, sequences among them; a null, and an alias that is known, for none.
  pub data StandsFor (R : Rules) : Basis → Node → List (List Item) → Type 0 where
    null : {b : Basis} {k : Mark} {x : Text} → null_words R.text x ≡ true → StandsFor R b (scalar k x) []
    reference : {b : Basis} {k : Mark} {a : ℕ} → known a R.anchors ≡ true → StandsFor R b (alias k a) []
    itself : {b : Basis} {k : Mark} {h : Head} {ps : Pairs} {m : List Item} → Resolves R (expansion (reference_at b (dict k h ps))) ps m → StandsFor R b (dict k h ps) (m ∷ [])
    each : {b : Basis} {k : Mark} {h : Head} {ns : Nodes} {ms : List (List Item)} → StandFor R b ns ms → StandsFor R b (seq k h ns) ms

  -- an element has a reference of its own, on which a sequence inside it rests
  pub data StandFor (R : Rules) : Basis → Nodes → List (List Item) → Type 0 where
    ended : {b : Basis} {k : Mark} → StandFor R b (none k) []
    element : {b : Basis} {n : Node} {ns : Nodes} (new : List (List Item)) {ms : List (List Item)} → StandsFor R (expansion (reference_at b n)) n new → StandFor R b ns ms → StandFor R b (more n ns) (new ++ ms)

-- Where a held mapping, which is whole, is collected with merge keys merged, the effective list of what is collected is
-- the mapping with its merges resolved.
abbrev pub MergeLaw : Type 0
MergeLaw = (R : Rules) (b : Basis) (missing : Refusal) (k : Mark) (h : Head) (ps : Pairs) (es : List Item) → whole (dict k h ps) ≡ true → R.merges ≡ Merge
    → collected R b held false missing (dict k h ps) ≡ Ok es → Resolves R b ps (effective R.text es)

-- Examples: nodes of a text of one line, by the byte where each begins.
abbrev pub spot : ℕ → Location
spot p = record { line = 1; column = p + 1; source_id = 0 }

abbrev pub marked : ℕ → Mark
marked p = record { location = spot p; origin = Direct }

abbrev pub untagged_head : Head
untagged_head = record { anchor = 0; tag = None; raw = Nothing }

abbrev pub word : ℕ → ℕ → Node
word p n = scalar (marked p) (record { head = untagged_head; style = Plain; value = record { start = p; len = n } })

-- {<<: [{a: 1}, [{a: 2}]], b: 3}
abbrev pub merging_text : List ℕ
merging_text = codes "{<<: [{a: 1}, [{a: 2}]], b: 3}"

abbrev pub merging_pairs : Pairs
merging_pairs =
    pair (word 1 2)
    (seq (marked 5) untagged_head
    (more (dict (marked 6) untagged_head (pair (word 7 1) (word 10 1) (done (marked 11))))
    (more (seq (marked 14) untagged_head (more (dict (marked 15) untagged_head (pair (word 16 1) (word 19 1) (done (marked 20)))) (none (marked 21)))) (none (marked 22)))))
    (pair (word 25 1) (word 28 1) (done (marked 29)))

-- {a: 1, b: 2, a: 3}
abbrev pub repeating_text : List ℕ
repeating_text = codes "{a: 1, b: 2, a: 3}"

abbrev pub repeating_pairs : Pairs
repeating_pairs = pair (word 1 1) (word 4 1) (pair (word 7 1) (word 10 1) (pair (word 13 1) (word 16 1) (done (marked 17))))

abbrev pub rules_for : DuplicateKeyPolicy → List ℕ → Rules
rules_for repeats text = record { merges = Merge; repeats = repeats; anchors = []; text = text; places = 8 }

abbrev pub collected_here : DuplicateKeyPolicy → List ℕ → Pairs → Refusal → Result (List Item) Stop
collected_here repeats text ps missing = collected (rules_for repeats text) (direct (spot 0)) held false missing (dict (marked 0) untagged_head ps)

-- a field by where its key and its value stand: one of the mapping's own, and one merged with a reference
abbrev pub own_at : ℕ → ℕ → Item
own_at p q = field_of (direct (spot 0)) false (word p 1) (word q 1)

abbrev pub merged_at : ℕ → ℕ → ℕ → Item
merged_at r p q = field_of (expansion (spot r)) false (word p 1) (word q 1)

-- b: 3, a: 1, a: 2
abbrev pub merging_fields : List Item
merging_fields = own_at 25 28 ∷ merged_at 6 7 10 ∷ merged_at 14 16 19 ∷ []

-- The own field comes first, and then what is merged, with the reference of each element of the merge value; the first
-- field of a key counts. A key that repeats is refused where it stands, with its text, or one of its fields is kept.
abbrev pub MergeExamples : Type 0
MergeExamples = (missing : Refusal)
    → (collected_here Error merging_text merging_pairs missing ≡ Ok merging_fields)
    × (effective merging_text merging_fields ≡ own_at 25 28 ∷ merged_at 6 7 10 ∷ [])
    × (collected_here Error repeating_text repeating_pairs missing ≡ stopped (DuplicateMappingKey (Some (record { start = 13; len = 1 }))) (spot 13) 8)
    × (collected_here FirstWins repeating_text repeating_pairs missing ≡ Ok (own_at 1 4 ∷ own_at 7 10 ∷ []))
    × (collected_here LastWins repeating_text repeating_pairs missing ≡ Ok (own_at 7 10 ∷ own_at 13 16 ∷ []))
