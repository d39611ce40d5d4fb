-- What a table of entries holds, and what is answered by functions that fill it.
use Rattle.std.specs.Prelude.{◌≡◌, ℕ, ◌+◌, Bool, cond, List, ◌++◌, length, take, Ok, Err, filter, Result}
use Rattle.std.specs.Bool.{beq}
use Rattle.records.specs.declared.record.Record.{Record}
use Rattle.records.specs.declared.refusal.Refusal.{Refusal}
use Rattle.nodes.specs.Fields.{Item, own, is_merged}
use Rattle.entries.specs.declared.entry.PendingEntry.{PendingEntry}
use Rattle.entries.specs.declared.entry.Done.{Done}
use Rattle.entries.specs.declared.rules.Basis.TheVariants.{Direct, Expansion}
use Rattle.entries.specs.Playing.{AllPlay}
use Rattle.entries.specs.Stands.{basis_of}

-- a table held the entries `old` up to `from`, and now holds those and `es`, up to n
pub record Wrote (old new : List PendingEntry) (from n : ℕ) (es : List PendingEntry) : Type 0 where
  pub long : n ≡ from + length es
  pub holds : take n new ≡ take from old ++ es

-- the entries that were put there play the fields
pub record Brought (slots : List Record) (old new : List PendingEntry) (from n : ℕ) (xs : List Item) : Type 0 where
  pub entries : List PendingEntry
  pub wrote : Wrote old new from n entries
  pub play : AllPlay slots entries xs

-- an answer against what is wanted: both good and rightly so, or both refusals and rightly so
abbrev pub Agrees : {A B E F : Type 0} → (A → B → Type 0) → (E → F → Type 0) → Result A E → Result B F → Type 0
Agrees Good Refused (Ok x) (Ok y) = Good x y
Agrees Good Refused (Ok x) (Err f) = ⊥
Agrees Good Refused (Err e) (Ok y) = ⊥
Agrees Good Refused (Err e) (Err f) = Refused e f

-- the answer of a function that fills the table: how many entries there are then, or the refusal
abbrev pub Filled : List Record → List PendingEntry → List PendingEntry → ℕ → Result (List Item) Refusal → Result ℕ Refusal → Type 0
Filled slots old new from wanted answer = Agrees (λ xs n. Brought slots old new from n xs) (λ e f. f ≡ e) wanted answer

-- the same of one that goes over a node up to slot `end`
abbrev pub Went : List Record → List PendingEntry → List PendingEntry → ℕ → ℕ → Result (List Item) Refusal → Result Done Refusal → Type 0
Went slots old new from end wanted answer = Agrees (λ xs d. (d.at ≡ end) × Brought slots old new from d.count xs) (λ e f. f ≡ e) wanted answer

-- the entries that are merged, or those that are not
abbrev pub some : Bool → List PendingEntry → List PendingEntry
some m es = filter (λ e. beq (is_merged (basis_of e.basis)) m) es

abbrev pub with_merged : Bool → PendingEntry → PendingEntry
with_merged m e = let l = own (basis_of e.basis) in record { key = e.key; value = e.value; basis = cond m (Expansion l) (Direct l) }
