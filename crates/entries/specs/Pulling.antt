-- What functions answer and leave that take parts of a mapping off a source, and put them behind the filled slots.
use Rattle.std.specs.Prelude.{◌≡◌, ℕ, ◌+◌, List, ◌++◌, take, Result}
use Rattle.records.specs.declared.record.Record.{Record}
use Rattle.records.specs.declared.refusal.Refusal.{Refusal}
use Rattle.events.specs.Meaning.{Meaning}
use Rattle.nodes.specs.Taking.{past}
use Rattle.nodes.specs.Fields.{Item}
use Rattle.nodes.specs.Collect.{Stop}
use Rattle.nodes.specs.Leaving.{left_by}
use Rattle.entries.specs.declared.entry.PendingEntry.{PendingEntry}
use Rattle.entries.specs.Tables.{Agrees, Brought}

-- n events are taken, and stand as `es` behind the slots that were filled
pub record Took (m : Meaning) (slots : List Record) (fill n : ℕ) (es : List Record) (m' : Meaning) (slots' : List Record) (fill' : ℕ) : Type 0 where
  pub filled : fill' ≡ fill + n
  pub holds : take fill' slots' ≡ take fill slots ++ es
  pub left : m' ≡ past n m

-- a refusal: the slots that were filled are as they were, and the source is left as the stop says
pub record StoppedBy (m : Meaning) (slots : List Record) (fill : ℕ) (s : Stop) (e : Refusal) (m' : Meaning) (slots' : List Record) : Type 0 where
  pub why : e ≡ s.why
  pub holds : take fill slots' ≡ take fill slots
  pub left : m' ≡ left_by s m

-- what was taken is collected to fields, whose entries stand in the table from place `from` on
pub record Collects (m : Meaning) (slots : List Record) (fill n : ℕ) (es : List Record) (old : List PendingEntry) (from : ℕ) (xs : List Item) (c : ℕ) (m' : Meaning) (slots' : List Record) (fill' : ℕ) (new : List PendingEntry) : Type 0 where
  pub took : Took m slots fill n es m' slots' fill'
  pub brought : Brought (take fill' slots') old new from c xs

-- by what the definition says
abbrev pub Pulls : Meaning → List Record → ℕ → ℕ → List Record → List PendingEntry → ℕ → Result (List Item) Stop → Result ℕ Refusal → Meaning → List Record → ℕ → List PendingEntry → Type 0
Pulls m slots fill n es old from wanted answer m' slots' fill' new = Agrees (λ xs c. Collects m slots fill n es old from xs c m' slots' fill' new) (λ s e. StoppedBy m slots fill s e m' slots') wanted answer
