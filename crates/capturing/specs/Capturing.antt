-- What capturing a node answers, and what it leaves.
use Rattle.std.specs.Prelude.{◌≡◌, ℕ, ◌+◌, ◌-◌, List, [], ◌++◌, length, take, Some, None, Ok, Err, Option, Result}
use Rattle.records.specs.declared.record.Record.{Record}
use Rattle.records.specs.declared.refusal.Refusal.{Refusal}
use Rattle.events.specs.Meaning.{Meaning}
use Rattle.nodes.specs.Tree.{Node, Reads, flat, size}
use Rattle.nodes.specs.Reading.{Limits, Bar, barred, closing_of}
use Rattle.nodes.specs.Taking.{past}
use Rattle.capturing.specs.declared.captured.Captured.{Captured}

-- what a node that is captured behind the first `fill` slots has to fit in, where `opened` containers are open around it
abbrev pub limits_of : List Record → ℕ → ℕ → ℕ → Meaning → Limits
limits_of slots fill text opened m = record { room = length slots - fill; text = text; deep = 64 - opened; closing = closing_of m }

-- the node stands behind the slots that were filled, and its events are taken
pub record Stored (m : Meaning) (slots : List Record) (fill : ℕ) (t : Node) (c : Captured) (m' : Meaning) (slots' : List Record) (fill' : ℕ) : Type 0 where
  pub first : c.first ≡ fill
  pub count : c.count ≡ size t
  pub filled : fill' ≡ fill + size t
  pub holds : take fill' slots' ≡ take fill slots ++ flat t []
  pub left : m' ≡ past (size t) m

-- the slots that were filled are as they were, and so is the fill; what was taken before the refusal is gone
pub record Refused (m : Meaning) (slots : List Record) (fill : ℕ) (b : Bar) (e : Refusal) (m' : Meaning) (slots' : List Record) (fill' : ℕ) : Type 0 where
  pub why : e ≡ b.why
  pub filled : fill' ≡ fill
  pub holds : take fill slots' ≡ take fill slots
  pub left : m' ≡ past b.taken m

-- by what bars the node
abbrev pub By : Meaning → List Record → ℕ → Node → Option Bar → Result Captured Refusal → Meaning → List Record → ℕ → Type 0
By m slots fill t None (Ok c) m' slots' fill' = Stored m slots fill t c m' slots' fill'
By m slots fill t None (Err e) m' slots' fill' = ⊥
By m slots fill t (Some b) (Ok c) m' slots' fill' = ⊥
By m slots fill t (Some b) (Err e) m' slots' fill' = Refused m slots fill b e m' slots' fill'

-- every source reads as one tree, so this says what is answered for every source
abbrev pub Captures : Limits → Meaning → List Record → ℕ → Result Captured Refusal → Meaning → List Record → ℕ → Type 0
Captures l m slots fill r m' slots' fill' = (t : Node) (rest : List Record) → Reads m.events t rest → By m slots fill t (barred l t) r m' slots' fill'
