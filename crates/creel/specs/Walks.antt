-- A tape that is walked to its close.
use Rattle.std.specs.Prelude.{◌≡◌, ℕ, List, length, Some, None, Ok, Err, Option, Result}
use Rattle.records.specs.declared.record.Record.{Record}
use Rattle.records.specs.declared.refusal.Refusal.{Refusal}
use Rattle.events.specs.Meaning.{Close, Plain, Fault}
use Rattle.events.specs.Tape.{sound, ends, NotMade}
use Rattle.creel.specs.declared.kind.Kind.{Kind}
use Rattle.creel.specs.declared.walk.Walk.{Walk}
use Rattle.creel.specs.Kinds.{Counted}

abbrev pub close_of : Option Refusal → Close
close_of None = Plain
close_of (Some f) = Fault f

-- the events of the kind are counted, and the close is told
pub record Walks (k : Kind) (text : List ℕ) (tape : List Record) (w : Walk) : Type 0 where
  pub counted : Counted k text (sound (length text) tape) w.count
  pub closed : close_of w.fault ≡ ends (length text) 0 tape

abbrev pub Walked : Kind → List ℕ → List Record → Result Walk Refusal → Type 0
Walked k text tape (Ok w) = Walks k text tape w
Walked k text tape (Err e) = NotMade (length tape) (length text) e
