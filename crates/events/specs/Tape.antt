-- What a tape reader means.
use Rattle.std.specs.Prelude.{◌≡◌, ℕ, ◌+◌, ◌<◌, ◌≤◌, true, false, cond, ◌⊎◌, List, [], ◌∷◌, ◌++◌, length, Ok, Err, Result}
use Rattle.std.specs.List.{AllByRecursion}
use Rattle.records.specs.declared.location.NodeOrigin.{NodeOrigin}
use Rattle.records.specs.declared.location.NodeOrigin.TheVariants.{Direct}
use Rattle.records.specs.declared.record.Record.{Record}
use Rattle.records.specs.declared.refusal.Refusal.{Refusal}
use Rattle.records.specs.declared.refusal.Reason.{Reason}
use Rattle.records.specs.declared.refusal.Reason.TheVariants.{TapeTooLong, TextTooLong, PlaceOutsideText}
use Rattle.records.specs.Places.{placed}
use Rattle.records.specs.Refusals.{refused_at}
use Rattle.records.specs.Blank.{unknown}
use Rattle.events.specs.declared.tape.Tape.{Tape}
use Rattle.events.specs.declared.reader.Reader.{Reader}
use Rattle.events.specs.Meaning.{Meaning, Close, Plain, Fault, own_at}
use Rattle.events.specs.Reels.{reader_meaning}

-- the fault of the i-th record of a tape, counted from 0
abbrev pub fault_at : ℕ → Refusal
fault_at i = record { reason = PlaceOutsideText; location = unknown; offset = i }

-- the records before the first faulty one, over a text of n bytes
abbrev pub sound : ℕ → List Record → List Record
sound n [] = []
sound n (r ∷ rs) = cond (placed n r.event) (r ∷ sound n rs) []

-- how records close of which the first is the i-th of its tape: with the first faulty one, or plainly
abbrev pub ends : ℕ → ℕ → List Record → Close
ends n i [] = Plain
ends n i (r ∷ rs) = cond (placed n r.event) (ends n (i + 1) rs) (Fault (fault_at i))

-- the reel of what is left of a tape
abbrev pub sound_records : Tape → List Record
sound_records t = sound (length t.text.now) t.rest.now

abbrev pub tape_end : Tape → Close
tape_end t = ends (length t.text.now) t.taken t.rest.now

abbrev pub tape_past : Tape → NodeOrigin
tape_past t = Direct

-- a reader that has taken some records, and may have resolved the next
abbrev pub tape_meaning : Reader Tape → Meaning
tape_meaning = reader_meaning sound_records tape_end tape_past

-- a whole tape over a text of n bytes, unread
abbrev pub tape_from : ℕ → List Record → List ℕ → Meaning
tape_from n rs ks = record { events = sound n rs; close = ends n 0 rs; last = own_at unknown (sound n rs); past = Direct; deferring = false; anchors = ks }

abbrev pub at_making : Reason → Refusal
at_making r = refused_at r unknown

-- why a tape reader is not made: the tape's length is asked first, then the text's
abbrev pub NotMade : ℕ → ℕ → Refusal → Type 0
NotMade records bytes e = ((65536 < records) × (e ≡ at_making TapeTooLong)) ⊎ ((records ≤ 65536) × (65536 < bytes) × (e ≡ at_making TextTooLong))

-- The events of a tape are all its records, each placed, and it closes plainly; or they are the records before the
-- first that is not placed, and it closes with the fault of that record.
abbrev pub FirstFault : ℕ → List Record → List Record → Close → Type 0
FirstFault n tape es c =
    ((es ≡ tape) × (c ≡ Plain) × AllByRecursion (λ r. placed n r.event ≡ true) tape)
    ⊎ ((bad : Record) × (rest : List Record) × (tape ≡ es ++ bad ∷ rest) × (c ≡ Fault (fault_at (length es))) × (placed n bad.event ≡ false) × AllByRecursion (λ r. placed n r.event ≡ true) es)

-- a reader as it is made
pub record Fresh (text : List ℕ) (tape : List Record) (ks : List ℕ) (s : Reader Tape) : Type 0 where
  pub short : length tape ≤ 65536
  pub small : length text ≤ 65536
  pub means : tape_meaning s ≡ tape_from (length text) tape ks
  pub closes : FirstFault (length text) tape (tape_meaning s).events (tape_meaning s).close

abbrev pub Made : List ℕ → List Record → List ℕ → Result (Reader Tape) Refusal → Type 0
Made text tape ks (Ok s) = Fresh text tape ks s
Made text tape ks (Err e) = NotMade (length tape) (length text) e
