-- What a line of a tape file says.
use Rattle.std.specs.Prelude.{◌≡◌, ℕ, ◌⊎◌, List, length, Some, None, Ok, Err, Option, Result, slice_index}
use Rattle.records.specs.declared.record.Record.{Record}
use Rattle.tape_file.specs.Reading.{Reads}

-- an empty line, and one that begins with the mark # (35); past the end of a line stands 0
abbrev pub Silent : List ℕ → Type 0
Silent line = (length line ≡ 0) ⊎ (slice_index line 0 ≡ 35)

abbrev pub Says : {E : Type 0} → List ℕ → Result (Option Record) E → Type 0
Says line (Ok None) = Silent line
Says {E} line (Ok (Some r)) = (Silent line → ⊥) × Reads {E = E} line (Ok r)
Says line (Err e) = (Silent line → ⊥) × Reads line (Err e)
