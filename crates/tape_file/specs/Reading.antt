-- What reading a line, or a part of it, answers.
use Rattle.std.specs.Prelude.{◌≡◌, ℕ, List, [], ◌∷◌, ◌++◌, Some, None, Ok, Err, Option, Result, ◌≢◌}
use Rattle.std.specs.Borrow.{Bor}
use Rattle.records.specs.declared.record.Record.{Record}
use Rattle.tape_file.specs.declared.line.Line.{Line}
use Rattle.tape_file.specs.Spaces.{split}
use Rattle.tape_file.specs.Lines.{written, SmallRecord}

-- the words that are still to be read
abbrev pub left : Option (Bor (List ℕ)) → List (List ℕ)
left None = []
left (Some text) = split text.now

-- the first of the words, where there is one
abbrev pub Takes : {E : Type 0} → List (List ℕ) → Result (Bor (List ℕ)) E → List (List ℕ) → Type 0
Takes ws (Ok word) rest = ws ≡ word.now ∷ rest
Takes ws (Err e) rest = ws ≡ []

-- the word is the one of x, or of no value that fits
abbrev pub Means : {X E : Type 0} → (X → List ℕ) → (X → Type 0) → List ℕ → Result X E → Type 0
Means spelt Fits word (Ok x) = Fits x × (word ≡ spelt x)
Means {X} spelt Fits word (Err e) = (y : X) → Fits y → word ≢ spelt y

-- x and the rest, and nothing else, make ws
pub record Whole {X : Type 0} (words : X → List (List ℕ)) (Fits : X → Type 0) (ws : List (List ℕ)) (x : X) (rest : List (List ℕ)) : Type 0 where
  pub fits : Fits x
  pub front : ws ≡ words x ++ rest
  pub only : (y : X) (s : List (List ℕ)) → Fits y → ws ≡ words y ++ s → (x ≡ y) × (rest ≡ s)

-- no value that fits stands at the front of ws
pub record Lacks {X : Type 0} (words : X → List (List ℕ)) (Fits : X → Type 0) (ws : List (List ℕ)) : Type 0 where
  pub none : (y : X) (s : List (List ℕ)) → Fits y → ws ≢ words y ++ s

-- a value is read from the front of ws exactly where one that fits stands there
abbrev pub Parses : {X E : Type 0} → (X → List (List ℕ)) → (X → Type 0) → List (List ℕ) → Result X E → List (List ℕ) → Type 0
Parses words Fits ws (Ok x) rest = Whole words Fits ws x rest
Parses words Fits ws (Err e) rest = Lacks words Fits ws

-- a line means the record whose line it is
abbrev pub Reads : {E : Type 0} → List ℕ → Result Record E → Type 0
Reads line (Ok r) = SmallRecord r × (line ≡ written r) × ((s : Record) → SmallRecord s → line ≡ written s → r ≡ s)
Reads line (Err e) = (s : Record) → SmallRecord s → line ≢ written s

-- the same, where the record is to be shown again
abbrev pub ReadsLine : {E : Type 0} → List ℕ → Result (Line Record) E → Type 0
ReadsLine {E} line (Ok l) = Reads {E = E} line (Ok l.0)
ReadsLine line (Err e) = Reads line (Err e)
