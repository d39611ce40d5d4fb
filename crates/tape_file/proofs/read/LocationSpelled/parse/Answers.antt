-- Where the third number is missing, there is no location.
use Rattle.tape_file.specs.Lines.{location_words, SmallLocation}
use Rattle.tape_file.proofs.Parsing.{exit}
use Rattle.tape_file.proofs.read.LocationSpelled.parse.Goals as goal

pub returns-in_err-read-3 : goal.returns-in_err-read-3
returns-in_err-read-3 c =
    exit location_words SmallLocation _ _ c.from_residual-in_err-read-3.result c.from_residual-in_err-read-3.ensures.0
    (record { none = λ y s h e. let a = c.in_ok-read.ensures in let b = c.in_ok-read-2.ensures in let l = c.in_err-read-3.ensures in l.none y.source_id _ h.2 (b.only y.column _ h.1 (a.only y.line _ h.0 e).1).1 })
