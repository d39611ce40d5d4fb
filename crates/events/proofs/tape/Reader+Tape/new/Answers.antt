use Rattle.events.proofs.Tapes.{fresh}
use Rattle.events.proofs.tape.Reader+Tape.new.Goals as goal

pub returns : goal.returns
returns c = fresh _ _ _ c.start.result c.if-tape-gt-MAX_RECORDS.false c.if-text-gt-MAX_BYTES.false c.start.ensures
