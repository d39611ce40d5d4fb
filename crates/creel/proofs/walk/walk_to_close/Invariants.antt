use Rattle.std.proofs.Common.{[], length}
use Rattle.events.specs.Tape.{tape_meaning, tape_from}
use Rattle.creel.proofs.Walking.{Walking}
use Rattle.creel.proofs.walk.walk_to_close.Given as goal

abbrev pub invariant-events : goal.invariant-events
invariant-events l = Walking l.kind l.text (tape_from (length l.text) l.tape []) (tape_meaning l.reader) l.count

abbrev pub decreases-events : goal.decreases-events
decreases-events l = length (tape_meaning l.reader).events
