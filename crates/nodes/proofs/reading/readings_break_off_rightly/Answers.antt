use Rattle.nodes.proofs.Reasons.{reading_decided}
use Rattle.nodes.proofs.reading.readings_break_off_rightly.Goals as goal

pub returns : goal.returns
returns c = reading_decided
