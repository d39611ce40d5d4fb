-- The parts of a text without its blanks say what the text spells.
use Rattle.scalars.proofs.Computing.{integers_computed}
use Rattle.scalars.proofs.theorems.integers_are_computed.Goals as goal

pub returns : goal.returns
returns c = integers_computed
