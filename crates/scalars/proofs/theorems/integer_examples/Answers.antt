-- Each spelling by its parts, and for the other texts what is wrong with theirs.
use Rattle.scalars.proofs.Shown.{examples}
use Rattle.scalars.proofs.theorems.integer_examples.Goals as goal

pub returns : goal.returns
returns c = examples
