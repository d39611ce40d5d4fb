-- Two spellings of one text have the same parts.
use Rattle.scalars.proofs.Parts.{unique}
use Rattle.scalars.proofs.theorems.spelling_is_unique.Goals as goal

pub returns : goal.returns
returns c = unique
