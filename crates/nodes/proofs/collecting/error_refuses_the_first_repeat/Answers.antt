use Rattle.nodes.proofs.Keeping.{error_at_first_repeat}
use Rattle.nodes.proofs.collecting.error_refuses_the_first_repeat.Goals as goal

pub returns : goal.returns
returns c = error_at_first_repeat
