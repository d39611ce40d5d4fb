use Rattle.nodes.proofs.Keeping.{keys_kept_once}
use Rattle.nodes.proofs.collecting.keys_are_kept_once.Goals as goal

pub returns : goal.returns
returns c = keys_kept_once
