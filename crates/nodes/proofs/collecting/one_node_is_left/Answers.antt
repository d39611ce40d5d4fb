use Rattle.nodes.proofs.Remains.{one_node_left}
use Rattle.nodes.proofs.collecting.one_node_is_left.Goals as goal

pub returns : goal.returns
returns c = one_node_left
