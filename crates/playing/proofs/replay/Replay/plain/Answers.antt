use Rattle.std.proofs.Common.{[], refl}
use Rattle.records.specs.declared.location.NodeOrigin.TheVariants.{Direct}
use Rattle.nodes.specs.Tree.{flat}
use Rattle.playing.proofs.Plays.{unmarked, plays_node}
use Rattle.playing.proofs.replay.Replay.plain.Goals as goal

pub returns-clause-node : goal.returns-clause-node
returns-clause-node c =
    let is = unmarked Direct _ _ _ c.start.ensures in
    plays_node (λ t. flat t []) (λ rs. rs) c.args.span.start c.args.span.end c.args.slots.now Direct _ _ is (λ t w. refl)
