use Rattle.std.proofs.Common.{[], map, refl}
use Rattle.records.specs.declared.location.NodeOrigin.TheVariants.{Merge}
use Rattle.nodes.specs.Tree.{flat}
use Rattle.nodes.specs.Looking.{played_with}
use Rattle.playing.proofs.Plays.{unmarked, plays_node}
use Rattle.playing.proofs.replay.Replay.with_reference.Goals as goal

pub returns-clause-node : goal.returns-clause-node
returns-clause-node c =
    let l = c.args.reference in
    let is = unmarked (Merge l) _ _ _ c.start.ensures in
    plays_node (λ t. map (played_with l) (flat t [])) (map (played_with l)) c.args.span.start c.args.span.end c.args.slots.now (Merge l) _ _ is (λ t w. refl)
