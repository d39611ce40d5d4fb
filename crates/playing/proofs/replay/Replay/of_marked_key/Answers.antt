use Rattle.std.proofs.Common.{true, false, []}
use Rattle.events.specs.Fronts.{at_front}
use Rattle.nodes.specs.Tree.{flat}
use Rattle.nodes.specs.Fields.{resolved as read}
use Rattle.playing.specs.Replay.{played, past_with}
use Rattle.playing.proofs.Plays.{plays_node, marked_node}
use Rattle.playing.proofs.replay.Replay.of_marked_key.Goals as goal

pub returns-clause-node : goal.returns-clause-node
returns-clause-node c =
    let o = c.args.reference in
    plays_node (λ t. played o (flat (read false t) [])) (λ rs. at_front true (played o rs)) c.args.span.start c.args.span.end c.args.slots.now (past_with o) _ _ c.start.ensures (marked_node o)
