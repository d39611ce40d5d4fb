use Rattle.std.proofs.Common.{◌≡◌, ◌-◌, true, length}
use Rattle.events.specs.Meaning.{deferred}
use Rattle.capturing.specs.Filling.{GoesOn}
use Rattle.capturing.proofs.Going.{Loop}
use Rattle.capturing.proofs.capturing.capture_node.Given as goal

abbrev pub invariant-loop-filling : goal.invariant-loop-filling
invariant-loop-filling g l =
    let m = g.S.Events.meaning in
    Loop (deferred true (m l.fn.source)) l.fn.slots l.fn.fill l.fn.text_len l.opened (m l.deferring.source.now) l.filling.slots.now l.filling.fill.now l.path
    × GoesOn l.initial.filling l.filling
    × (length l.filling.slots.now ≡ length l.fn.slots)
    × (l.deferring.source.ghost_name ≡ l.initial.deferring.source.ghost_name)

abbrev pub decreases-loop-filling : goal.decreases-loop-filling
decreases-loop-filling g l = length l.fn.slots - l.filling.fill.now
