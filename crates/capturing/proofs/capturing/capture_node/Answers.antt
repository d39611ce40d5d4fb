use Rattle.std.proofs.Common.{◌≡◌, ◌-◌, length, Ok, Err, refl, ap, ap₂, ◌∙◌, rules}
use Rattle.std.proofs.lemmas.List.{length-set}
use Rattle.std.proofs.lemmas.Result.{err_from_is_err_and}
use Rattle.capturing.proofs.Going.{begin, turn-refused, turn_on, turn_last, restored}
use Rattle.capturing.proofs.capturing.capture_node.Goals as goal

pub loop-filling-init : goal.loop-filling-init
loop-filling-init g c =
    let b = c.behind-filling.ensures in
    (simp (c.over-deferral.ensures.means, b.fill, b.slots) (begin c.new-path.result c.requires c.new-path.ensures), record { fill = refl; slots = refl; first = refl; text = refl }, ap length b.slots, refl)

pub returns-in_err-event : goal.returns-in_err-event
returns-in_err-event g c =
    let (h, on, same, keeps) = c.loop-filling.invariant in
    let p = err_from_is_err_and c.from_residual.result c.from_residual.ensures.1 in
    let refused = turn-refused h same c.depth_left-deep.ensures (on.text ∙ c.behind-filling.ensures.text) c.len.ensures.value c.in_err-event.ensures.one in
    restored (g.S.Events.meaning c.args.source.now) _ c.args.slots.now c.args.fill.now c.args.text_len c.args.opened refused refl c.over-deferral.ensures.was (search rules) (p.1 ∙ ap Err p.2) (search rules) (search rules)

pub returns-then-step : goal.returns-then-step
returns-then-step g c =
    let (h, on, same, keeps) = c.loop-filling.invariant in
    let k = c.in_ok-event.ensures in
    let j = c.keep.ensures in
    let first = k.goes_on.first ∙ on.first ∙ c.behind-filling.ensures.first in
    let captured : c.keep.result ≡ record { first = c.args.fill.now; count = c.store_event.new.filling.fill.now - c.args.fill.now } = ap₂ (λ a b. record { first = a; count = b }) (j.first ∙ first) (j.count ∙ ap (λ f. c.store_event.new.filling.fill.now - f) first) in
    let stored = turn_last h same c.depth_left-deep.ensures (on.text ∙ c.behind-filling.ensures.text) c.len.ensures.value k.one c.step.new.self c.step.ensures.last c.step.ensures.on c.if-step.true in
    restored (g.S.Events.meaning c.args.source.now) _ c.args.slots.now c.args.fill.now c.args.text_len c.args.opened stored refl c.over-deferral.ensures.was (search rules) (ap Ok captured) (search rules) (search rules)

pub loop-filling-preserved : goal.loop-filling-preserved
loop-filling-preserved g c =
    let (h, on, same, keeps) = c.loop-filling.invariant in
    let k = c.in_ok-event.ensures in
    let turned = turn_on h same c.depth_left-deep.ensures (on.text ∙ c.behind-filling.ensures.text) c.len.ensures.value k.one c.step.new.self c.step.ensures.last c.step.ensures.on c.if-step.false in
    (turned, record { fill = k.goes_on.fill ∙ on.fill; slots = k.goes_on.slots ∙ on.slots; first = k.goes_on.first ∙ on.first; text = k.goes_on.text ∙ on.text }, ap length k.one.slots ∙ length-set _ _ _ ∙ same, k.same_reference ∙ keeps)
