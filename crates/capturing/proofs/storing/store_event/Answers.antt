use Rattle.std.proofs.Common.{◌≡◌, true, cond, ltb, length, Some, None, Option, sym, refl, ap, ◌∙◌, arith}
use Rattle.std.specs.Option.{option_map}
use Rattle.std.proofs.lemmas.Result.{err_from_is_err_and}
use Rattle.records.specs.declared.refusal.Reason.TheVariants.{UnexpectedContainerEnd}
use Rattle.records.specs.Places.{placed}
use Rattle.nodes.specs.Reading.{is_start}
use Rattle.nodes.specs.Taking.{past}
use Rattle.capturing.specs.Paths.{first_no}
use Rattle.capturing.specs.Storing.{one_comes}
use Rattle.capturing.proofs.Asks.{asked_out, asked_in}
use Rattle.capturing.proofs.storing.store_event.Goals as goal

-- what a value was made of
made_of : {A B : Type 0} (f : A → B) (o : Option A) (b : B) → Some b ≡ option_map f o → (a : A) × (Some a ≡ o) × (b ≡ f a)
made_of f None b h = grind arith
made_of f (Some a) b h = (a, refl, cc)

pub returns-then-is_misplaced-clause-one : goal.returns-then-is_misplaced-clause-one
returns-then-is_misplaced-clause-one g c =
    let m = g.S.Events.meaning in
    let a = c.in_ok-record.ensures in
    let out = sym c.is_misplaced.ensures ∙ c.if-is_misplaced.true in
    one_comes c.in_ok-record.record UnexpectedContainerEnd a.answer c.at.ensures (asked_out _ _ _ _ _ out) (c.take_off.ensures.after ∙ ap (past 1) a.after ∙ ap (λ b. past (cond b 1 0) (m c.args.source.now.source.now)) (sym out)) refl

pub returns-in_err-question-clause-one : goal.returns-in_err-question-clause-one
returns-in_err-question-clause-one g c =
    let m = g.S.Events.meaning in
    let r = c.in_ok-record.record in
    let a = c.in_ok-record.ensures in
    let inside = sym c.is_misplaced.ensures ∙ c.if-is_misplaced.false in
    let p = err_from_is_err_and c.from_residual-in_err-question.result c.from_residual-in_err-question.ensures.1 in
    let (why, asks, is) = made_of _ _ _ c.in_err-question.ensures in
    rw (p.1, p.2) (one_comes r why a.answer is (asks ∙ ap (λ b. first_no b (placed c.args.filling.now.text_len r.event) (cond (is_start r.event) c.args.low true)) c.has_room.ensures ∙ asked_in c.args.spot (ltb c.args.filling.now.fill.now (length c.args.filling.now.slots.now)) c.args.filling.now.text_len c.args.low r.event inside) (a.after ∙ ap (λ b. past (cond b 1 0) (m c.args.source.now.source.now)) (sym inside)) refl)
