use Rattle.std.proofs.Common.{◌≡◌, ℕ, sym, ap, ◌∙◌, arith}
use Rattle.creel.proofs.Walking.{begun, answered, left, counts, passes}
use Rattle.creel.proofs.walk.walk_to_close.Goals as goal

pub events-init : goal.events-init
events-init c =
    let made = c.in_ok-reader.ensures.means in
    let after = c.defer_recursive_aliases.ensures.after in
    begun _ _ _ _ (ap (λ m. m.events) after ∙ ap (λ m. m.events) made) (ap (λ m. m.close) after ∙ ap (λ m. m.close) made) (ap (λ m. m.deferring) after)

pub events-preserved-then-is_of_kind : goal.events-preserved-then-is_of_kind
events-preserved-then-is_of_kind c =
    let w = c.events.invariant in
    let r = c.in-Ok-Some.record in
    counts _ _ _ _ _ w r _ (answered _ _ _ _ _ w r _ c.in-Ok-Some.field-0-is c.in-Ok-Some.ensures.answer) (left _ _ _ _ _ w r _ _ c.in-Ok-Some.field-0-is c.in-Ok-Some.ensures.after)
    (c.is_of_kind.ensures.0 c.if-is_of_kind.true)

pub events-preserved : goal.events-preserved
events-preserved c =
    let w = c.events.invariant in
    let r = c.in-Ok-Some.record in
    passes _ _ _ _ _ w r _ (answered _ _ _ _ _ w r _ c.in-Ok-Some.field-0-is c.in-Ok-Some.ensures.answer) (left _ _ _ _ _ w r _ _ c.in-Ok-Some.field-0-is c.in-Ok-Some.ensures.after)
    (λ h. let e = sym (c.is_of_kind.ensures.1 h) ∙ c.if-is_of_kind.false in let z : ◌≡◌ {A = ℕ} 0 1 = cc in omega arith)
