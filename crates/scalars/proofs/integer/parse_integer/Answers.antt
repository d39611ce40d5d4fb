-- What the parts say is what the text spells.
use Rattle.std.proofs.Common.{not, ◌&&◌, eqb, sym, ap, ◌∙◌, subst, Some, None}
use Rattle.scalars.proofs.Computing.{Told, read_in}
use Rattle.scalars.proofs.integer.parse_integer.Goals as goal

pub returns-then-leading_zero : goal.returns-then-leading_zero
returns-then-leading_zero c =
    let h =
    read_in c.yaml_trim.ensures c.split_sign-minus.ensures.minus c.split_sign-minus.ensures.rest c.radix_and_digits-radix.ensures.radix c.radix_and_digits-radix.ensures.digits
    None (λ n m p fits. c.if-leading_zero.ensures p.plain) in
    record { reading = h.0; computed = h.1 }

pub returns-in_err-magnitude : goal.returns-in_err-magnitude
returns-in_err-magnitude c =
    let h =
    read_in c.yaml_trim.ensures c.split_sign-minus.ensures.minus c.split_sign-minus.ensures.rest c.radix_and_digits-radix.ensures.radix c.radix_and_digits-radix.ensures.digits
    c.from_residual.result (subst (Told _ _ _) (sym c.from_residual.ensures) (λ n m p fits. c.in_err-magnitude.ensures m p.spelled fits)) in
    record { reading = h.0; computed = h.1 }

pub returns-then-minus : goal.returns-then-minus
returns-then-minus c =
    let m = c.in_ok-magnitude.magnitude in
    let h =
    read_in c.yaml_trim.ensures c.split_sign-minus.ensures.minus c.split_sign-minus.ensures.rest c.radix_and_digits-radix.ensures.radix c.radix_and_digits-radix.ensures.digits
    (Some (not (eqb m 0), m)) (
      record {
        spelled = c.in_ok-magnitude.ensures.0;
        plain = c.if-leading_zero.ensures;
        below_zero = sym (ap (λ b. b && not (eqb m 0)) c.if-minus.true);
      },
      c.in_ok-magnitude.ensures.1,
    ) in
    record { reading = h.0; computed = h.1 }

pub returns-else-minus : goal.returns-else-minus
returns-else-minus c =
    let m = c.in_ok-magnitude.magnitude in
    let h =
    read_in c.yaml_trim.ensures c.split_sign-minus.ensures.minus c.split_sign-minus.ensures.rest c.radix_and_digits-radix.ensures.radix c.radix_and_digits-radix.ensures.digits
    (Some (c.split_sign-minus.result.0, m)) (
      record {
        spelled = c.in_ok-magnitude.ensures.0;
        plain = c.if-leading_zero.ensures;
        below_zero = c.if-minus.false ∙ sym (ap (λ b. b && not (eqb m 0)) c.if-minus.false);
      },
      c.in_ok-magnitude.ensures.1,
    ) in
    record { reading = h.0; computed = h.1 }
