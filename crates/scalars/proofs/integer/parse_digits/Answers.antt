-- A refused byte leaves no number, one that overflows leaves none of 64 bits, and any other goes on.
use Rattle.std.proofs.Common.{sym, ◌∙◌, subst, ap₂, arith}
use Rattle.std.proofs.lemmas.Bool.Decides.{nat_tests}
use Rattle.scalars.specs.Spelling.{Number}
use Rattle.scalars.proofs.Numbers.{advance_digit, goes_on, refuses, overflows, number_read}
use Rattle.scalars.specs.Running.State.{so_far}
use Rattle.scalars.proofs.integer.parse_digits.Goals as goal
use Rattle.scalars.proofs.integer.parse_digits.Goals.{then-class-eq-UNDERSCORE+else-not-after_digit, else-class-eq-UNDERSCORE+else-digit-radix+in_ok-checked_mul+in_ok-value}

pub returns-then-not-after_digit : goal.returns-then-not-after_digit
returns-then-not-after_digit c =
    refuses c.loop-b.invariant c.loop-b-test.true c.class_of-class.ensures (omega arith) (grind (arith, nat_tests))

pub returns-then-digit-radix : goal.returns-then-digit-radix
returns-then-digit-radix c =
    refuses c.loop-b.invariant c.loop-b-test.true c.class_of-class.ensures (omega arith) (grind (arith, nat_tests))

pub returns-in_err-checked_mul : goal.returns-in_err-checked_mul
returns-in_err-checked_mul c =
    subst (Number c.args.radix c.args.digits.now) (sym c.from_residual.ensures)
    (overflows c.loop-b.invariant c.loop-b-test.true c.class_of-class.ensures (omega arith) (omega arith) (omega arith)
    (omega (arith, c.in_err-checked_mul.ensures)))

pub returns-in_err-value : goal.returns-in_err-value
returns-in_err-value c =
    subst (Number c.args.radix c.args.digits.now) (sym c.from_residual-in_err-value.ensures)
    (overflows c.loop-b.invariant c.loop-b-test.true c.class_of-class.ensures (omega arith) (omega arith) (omega arith)
    (omega (arith, c.in_err-value.ensures, c.in_ok-checked_mul.ensures)))

pub loop-b-preserved : goal.loop-b-preserved
loop-b-preserved c =
    let on = goes_on c.loop-b.invariant c.loop-b-test.true c.class_of-class.ensures c.if-class-eq-UNDERSCORE.value c.if-class-eq-UNDERSCORE.after_digit in
    elim c.if-class-eq-UNDERSCORE.branch [
      | then-class-eq-UNDERSCORE+else-not-after_digit w ↦ on (grind (arith, nat_tests)) (omega (arith, w.value-is, c.loop-b.invariant.fits))
      | else-class-eq-UNDERSCORE+else-digit-radix+in_ok-checked_mul+in_ok-value w ↦
          on
          (advance_digit c.args.radix c.loop-b.value c.loop-b.after_digit c.class_of-class.result (omega arith) (omega arith)
          ∙ ap₂ so_far (omega (arith, w.in_ok-value.ensures, w.in_ok-checked_mul.ensures)) (sym w.after_digit-is))
          (omega (arith, w.in_ok-value.ensures))
    ]

pub returns : goal.returns
returns c =
    subst (Number c.args.radix c.args.digits.now) (sym c.then_some.ensures)
    (number_read c.loop-b.after_digit c.loop-b.invariant c.loop-b-test.false (omega arith))
