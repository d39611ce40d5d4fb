-- What is left leads from the number so far to what the whole spells.
use Rattle.scalars.proofs.Numbers.{Left}
use Rattle.scalars.proofs.integer.parse_digits.Given as goal

abbrev pub invariant-loop-b : goal.invariant-loop-b
invariant-loop-b l = Left l.radix l.digits l.value l.after_digit l.b-index
