-- The empty text and the tilde; the search knows the third case from `eq_ignore_ascii_case`.
use Rattle.std.proofs.Common.{codes, inl, inr, arith, rules}
use Rattle.std.specs.Cmp.Lexicographic.{bytes_decides}
use Rattle.std.proofs.lemmas.List.{nil_from_length}
use Rattle.std.proofs.lemmas.Bool.Decides.{nat_tests}
use Rattle.scalars.proofs.nulls.scalar_is_nullish.Goals as goal
use Rattle.scalars.proofs.nulls.scalar_is_nullish.Goals.{then-is_empty, else-is_empty}

pub returns-then-eq-clause-decides : goal.returns-then-eq-clause-decides
returns-then-eq-clause-decides c = (
  λ h. elim c.if-is_empty.branch [
    | then-is_empty w ↦ inl (nil_from_length c.args.text.now (grind (arith, nat_tests)))
    | else-is_empty w ↦ inr (inl ((bytes_decides c.args.text.now (codes "~")).0 (cc)))
  ],
  λ _. search rules,
)
