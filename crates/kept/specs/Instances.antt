-- Equality of plain values, and that it is an equivalence.
use Rattle.std.specs.Prelude.{ℕ, Bool, ◌&&◌, ◌==◌}
use Rattle.std.specs.Cmp.{nat_eq_equiv, on_equiv, and_equiv}
use Rattle.kept.specs.Equivalence.{Equivalence}

abbrev pub same_number : ℕ → ℕ → Bool
same_number a b = a == b

abbrev pub same_parts : ℕ × ℕ → ℕ × ℕ → Bool
same_parts a b = a.0 == b.0 && a.1 == b.1

pub number_lawful : {S : Type 0} → Equivalence {S = S} {T = ℕ} (λ _. same_number)
number_lawful e = nat_eq_equiv

pub parts_lawful : {S : Type 0} → Equivalence {S = S} {T = ℕ × ℕ} (λ _. same_parts)
parts_lawful e = and_equiv (on_equiv (λ a. a.0) nat_eq_equiv) (on_equiv (λ a. a.1) nat_eq_equiv)
