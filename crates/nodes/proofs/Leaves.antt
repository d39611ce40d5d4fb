-- Tags and leaves are compared by value.
use Rattle.std.proofs.Common.{◌≡◌, true, ◌↔◌, refl, arith}
use Rattle.std.specs.Cmp.{booleans_Decides}
use Rattle.std.proofs.lemmas.Bool.Decides.{nat_tests}
use Rattle.records.proofs.TagLaws.{tag_is_same}
use Rattle.scalars.proofs.Computing.{same_bytes}
use Rattle.nodes.specs.Prints.{Canon}
use Rattle.nodes.specs.Prints.Canon.{semantic, custom}
use Rattle.nodes.specs.Prints.Leaf.{reference, integer, words}
use Rattle.nodes.specs.Alike.{same_canon, LeavesByValue}

pub canon_is_same : (a b : Canon) → (same_canon a b ≡ true) ↔ (a ≡ b)
canon_is_same (semantic t) (semantic u) = grind (arith, tag_is_same t u)
canon_is_same (semantic t) (custom b) = grind arith
canon_is_same (custom a) (semantic u) = grind arith
canon_is_same (custom a) (custom b) = grind (arith, same_bytes a b)

pub canon_self : (a : Canon) → same_canon a a ≡ true
canon_self a = (canon_is_same a a).1 refl

-- by number, by sign and magnitude, or by bytes and tag
pub leaf_is_same : LeavesByValue
leaf_is_same (reference a) (reference b) = grind (arith, nat_tests)
leaf_is_same (reference a) (integer n m) = grind arith
leaf_is_same (reference a) (words b d) = grind arith
leaf_is_same (integer n m) (reference b) = grind arith
leaf_is_same (integer n m) (integer n' m') = grind (arith, nat_tests, booleans_Decides n n')
leaf_is_same (integer n m) (words b d) = grind arith
leaf_is_same (words a c) (reference b) = grind arith
leaf_is_same (words a c) (integer n m) = grind arith
leaf_is_same (words a c) (words b d) = grind (arith, same_bytes a b, canon_is_same c d)
