-- The test of `ys` against `xs` tells whether `xs` and `ys` pair off.
use Rattle.std.proofs.Common.{◌≡◌, Bool, true, ◌↔◌, List, ◌++◌, length, sym, ap, ◌∙◌, arith}
use Rattle.std.specs.Cmp.{IsEquivalence}
use Rattle.kept.specs.Pairing.{Paired, paired}
use Rattle.kept.proofs.PairLaws.{test_is_relation, pairing_is_equivalence}
use Rattle.kept.proofs.pairing.pair_off.Goals as goal

answered : {X : Type 0} (same : X → X → Bool) → IsEquivalence same → (xs ys held : List X) (b : Bool) → held ≡ xs → b ≡ paired same ys held → (b ≡ true) ↔ Paired same xs ys
answered same eq xs ys held b h e =
    let test : b ≡ paired same ys xs = e ∙ ap (paired same ys) h in (
      λ t. (pairing_is_equivalence same eq).symmetric ys xs ((test_is_relation same eq ys xs).0 (sym test ∙ t)),
      λ d. test ∙ (test_is_relation same eq ys xs).1 ((pairing_is_equivalence same eq).symmetric xs ys d),
    )

pub returns : goal.returns
returns g c =
    let xs = c.args.xs.now in
    let filled = c.in_ok-extend_from_slice.ensures.list in (
      omega (arith, filled.0, ap length c.new-left.ensures.list, c.new-left.ensures.room),
      answered (g.E.Equality.same c.args.eq.now) (g.met.E.Equality.lawful c.args.eq.now)
          xs c.args.ys.now _ _ (filled.1 ∙ ap (λ zs. zs ++ xs) c.new-left.ensures.list) c.take_all_off.ensures,
    )
