-- The relation by the test, for a lawful equality.
use Rattle.kept.proofs.PairLaws.{test_is_relation}
use Rattle.kept.proofs.laws.pairing_is_tested.Goals as goal

pub returns : goal.returns
returns g c = test_is_relation _ (g.met.E.Equality.lawful c.args.eq.now)
