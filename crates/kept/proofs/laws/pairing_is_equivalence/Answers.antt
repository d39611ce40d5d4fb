-- The three laws, for a lawful equality.
use Rattle.kept.proofs.PairLaws.{pairing_is_equivalence}
use Rattle.kept.proofs.laws.pairing_is_equivalence.Goals as goal

pub returns : goal.returns
returns g c = pairing_is_equivalence _ (g.met.E.Equality.lawful c.args.eq.now)
