-- The relation by counts, for a lawful equality.
use Rattle.kept.proofs.PairLaws.{pairing_by_counts}
use Rattle.kept.proofs.laws.pairing_is_counted.Goals as goal

pub returns : goal.returns
returns g c = pairing_by_counts _ (g.met.E.Equality.lawful c.args.eq.now)
