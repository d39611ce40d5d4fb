-- The table holds the class of each byte.
use Rattle.std.proofs.Common.{arith}
use Rattle.scalars.proofs.Tables.{table_rule}
use Rattle.scalars.proofs.classes.class_of.Goals as goal

pub returns : goal.returns
returns c = table_rule c.args.b (omega arith)
