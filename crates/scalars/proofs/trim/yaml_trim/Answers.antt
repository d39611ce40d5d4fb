-- Up to the last byte behind the blanks in front that is no blank, or blanks alone.
use Rattle.std.proofs.Common.{rules}
use Rattle.scalars.proofs.Trimming.{trimmed_behind, nothing_behind}
use Rattle.scalars.proofs.trim.yaml_trim.Goals as goal

pub returns-in-Some : goal.returns-in-Some
returns-in-Some c =
    trimmed_behind c.args.text.now c.blanks_in_front.result c.blanks_in_front.ensures c.split_at.result.1.now c.split_at.ensures.back c.in-Some.last (search rules) (search rules) (search rules)

pub returns-in-None : goal.returns-in-None
returns-in-None c = nothing_behind c.args.text.now c.blanks_in_front.result c.blanks_in_front.ensures c.split_at.result.1.now c.split_at.ensures.back (search rules)
