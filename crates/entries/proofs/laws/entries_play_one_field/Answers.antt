use Rattle.entries.proofs.Plays.{entries_play_one}
use Rattle.entries.proofs.laws.entries_play_one_field.Goals as goal

pub returns : goal.returns
returns c = entries_play_one
