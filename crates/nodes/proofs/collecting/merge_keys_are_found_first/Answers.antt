use Rattle.nodes.proofs.Finds.{search_finds_the_first}
use Rattle.nodes.proofs.collecting.merge_keys_are_found_first.Goals as goal

pub returns : goal.returns
returns c = search_finds_the_first
