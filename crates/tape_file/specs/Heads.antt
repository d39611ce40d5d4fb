-- The words of what the events that begin a node have in common.
use Rattle.std.specs.Prelude.{ℕ, List}
use Rattle.tape_file.specs.Lines.{node_words, Small, SmallRaw}
use Rattle.tape_file.specs.declared.head.Head.{Head}

abbrev pub head_words : Head → List (List ℕ)
head_words h = node_words h.anchor h.tag h.raw_tag

abbrev pub SmallHead : Head → Type 0
SmallHead h = Small h.anchor × SmallRaw h.raw_tag
