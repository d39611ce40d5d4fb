-- The first word ends at the first blank, or is the last word; and there are fewer left.
use Rattle.std.proofs.Common.{[], Some, None, sym, ap, ◌∙◌, lit<}
use Rattle.std.proofs.lemmas.Str.Pattern.{split_parts}
use Rattle.tape_file.specs.Reading.{left}
use Rattle.tape_file.proofs.Spacing.{split_once_some, split_last, solid_from_reads, moves_on}
use Rattle.tape_file.proofs.words.WordsIterator.next.Goals as goal

pub returns-in_default-clause-steps : goal.returns-in_default-clause-steps
returns-in_default-clause-steps c =
    let text = c.in_ok-text.text.now in
    sym c.self.view_is ∙ ap left c.in_ok-text.was ∙ split_last text (solid_from_reads text (split_parts 32 text None c.in_default.ensures.cases (lit< tt)))

pub returns-in_default-clause-goes : goal.returns-in_default-clause-goes
returns-in_default-clause-goes c = moves_on c.args.self.now [] (Some c.in_ok-text.text) (returns-in_default-clause-steps c)

pub returns-clause-steps : goal.returns-clause-steps
returns-clause-steps c =
    let text = c.in_ok-text.text.now in
    let p = split_parts 32 text (Some (c.in-Some.word, c.in-Some.rest)) c.in-Some.ensures.cases (lit< tt) in
    sym c.self.view_is ∙ ap left c.in_ok-text.was ∙ split_once_some text c.in-Some.word.now c.in-Some.rest.now p.0 p.1

pub returns-clause-goes : goal.returns-clause-goes
returns-clause-goes c = moves_on c.args.self.now (left (Some c.in-Some.rest)) (Some c.in-Some.word) (returns-clause-steps c)
