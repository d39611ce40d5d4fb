-- A word is a number's where it is `0`, or is parsed, and has no plus in front, nor a zero in front of more.
use Rattle.std.proofs.Common.{inl, inr, ◌∙◌, sym, codes, lit<}
use Rattle.std.proofs.lemmas.Bool.{both_ways}
use Rattle.std.proofs.lemmas.Fmt.{decimal_digit}
use Rattle.std.proofs.lemmas.Slice.Eq.{bytes_eq-Decides}
use Rattle.std.proofs.lemmas.Str.Pattern.{starts_char}
use Rattle.tape_file.proofs.Numbers.{no_number, parsed_by_map}
use Rattle.tape_file.proofs.spelling.number_of.Goals as goal
use Rattle.tape_file.proofs.spelling.number_of.Goals.{then-starts_with-via-then-starts_with, then-starts_with-via-else-starts_with+then-starts_with-2}

pub returns-then-eq : goal.returns-then-eq
returns-then-eq c = (lit< tt, (bytes_eq-Decides c.args.word.now (codes "0")).0 (sym c.eq.ensures ∙ c.if-eq.true) ∙ sym (decimal_digit 0 (lit< tt)))

pub returns-then-starts_with : goal.returns-then-starts_with
returns-then-starts_with c =
    no_number c.args.word.now (λ z. both_ways c.eq.result c.if-eq.false (c.eq.ensures ∙ (bytes_eq-Decides c.args.word.now (codes "0")).1 z))
    (elim c.then-starts_with.branch [
      | then-starts_with-via-then-starts_with w ↦ inl ((starts_char 48 c.args.word.now c.starts_with.result c.starts_with.ensures.cases (lit< tt) (lit< tt)).0 w.if-starts_with.true)
      | then-starts_with-via-else-starts_with+then-starts_with-2 w ↦ inr ((starts_char 43 c.args.word.now w.starts_with-else-starts_with.result w.starts_with-else-starts_with.ensures.cases (lit< tt) (lit< tt)).0 w.if-starts_with-2.true)
    ])

pub returns : goal.returns
returns c =
    parsed_by_map _ c.args.word.now c.parse.result c.map_err.result c.parse.ensures.value.0
    (λ p. both_ways c.starts_with-else-starts_with.result c.if-starts_with-2.false ((starts_char 43 c.args.word.now c.starts_with-else-starts_with.result c.starts_with-else-starts_with.ensures.cases (lit< tt) (lit< tt)).1 p))
    (λ z. absurd (both_ways c.starts_with.result c.if-starts_with.false ((starts_char 48 c.args.word.now c.starts_with.result c.starts_with.ensures.cases (lit< tt) (lit< tt)).1 z)))
    c.map_err.ensures.cases
