-- A number is one word.
use Rattle.std.proofs.Common.{decimal, arith}
use Rattle.std.proofs.lemmas.Fmt.{decimal_injective}
use Rattle.tape_file.specs.Lines.{Small}
use Rattle.tape_file.proofs.Parsing.{from_word}
use Rattle.tape_file.proofs.spelling.U32Spelled.parse.Goals as goal

pub returns : goal.returns
returns c = from_word decimal Small (λ x y h k. decimal_injective x y (omega arith) (omega arith)) _ _ c.in_ok-word.field-0.now c.number_of.result c.in_ok-word.ensures c.number_of.ensures
