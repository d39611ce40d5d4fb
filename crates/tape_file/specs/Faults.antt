-- What is wrong with a line, in words.
use Rattle.std.specs.Prelude.{ℕ, List, codes}
use Rattle.tape_file.specs.declared.fault.LineFault.{LineFault}
use Rattle.tape_file.specs.declared.fault.LineFault.TheVariants.{MissingWord, NoNumber, NoOrigin, NoTag, NoStyle, NoRawTag, NoEvent, WordsLeftOver}

abbrev pub fault_words : LineFault → List ℕ
fault_words MissingWord = codes "the line ends where another word should stand"
fault_words NoNumber = codes "a number below 2^32, with no sign and no leading zero, should stand here"
fault_words NoOrigin = codes "`direct`, `alias` or `merge` should stand here"
fault_words NoTag = codes "the word for a tag should stand here"
fault_words NoStyle = codes "`plain`, `single`, `double`, `literal` or `folded` should stand here"
fault_words NoRawTag = codes "`-` or `raw` should stand here"
fault_words NoEvent = codes "`scalar`, `seq`, `endseq`, `map`, `endmap` or `alias` should stand here"
fault_words WordsLeftOver = codes "the line goes on after the end of its record"
