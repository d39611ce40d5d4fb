-- What is printed of a kind and of a faulty file.
use Rattle.std.specs.Prelude.{ℕ, List, ◌++◌, codes, decimal}
use Rattle.tape_file.specs.Faults.{fault_words}
use Rattle.creel.specs.declared.kind.Kind.{Kind}
use Rattle.creel.specs.declared.kind.Kind.TheVariants.{Scalar, SeqStart, SeqEnd, MapStart, MapEnd, RecursiveAlias, Integer, Null}
use Rattle.creel.specs.declared.file.FileFault.{FileFault}
use Rattle.creel.specs.declared.file.FileFault.TheVariants.{Line, Memory}

abbrev pub kind_words : Kind → List ℕ
kind_words Scalar = codes "scalars"
kind_words SeqStart = codes "sequences begun"
kind_words SeqEnd = codes "sequences ended"
kind_words MapStart = codes "mappings begun"
kind_words MapEnd = codes "mappings ended"
kind_words RecursiveAlias = codes "recursive aliases"
kind_words Integer = codes "of them integers"
kind_words Null = codes "of them nulls"

abbrev pub file_words : FileFault → List ℕ
file_words (Line n f) = codes "line " ++ decimal n ++ codes ": " ++ fault_words f
file_words Memory = codes "not enough memory"
