-- Some spellings, and some texts that spell no integer of 64 bits.
use Rattle.std.specs.Prelude.{true, false, codes}
use Rattle.scalars.specs.Spelling.{Spells, Unspelled}

abbrev pub IntegerExamples : Type 0
IntegerExamples =
    Spells (codes "0") false 0
    × Spells (codes "-0") false 0
    × Spells (codes "0x0") false 0
    × Spells (codes "-0x10") true 16
    × Spells (codes "1_000") false 1000
    × Spells (codes "18446744073709551615") false 18446744073709551615
    × Unspelled (codes "18446744073709551616")
    × Unspelled (codes "1__0")
    × Unspelled (codes "007")
