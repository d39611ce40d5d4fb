-- What is asked of tags, as lists of the tags of which it holds; and when two tags are the same.
use Rattle.std.specs.Prelude.{ℕ, Bool, true, false, ◌==◌}
use Rattle.records.specs.declared.tags.SfTag.{SfTag}
use Rattle.records.specs.declared.tags.SfTag.TheVariants.{None, Int, Float, Bool as BoolTag, Null, Seq, Map, TimeStamp, Binary, String, Merge, Value, NonSpecific, Include, Degrees, Radians, Other}

-- the seven tags of YAML 1.2.2's core schema
abbrev pub core : SfTag → Bool
core None = false
core Int = true
core Float = true
core BoolTag = true
core Null = true
core Seq = true
core Map = true
core TimeStamp = false
core Binary = false
core String = true
core Merge = false
core Value = false
core NonSpecific = false
core Include = false
core Degrees = false
core Radians = false
core Other = false

-- the tags that let a scalar be nothing but text
abbrev pub forced : SfTag → Bool
forced None = false
forced Int = false
forced Float = false
forced BoolTag = false
forced Null = false
forced Seq = false
forced Map = false
forced TimeStamp = false
forced Binary = false
forced String = true
forced Merge = false
forced Value = false
forced NonSpecific = true
forced Include = false
forced Degrees = false
forced Radians = false
forced Other = false

-- the tags under which a scalar may be read as text
abbrev pub stringy : SfTag → Bool
stringy None = true
stringy Int = false
stringy Float = false
stringy BoolTag = false
stringy Null = false
stringy Seq = false
stringy Map = false
stringy TimeStamp = false
stringy Binary = false
stringy String = true
stringy Merge = true
stringy Value = true
stringy NonSpecific = true
stringy Include = true
stringy Degrees = false
stringy Radians = false
stringy Other = true

-- the number of a tag, in the order of their declaration
abbrev pub tag_number : SfTag → ℕ
tag_number None = 0
tag_number Int = 1
tag_number Float = 2
tag_number BoolTag = 3
tag_number Null = 4
tag_number Seq = 5
tag_number Map = 6
tag_number TimeStamp = 7
tag_number Binary = 8
tag_number String = 9
tag_number Merge = 10
tag_number Value = 11
tag_number NonSpecific = 12
tag_number Include = 13
tag_number Degrees = 14
tag_number Radians = 15
tag_number Other = 16

abbrev pub same_tag : SfTag → SfTag → Bool
same_tag a b = tag_number a == tag_number b
