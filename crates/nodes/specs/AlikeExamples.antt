-- Some nodes that are alike, and some that are not.
use Rattle.std.specs.Prelude.{◌≡◌, ℕ, true, false, List, Some, None as Nothing, codes}
use Rattle.records.specs.declared.record.Place.{Place}
use Rattle.records.specs.declared.record.ScalarStyle.{ScalarStyle}
use Rattle.records.specs.declared.record.ScalarStyle.TheVariants.{Plain, DoubleQuoted}
use Rattle.records.specs.declared.tags.SfTag.{SfTag}
use Rattle.records.specs.declared.tags.SfTag.TheVariants.{None, Int, Seq, Map, String, Other}
use Rattle.records.specs.Blank.{blank}
use Rattle.nodes.specs.Tree.{Mark, Head, Node, mark_of}
use Rattle.nodes.specs.Tree.Node.{scalar, seq, dict}
use Rattle.nodes.specs.Tree.Nodes.{none, more}
use Rattle.nodes.specs.Tree.Pairs.{done, pair}
use Rattle.nodes.specs.Prints.{print}
use Rattle.nodes.specs.Alike.{alike}

-- the words of all examples, and their places
abbrev pub text : List ℕ
text = codes "0 -0 0x0 ~ null true a b 1 2 !map !x"

abbrev pub zero : Place
zero = record { start = 0; len = 1 }

abbrev pub minus_zero : Place
minus_zero = record { start = 2; len = 2 }

abbrev pub hex_zero : Place
hex_zero = record { start = 5; len = 3 }

abbrev pub tilde : Place
tilde = record { start = 9; len = 1 }

abbrev pub null : Place
null = record { start = 11; len = 4 }

abbrev pub truth : Place
truth = record { start = 16; len = 4 }

abbrev pub a : Place
a = record { start = 21; len = 1 }

abbrev pub b : Place
b = record { start = 23; len = 1 }

abbrev pub one : Place
one = record { start = 25; len = 1 }

abbrev pub two : Place
two = record { start = 27; len = 1 }

abbrev pub bang_map : Place
bang_map = record { start = 29; len = 4 }

abbrev pub bang_x : Place
bang_x = record { start = 34; len = 2 }

abbrev pub mark : Mark
mark = mark_of blank

abbrev pub tagged : SfTag → Head
tagged t = record { anchor = 0; tag = t; raw = Nothing }

abbrev pub written : SfTag → Place → Head
written t p = record { anchor = 0; tag = t; raw = Some p }

abbrev pub word : Head → ScalarStyle → Place → Node
word h s p = scalar mark (record { head = h; style = s; value = p })

abbrev pub plain : Place → Node
plain p = word (tagged None) Plain p

-- sequences of two elements, and mappings of one pair and of two
abbrev pub list : Head → Node → Node → Node
list h x y = seq mark h (more x (more y (none mark)))

abbrev pub single : Head → Node → Node → Node
single h k v = dict mark h (pair k v (done mark))

abbrev pub double : Node → Node → Node → Node → Node
double k v l w = dict mark (tagged None) (pair k v (pair l w (done mark)))

abbrev pub Same : Node → Node → Type 0
Same t u = alike (print text t) (print text u) ≡ true

abbrev pub OtherThan : Node → Node → Type 0
OtherThan t u = alike (print text t) (print text u) ≡ false

-- scalars: 0, -0 and 0x0 are one integer, and so is "0" under the tag for integers; ~ and null differ in their bytes;
-- quotes leave `true` as it is; a tag for text makes 1 a text
abbrev pub ScalarExamples : Type 0
ScalarExamples =
    Same (plain zero) (plain minus_zero)
    × Same (plain zero) (plain hex_zero)
    × Same (plain zero) (word (tagged Int) DoubleQuoted zero)
    × OtherThan (plain zero) (word (tagged None) DoubleQuoted zero)
    × OtherThan (plain tilde) (plain null)
    × OtherThan (plain null) (word (tagged None) DoubleQuoted null)
    × Same (plain truth) (word (tagged None) DoubleQuoted truth)
    × OtherThan (plain one) (word (tagged String) Plain one)
    × OtherThan (plain a) (word (written Other bang_x) Plain a)

-- containers: [1, 2] and [2, 1] differ, {a: 1, b: 2} and {b: 2, a: 1} do not, {a: 1, a: 1} has a pair more than {a: 1};
-- keys may be containers; the tags for sequences and mappings go without saying, and !map is a tag of its own
abbrev pub ContainerExamples : Type 0
ContainerExamples =
    OtherThan (list (tagged None) (plain one) (plain two)) (list (tagged None) (plain two) (plain one))
    × Same (list (tagged None) (plain one) (plain two)) (list (tagged Seq) (plain one) (plain two))
    × Same (double (plain a) (plain one) (plain b) (plain two)) (double (plain b) (plain two) (plain a) (plain one))
    × OtherThan (double (plain a) (plain one) (plain b) (plain two)) (double (plain a) (plain two) (plain b) (plain one))
    × OtherThan (double (plain a) (plain one) (plain a) (plain one)) (single (tagged None) (plain a) (plain one))
    × OtherThan (double (plain a) (plain one) (plain a) (plain one)) (double (plain a) (plain one) (plain b) (plain one))
    × Same (single (tagged None) (list (tagged None) (plain zero) (plain a)) (plain b)) (single (tagged None) (list (tagged None) (plain hex_zero) (plain a)) (plain b))
    × Same (single (tagged None) (plain a) (plain one)) (single (tagged Map) (plain a) (plain one))
    × OtherThan (single (tagged None) (plain a) (plain one)) (single (written Map bang_map) (plain a) (plain one))

abbrev pub AlikeExamples : Type 0
AlikeExamples = ScalarExamples × ContainerExamples
