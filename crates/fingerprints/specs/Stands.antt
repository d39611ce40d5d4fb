-- What the code's tags and leaves stand for.
use Rattle.nodes.specs.Prints.{Canon, Leaf}
use Rattle.nodes.specs.Prints.Canon.{semantic, custom}
use Rattle.nodes.specs.Prints.Leaf.{reference, integer, words}
use Rattle.fingerprints.specs.declared.tag.CanonicalKeyTag.{CanonicalKeyTag}
use Rattle.fingerprints.specs.declared.tag.CanonicalKeyTag.TheVariants.{Semantic, Custom}
use Rattle.fingerprints.specs.declared.leaf.KeyLeaf.{KeyLeaf}
use Rattle.fingerprints.specs.declared.leaf.KeyLeaf.TheVariants.{RecursiveAlias, Integer, Scalar}

abbrev pub canon_of : CanonicalKeyTag → Canon
canon_of (Semantic t) = semantic t
canon_of (Custom raw) = custom raw.now

abbrev pub stands_for : KeyLeaf → Leaf
stands_for (RecursiveAlias a) = reference a
stands_for (Integer n m) = integer n m
stands_for (Scalar v t) = words v.now (canon_of t)
