-- When fingerprints are alike: YAML's node equality, as a relation and as a test.
use Rattle.std.specs.Prelude.{◌≡◌, Bool, true, false, cond, ◌&&◌, ◌↔◌, Some, None as Nothing, Option, nat_eq}
use Rattle.std.specs.Bool.{beq}
use Rattle.records.specs.Tags.{same_tag}
use Rattle.scalars.specs.Computed.{equal_bytes}
use Rattle.nodes.specs.Prints.{Canon, Leaf, Print, Prints, PrintPairs}
use Rattle.nodes.specs.Prints.Canon.{semantic, custom}
use Rattle.nodes.specs.Prints.Leaf.{reference, integer, words}
use Rattle.nodes.specs.Prints.Print.{leaf, sequence, mapping}
use Rattle.nodes.specs.Prints.Prints.{end, then}
use Rattle.nodes.specs.Prints.PrintPairs.{nothing, field}

-- the pair (k, v) stands somewhere in `ps`, and the others, in order, are `rest`
pub data Pick : Print → Print → PrintPairs → PrintPairs → Type 0 where
  here : {k v : Print} {ps : PrintPairs} → Pick k v (field k v ps) ps
  there : {k v l w : Print} {ps rest : PrintPairs} → Pick k v ps rest → Pick k v (field l w ps) (field l w rest)

mutual
  -- Scalars are equal where their tags and contents are; sequences where their tags are equal and their elements are
  -- alike in order; mappings where their tags are equal and their pairs can be matched one to one.
  pub data Alike : Print → Print → Type 0 where
    leaves : {x : Leaf} → Alike (leaf x) (leaf x)
    sequences : {c : Canon} {xs ys : Prints} → AlikeAll xs ys → Alike (sequence c xs) (sequence c ys)
    mappings : {c : Canon} {ps qs : PrintPairs} → Matched ps qs → Alike (mapping c ps) (mapping c qs)

  pub data AlikeAll : Prints → Prints → Type 0 where
    no_more : AlikeAll end end
    and_more : {x y : Print} {xs ys : Prints} → Alike x y → AlikeAll xs ys → AlikeAll (then x xs) (then y ys)

  -- each pair of the one has a partner in the other, which is no other's partner, and none is left over
  pub data Matched : PrintPairs → PrintPairs → Type 0 where
    all_matched : Matched nothing nothing
    partner : {k v l w : Print} {ps qs rest : PrintPairs} → Pick l w qs rest → Alike k l → Alike v w → Matched ps rest → Matched (field k v ps) qs

abbrev pub same_canon : Canon → Canon → Bool
same_canon (semantic t) c = elim c [ semantic u ↦ same_tag t u | custom b ↦ false ]
same_canon (custom a) c = elim c [ semantic u ↦ false | custom b ↦ equal_bytes a b ]

abbrev pub same_leaf : Leaf → Leaf → Bool
same_leaf (reference a) l = elim l [ reference b ↦ nat_eq a b | integer n m ↦ false | words b c ↦ false ]
same_leaf (integer n m) l = elim l [ reference b ↦ false | integer n' m' ↦ beq n n' && nat_eq m m' | words b c ↦ false ]
same_leaf (words a c) l = elim l [ reference b ↦ false | integer n m ↦ false | words b d ↦ equal_bytes a b && same_canon c d ]

-- the first pair that passes both tests is taken off
abbrev pub take_off : (Print → Bool) → (Print → Bool) → PrintPairs → Option PrintPairs
take_off f g nothing = Nothing
take_off f g (field l w qs) = cond (f l && g w) (Some qs) (elim (take_off f g qs) [ Nothing ↦ Nothing | Some rest ↦ Some (field l w rest) ])

abbrev mutual
  pub alike : Print → Print → Bool
  alike (leaf x) u = elim u [ leaf y ↦ same_leaf x y | sequence c ys ↦ false | mapping c qs ↦ false ]
  alike (sequence c xs) u = elim u [ leaf y ↦ false | sequence d ys ↦ same_canon c d && alikes xs ys | mapping d qs ↦ false ]
  alike (mapping c ps) u = elim u [ leaf y ↦ false | sequence d ys ↦ false | mapping d qs ↦ same_canon c d && matched ps qs ]

  pub alikes : Prints → Prints → Bool
  alikes end ys = elim ys [ end ↦ true | then y ys ↦ false ]
  alikes (then x xs) ys = elim ys [ end ↦ false | then y ys ↦ alike x y && alikes xs ys ]

  pub matched : PrintPairs → PrintPairs → Bool
  matched nothing qs = elim qs [ nothing ↦ true | field l w qs ↦ false ]
  matched (field k v ps) qs = elim (take_off (alike k) (alike v) qs) [ Nothing ↦ false | Some rest ↦ matched ps rest ]

abbrev pub AlikeIsTested : Type 0
AlikeIsTested = (p q : Print) → (alike p q ≡ true) ↔ Alike p q

abbrev pub AlikeIsEquality : Type 0
AlikeIsEquality = ((p : Print) → Alike p p) × ((p q : Print) → Alike p q → Alike q p) × ((p q r : Print) → Alike p q → Alike q r → Alike p r)

-- two leaves are alike exactly where they are the same
abbrev pub LeavesByValue : Type 0
LeavesByValue = (x y : Leaf) → (same_leaf x y ≡ true) ↔ (x ≡ y)
