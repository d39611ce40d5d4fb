-- A reading breaks off for one reason only, and never where the events begin with a node that fits.
use Rattle.std.proofs.Common.{◌≡◌, ℕ, suc, ◌+◌, ◌<◌, ◌≤◌, true, false, List, [], ◌∷◌, ◌++◌, length, take, Some, None, Option, sym, refl, ap, ◌∙◌, subst, append_assoc, append-nil, arith, length-append}
use lib.Seq.{take-append-add}
use Rattle.std.specs.List.{AllByRecursion}
use Rattle.std.proofs.lemmas.List.Elements.{All-contains, All-from_recursion, Contains-append_right}
use Rattle.std.proofs.lemmas.Bool.{both_ways}
use Rattle.records.specs.declared.record.Event.{Event}
use Rattle.records.specs.declared.record.Record.{Record}
use Rattle.records.specs.declared.refusal.Reason.TheVariants.{UnexpectedContainerEnd, RackFull, PlaceOutsideRackText, TooDeep}
use Rattle.records.specs.Places.{placed}
use Rattle.nodes.specs.Tree.{Node, flat, whole, Reads}
use Rattle.nodes.specs.Reading.{Limits, Bar, refusal, barred, Begins, opens, opened, is_start, SoFar, Why, Fits, ReadingDecided}
use Rattle.nodes.proofs.Flats.{flat_append}
use Rattle.nodes.proofs.Readings.{unique_reading, reads_unique, whole_reads}
use Rattle.nodes.proofs.Fits.{fits_barred, barred_fits}
use Rattle.nodes.proofs.Levels.{opened_push, none_taken, node-taken}
use Rattle.nodes.proofs.Whys.{barred_why}

-- of two ways to part a list, one front is the other, or goes on with what is behind it
data Parted (xs ys a b : List Record) : Type 0 where
  same : xs ≡ ys → a ≡ b → Parted xs ys a b
  shorter : (r : Record) (q : List Record) → ys ≡ xs ++ r ∷ q → a ≡ r ∷ (q ++ b) → Parted xs ys a b
  longer : (r : Record) (q : List Record) → xs ≡ ys ++ r ∷ q → b ≡ r ∷ (q ++ a) → Parted xs ys a b

parted_more : (x y : Record) (xs ys a b : List Record) → x ≡ y → Parted xs ys a b → Parted (x ∷ xs) (y ∷ ys) a b
parted_more x y xs ys a b e (same p q) = same (cc) q
parted_more x y xs ys a b e (shorter r t p q) = shorter r t (cc) q
parted_more x y xs ys a b e (longer r t p q) = longer r t (cc) q

parted : (xs ys a b : List Record) → xs ++ a ≡ ys ++ b → Parted xs ys a b
parted [] [] a b e = same refl e
parted [] (y ∷ ys) a b e = shorter y ys refl e
parted (x ∷ xs) [] a b e = longer x xs refl (sym e)
parted (x ∷ xs) (y ∷ ys) a b e = parted_more x y xs ys a b (cc) (parted xs ys a b (cc))

-- why a reading goes no further behind `front`
data Cause (l : Limits) (front : List Record) : List Record → Bar → Type 0 where
  early : Cause l front [] (record { why = l.closing; taken = length front })
  misplaced : {r : Record} {q : List Record} → (Begins (front ++ r ∷ []) → ⊥) → Cause l front (r ∷ q) (record { why = refusal UnexpectedContainerEnd r.location; taken = length front + 1 })
  full : {r : Record} {q : List Record} → Begins (front ++ r ∷ []) → length front ≡ l.room → Cause l front (r ∷ q) (record { why = refusal RackFull r.location; taken = length front })
  outside : {r : Record} {q : List Record} → Begins (front ++ r ∷ []) → length front < l.room → placed l.text r.event ≡ false → Cause l front (r ∷ q) (record { why = refusal PlaceOutsideRackText r.location; taken = length front })
  too_deep : {r : Record} {q : List Record} → Begins (front ++ r ∷ []) → length front < l.room → placed l.text r.event ≡ true → is_start r.event ≡ true → opened front ≡ l.deep
      → Cause l front (r ∷ q) (record { why = refusal TooDeep r.location; taken = length front })

record Stop (l : Limits) (es : List Record) (b : Bar) : Type 0 where
  front : List Record
  rest : List Record
  is : es ≡ front ++ rest
  so_far : SoFar l front
  cause : Cause l front rest b

stop : (l : Limits) (es : List Record) (b : Bar) → Why l es b → Stop l es b
stop l es b (Why.early s) = record { front = es; rest = []; is = sym (append-nil es); so_far = s; cause = early }
stop l es b (Why.misplaced front r q e s d n) = record { front = front; rest = r ∷ q; is = e; so_far = s; cause = misplaced n }
stop l es b (Why.full front r q e s g h) = record { front = front; rest = r ∷ q; is = e; so_far = s; cause = full g h }
stop l es b (Why.outside front r q e s g h p) = record { front = front; rest = r ∷ q; is = e; so_far = s; cause = outside g h p }
stop l es b (Why.too_deep front r q e s g h p t o) = record { front = front; rest = r ∷ q; is = e; so_far = s; cause = too_deep g h p t o }

-- one cause only
one_cause : (l : Limits) (front rest : List Record) (b c : Bar) → Cause l front rest b → Cause l front rest c → b ≡ c
one_cause l front rest b c early early = refl
one_cause l front rest b c (misplaced n) (misplaced n') = refl
one_cause l front rest b c (misplaced n) (full g h) = absurd (n g)
one_cause l front rest b c (misplaced n) (outside g h p) = absurd (n g)
one_cause l front rest b c (misplaced n) (too_deep g h p t o) = absurd (n g)
one_cause l front rest b c (full g h) (misplaced n) = absurd (n g)
one_cause l front rest b c (full g h) (full g' h') = refl
one_cause l front rest b c (full g h) (outside g' h' p) = absurd (omega arith)
one_cause l front rest b c (full g h) (too_deep g' h' p t o) = absurd (omega arith)
one_cause l front rest b c (outside g h p) (misplaced n) = absurd (n g)
one_cause l front rest b c (outside g h p) (full g' h') = absurd (omega arith)
one_cause l front rest b c (outside g h p) (outside g' h' p') = refl
one_cause l front rest b c (outside g h p) (too_deep g' h' p' t o) = absurd (both_ways _ p p')
one_cause l front rest b c (too_deep g h p t o) (misplaced n) = absurd (n g)
one_cause l front rest b c (too_deep g h p t o) (full g' h') = absurd (omega arith)
one_cause l front rest b c (too_deep g h p t o) (outside g' h' p') = absurd (both_ways _ p' p)
one_cause l front rest b c (too_deep g h p t o) (too_deep g' h' p' t' o') = refl

-- events that are all taken, of a node
record Went (l : Limits) (xs : List Record) : Type 0 where
  begins : Begins xs
  short : length xs ≤ l.room
  inside : AllByRecursion (λ r. placed l.text r.event ≡ true) xs
  low : (n : ℕ) → opened (take n xs) ≤ l.deep

begins_front : (front q : List Record) (r : Record) → Begins (front ++ r ∷ q) → Begins (front ++ r ∷ [])
begins_front front q r b = let (u, m, w, e) = b in (u, q ++ m, w, e ∙ append_assoc front (r ∷ q) m ∙ sym (append_assoc front (r ∷ []) (q ++ m)))

begins_less : (xs ys : List Record) → Begins (xs ++ ys) → Begins xs
begins_less xs ys b = let (u, m, w, e) = b in (u, ys ++ m, w, e ∙ append_assoc xs ys m)

opens_start : (n : ℕ) (e : Event) → is_start e ≡ true → opens n e ≡ suc n
opens_start n e h = grind arith

-- what is taken has no cause to stop at
stuck : (l : Limits) (front : List Record) (r : Record) (rest q : List Record) (b : Bar) → Cause l front (r ∷ rest) b → Went l (front ++ r ∷ q) → ⊥
stuck l front r rest q b (misplaced n) w = n (begins_front front q r w.begins)
stuck l front r rest q b (full g h) w = let e = length-append front (r ∷ q) in omega (arith, w.short)
stuck l front r rest q b (outside g h p) w = both_ways _ p (All-contains (λ e. placed l.text e.event ≡ true) (front ++ r ∷ q) r (All-from_recursion _ _ w.inside) (Contains-append_right front (r ∷ q) r (0, omega arith, refl)))
stuck l front r rest q b (too_deep g h p t o) w =
    let e = take-append-add front (r ∷ q) 1 in
    let m : opened (front ++ r ∷ []) ≤ l.deep = subst (λ x. opened x ≤ l.deep) e (w.low (length front + 1)) in
    let u = opened_push 0 front r in
    let v = opens_start (opened front) r.event t in
    omega arith

module _ (l : Limits) (es : List Record) where
  went : {front : List Record} → SoFar l front → Went l front
  went {front} s = record { begins = begins_less front _ s.begun.1; short = s.short; inside = s.inside; low = s.low }

  one_stop : (b c : Bar) (x : Stop l es b) (y : Stop l es c) → Parted x.front y.front x.rest y.rest → b ≡ c
  one_stop b c x y (same p q) = grind (arith, one_cause)
  one_stop b c x y (shorter r q p e) = grind (arith, stuck, went y.so_far)
  one_stop b c x y (longer r q p e) = grind (arith, stuck, went x.so_far)

  pub one_why : (b c : Bar) → Why l es b → Why l es c → b ≡ c
  one_why b c v w =
      let x = stop l es b v in
      let y = stop l es c w in
      one_stop b c x y (parted x.front y.front x.rest y.rest (sym x.is ∙ y.is))

  -- no more is taken than there is
  pub why_taken : (b : Bar) → Why l es b → b.taken ≤ length es
  why_taken b (Why.early s) = omega arith
  why_taken b (Why.misplaced front r q e s d n) = let a = ap length e ∙ length-append front (r ∷ q) in omega arith
  why_taken b (Why.full front r q e s g h) = let a = ap length e ∙ length-append front (r ∷ q) in omega arith
  why_taken b (Why.outside front r q e s g h p) = let a = ap length e ∙ length-append front (r ∷ q) in omega arith
  why_taken b (Why.too_deep front r q e s g h p t o) = let a = ap length e ∙ length-append front (r ∷ q) in omega arith

  -- no whole node stands at the front of what is taken
  unfinished : (u : Node) (q : List Record) {front : List Record} → whole u ≡ true → SoFar l front → front ≡ flat u [] ++ q → ⊥
  unfinished u q w s e =
      let (r, b) = s.begun in
      let (t, m, v, i) = b in
      let x = i ∙ ap (λ f. (f ++ r ∷ []) ++ m) e ∙ append_assoc (flat u [] ++ q) (r ∷ []) m ∙ append_assoc (flat u []) q (r ∷ m) ∙ sym (flat_append u (q ++ r ∷ m) w) in
      let z = ap length (unique_reading t u [] (q ++ r ∷ m) v w x).1 in
      omega (arith, length-append q (r ∷ m))

  fits_went : (u : Node) → Fits l u → Went l (flat u [])
  fits_went u f =
      let s = node-taken l u (none_taken l) (fits_barred l u f) in
      record { begins = (u, [], f.unbroken, sym (append-nil (flat u []))); short = (let n = s.short in omega (arith, s.count)); inside = s.inside; low = s.low }

  fits_apart : (b : Bar) (x : Stop l es b) (u : Node) (s : List Record) → Fits l u → Parted x.front (flat u []) x.rest s → ⊥
  fits_apart b x u s f (same p q) = unfinished u [] f.unbroken x.so_far (p ∙ sym (append-nil (flat u [])))
  fits_apart b x u s f (shorter r q p e) = grind (arith, stuck, fits_went u f)
  fits_apart b x u s f (longer r q p e) = unfinished u (r ∷ q) f.unbroken x.so_far p

  pub fits_no_why : (b : Bar) (u : Node) (s : List Record) → es ≡ flat u s → Fits l u → Why l es b → ⊥
  fits_no_why b u s e f w =
      let x = stop l es b w in
      fits_apart b x u s f (parted x.front (flat u []) x.rest s (sym x.is ∙ e ∙ flat_append u s f.unbroken))

  why_barred : (t : Node) (rest : List Record) → Reads es t rest → (b : Bar) → Why l es b → (o : Option Bar) → barred l t ≡ o → barred l t ≡ Some b
  why_barred t rest h b w None e = absurd (fits_no_why b t rest h.is (barred_fits l t e) w)
  why_barred t rest h b w (Some c) e = e ∙ ap Some (one_why c b (barred_why l es t rest h c e) w)

pub reading_decided : ReadingDecided
reading_decided l es t rest h = (
  λ b. (barred_why l es t rest h b, λ w. why_barred l es t rest h b w (barred l t) refl),
  λ u s e f. ap (barred l) (reads_unique es t u rest s h (subst (λ x. Reads x u s) (sym e) (whole_reads u s f.unbroken))).0 ∙ fits_barred l u f,
)
