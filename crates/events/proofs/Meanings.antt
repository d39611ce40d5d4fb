-- What every source shares: the front before and after a peek.
use Rattle.std.proofs.Common.{◌≡◌, ℕ, Bool, true, false, cond, not, ◌||◌, List, [], ◌∷◌, Some, Ok, Err, refl, subst}
use Rattle.records.specs.declared.record.Event.{Event}
use Rattle.records.specs.declared.record.Event.TheVariants.{Scalar, SeqStart, SeqEnd, MapStart, MapEnd, RecursiveAlias}
use Rattle.records.specs.declared.record.Record.{Record}
use Rattle.events.specs.Meaning.{Meaning, Close, Plain, Fault, known, nulled, unknown_alias, resolve, stands, front, tail}
use Rattle.events.specs.Fronts.{null_if, at_front}

pub same_meaning : (a b : Meaning) → a.events ≡ b.events → a.close ≡ b.close → a.last ≡ b.last → a.past ≡ b.past → a.deferring ≡ b.deferring → a.anchors ≡ b.anchors → a ≡ b
same_meaning a b p q l o d k = λ i. record { events = p i; close = q i; last = l i; past = o i; deferring = d i; anchors = k i }

resolved_is : (ks : List ℕ) (r y : Record) (e : Event) → Ok y ≡ resolve ks r e → y ≡ null_if r e
resolved_is ks r y (Scalar a t w s v) q = cc
resolved_is ks r y (SeqStart a t w) q = cc
resolved_is ks r y SeqEnd q = cc
resolved_is ks r y (MapStart a t w) q = cc
resolved_is ks r y MapEnd q = cc
resolved_is ks r y (RecursiveAlias a) q = go (known a ks) q
  where
    go : (b : Bool) → Ok y ≡ cond b (Ok (nulled r a)) (Err (unknown_alias r)) → y ≡ nulled r a
    go true h = cc
    go false h = cc

-- a null stays as it is
null_again : (r : Record) (e : Event) → r.event ≡ e → null_if (null_if r e) (null_if r e).event ≡ null_if r e
null_again r (Scalar a t w s v) h = rw h
null_again r (SeqStart a t w) h = rw h
null_again r SeqEnd h = rw h
null_again r (MapStart a t w) h = rw h
null_again r MapEnd h = rw h
null_again r (RecursiveAlias a) h = refl

-- what peek leaves at the front
pub peek_front : (d b : Bool) (ks : List ℕ) (c : Close) (es : List Record) (x y : Record) → Ok (Some x) ≡ front true ks c (at_front b es) → Ok y ≡ stands d ks x → at_front (b || not d) es ≡ y ∷ tail (at_front b es)
peek_front d b ks Plain [] x y p q = cc
peek_front d b ks (Fault f) [] x y p q = cc
peek_front true true ks c (r ∷ rs) x y p q = cc
peek_front true false ks c (r ∷ rs) x y p q = cc
peek_front false false ks c (r ∷ rs) x y p q = let e : x ≡ r = cc in let z = resolved_is ks x y x.event q in let w : y ≡ null_if r r.event = rw e at z in cc
peek_front false true ks c (r ∷ rs) x y p q =
    let e : x ≡ null_if r r.event = cc in
    let z = resolved_is ks x y x.event q in
    let w : y ≡ null_if (null_if r r.event) (null_if r r.event).event = subst (λ (v : Record). y ≡ null_if v v.event) e z in
    let n = null_again r r.event refl in cc

pub at_front_false : (rs : List Record) → at_front false rs ≡ rs
at_front_false [] = refl
at_front_false (r ∷ rs) = refl
