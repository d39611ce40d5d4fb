-- A source that defers its recursive aliases, walked event by event.
use Rattle.std.proofs.Common.{◌≡◌, ℕ, ◌+◌, ◌≤◌, true, List, [], ◌∷◌, ◌++◌, length, Some, None, Ok, Err, Option, sym, refl, ap, ◌∙◌, subst, append_assoc, append-nil, arith, length-append}
use Rattle.records.specs.declared.record.Record.{Record}
use Rattle.records.specs.declared.refusal.Refusal.{Refusal}
use Rattle.events.specs.Meaning.{Meaning, Close, Plain, Fault, front, peeked, taken, tail}
use Rattle.creel.specs.declared.kind.Kind.{Kind}
use Rattle.creel.specs.Kinds.{OfRecord, Counted}
use Rattle.creel.specs.Kinds.Counted.{nothing, one_more, another}

-- the front of a source that defers
at_event : (ks : List ℕ) (c : Close) (es : List Record) (r : Record) → Ok (Some r) ≡ front true ks c es → es ≡ r ∷ tail es
at_event ks Plain [] r p = cc
at_event ks (Fault f) [] r p = cc
at_event ks c (e ∷ es) r p = cc

at_end : (ks : List ℕ) (c : Close) (es : List Record) → Ok None ≡ front true ks c es → (es ≡ []) × (Plain ≡ c)
at_end ks Plain [] p = (refl, refl)
at_end ks (Fault f) [] p = (refl, cc)
at_end ks c (e ∷ es) p = (cc, cc)

at_fault : (ks : List ℕ) (c : Close) (es : List Record) (f : Refusal) → Err f ≡ front true ks c es → (es ≡ []) × (Fault f ≡ c)
at_fault ks Plain [] f p = (refl, cc)
at_fault ks (Fault g) [] f p = (refl, cc)
at_fault ks c (e ∷ es) f p = (cc, cc)

-- n of the events of m₀ that are gone are of the kind
pub record Walking (k : Kind) (text : List ℕ) (m₀ m : Meaning) (n : ℕ) : Type 0 where
  pub gone : List Record
  pub whole : m₀.events ≡ gone ++ m.events
  pub close : m.close ≡ m₀.close
  pub defers : m.deferring ≡ true
  pub counted : Counted k text gone n
  pub few : n ≤ length gone

pub begun : (k : Kind) (text : List ℕ) (m₀ m : Meaning) → m.events ≡ m₀.events → m.close ≡ m₀.close → m.deferring ≡ true → Walking k text m₀ m 0
begun k text m₀ m e c d = record { gone = []; whole = sym e; close = c; defers = d; counted = nothing; few = omega arith }

module _ (k : Kind) (text : List ℕ) (m₀ m : Meaning) (n : ℕ) (w : Walking k text m₀ m n) where
  peeked_is : peeked m ≡ front true m.anchors m.close m.events
  peeked_is = ap (λ d. front d m.anchors m.close m.events) w.defers

  -- what next answered and left, of which it is known that it is an event
  pub answered : (r : Record) (got : Option Record) → got ≡ Some r → Ok got ≡ peeked m → Ok (Some r) ≡ peeked m
  answered r got e p = cc

  pub left : (r : Record) (got : Option Record) (m' : Meaning) → got ≡ Some r → m' ≡ taken (Ok got) m → m' ≡ taken (Ok (Some r)) m
  left r got m' e p = p ∙ ap (λ g. taken (Ok g) m) e

  event_is : (r : Record) → Ok (Some r) ≡ peeked m → m.events ≡ r ∷ tail m.events
  event_is r p = at_event m.anchors m.close m.events r (p ∙ peeked_is)

  gone_on : (r : Record) → Ok (Some r) ≡ peeked m → m₀.events ≡ (w.gone ++ r ∷ []) ++ tail m.events
  gone_on r p = w.whole ∙ ap (λ l. w.gone ++ l) (event_is r p) ∙ sym (append_assoc w.gone (r ∷ []) (tail m.events))

  pub counts : (r : Record) (m' : Meaning) → Ok (Some r) ≡ peeked m → m' ≡ taken (Ok (Some r)) m → OfRecord k text r → Walking k text m₀ m' (n + 1)
  counts r m' p e is = record {
    gone = w.gone ++ r ∷ [];
    whole = gone_on r p ∙ ap (λ x. (w.gone ++ r ∷ []) ++ x.events) (sym e);
    close = ap (λ x. x.close) e ∙ w.close;
    defers = ap (λ x. x.deferring) e ∙ w.defers;
    counted = one_more r w.counted is;
    few = let f = w.few in simp length-append (omega arith);
  }

  pub passes : (r : Record) (m' : Meaning) → Ok (Some r) ≡ peeked m → m' ≡ taken (Ok (Some r)) m → (OfRecord k text r → ⊥) → Walking k text m₀ m' n
  passes r m' p e is = record {
    gone = w.gone ++ r ∷ [];
    whole = gone_on r p ∙ ap (λ x. (w.gone ++ r ∷ []) ++ x.events) (sym e);
    close = ap (λ x. x.close) e ∙ w.close;
    defers = ap (λ x. x.deferring) e ∙ w.defers;
    counted = another r w.counted is;
    few = let f = w.few in simp length-append (omega arith);
  }

  all_gone : m.events ≡ [] → Counted k text m₀.events n
  all_gone e = subst (λ (l : List Record). Counted k text l n) (sym (w.whole ∙ ap (λ l. w.gone ++ l) e ∙ append-nil w.gone)) w.counted

  pub ends_plainly : Ok None ≡ peeked m → Counted k text m₀.events n × (Plain ≡ m₀.close)
  ends_plainly p = let h = at_end m.anchors m.close m.events (p ∙ peeked_is) in (all_gone h.0, h.1 ∙ w.close)

  pub ends_with : (f : Refusal) → Err f ≡ peeked m → Counted k text m₀.events n × (Fault f ≡ m₀.close)
  ends_with f p = let h = at_fault m.anchors m.close m.events f (p ∙ peeked_is) in (all_gone h.0, h.1 ∙ w.close)
