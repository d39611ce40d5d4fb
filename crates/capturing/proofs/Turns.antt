-- What the answer to an event says of what is left.
use Rattle.std.proofs.Common.{◌≡◌, ℕ, suc, ◌+◌, Bool, true, false, cond, ltb, List, [], ◌∷◌, Some, None, Ok, Err, Option, sym, refl, ap, ◌∙◌, arith}
use Rattle.std.proofs.lemmas.Bool.{true≢false}
use Rattle.records.specs.declared.location.Location.{Location}
use Rattle.records.specs.declared.record.Event.{Event}
use Rattle.records.specs.declared.record.Record.{Record}
use Rattle.records.specs.declared.refusal.Reason.{Reason}
use Rattle.records.specs.declared.refusal.Reason.TheVariants.{UnexpectedContainerEnd}
use Rattle.records.specs.declared.refusal.Refusal.{Refusal}
use Rattle.records.specs.Places.{placed}
use Rattle.events.specs.Meaning.{Close}
use Rattle.nodes.specs.Tree.{mark_of}
use Rattle.nodes.specs.Reading.{Limits, Bar, refusal, ended_by, or_else, bar_at, is_start}
use Rattle.capturing.specs.declared.path.Spot.{Spot}
use Rattle.capturing.specs.Paths.{follow, misplaced, first_no, asked, first_in}
use Rattle.capturing.proofs.Asks.{bar_by}
use Rattle.capturing.proofs.Lefts.{Left, flat_l, size_l, spots_l, SoundL, bars_l, asks, Front, at_end, at_stray, at_event}

-- an event that is not refused
pub record Fine (s : Spot) (free : Bool) (n : ℕ) (low : Bool) (e : Event) : Type 0 where
  pub in_place : misplaced s e ≡ false
  pub free_slot : free ≡ true
  pub all_yes : first_no free (placed n e) (cond (is_start e) low true) ≡ None

fine_by : (out free lies low : Bool) → None ≡ cond out (Some UnexpectedContainerEnd) (first_no free lies low) → (out ≡ false) × (free ≡ true)
fine_by true free lies low h = grind arith
fine_by false true lies low h = (refl, refl)
fine_by false false lies low h = grind arith

pub fine_from : (s : Spot) (free : Bool) (n : ℕ) (low : Bool) (e : Event) → None ≡ asked s free n low e → Fine s free n low e
fine_from s free n low e h =
    let p = fine_by (misplaced s e) free (placed n e) (cond (is_start e) low true) h in
    record {
      in_place = p.0;
      free_slot = p.1;
      all_yes = sym (h ∙ ap (λ x. cond x (Some UnexpectedContainerEnd) (first_no free (placed n e) (cond (is_start e) low true))) p.0);
    }

-- a refusal of an event at a spot, i events being taken before it
abbrev pub told : Spot → ℕ → Reason → Record → Bar
told s i why r = record { why = refusal why r.location; taken = i + cond (misplaced s r.event) 1 0 }

module _ (l : Limits) (rest : List Record) (i : ℕ) (s : Spot) (ss : List Spot) (d : ℕ) (bar : Option Bar) (n : ℕ) where
  pub record Next (es : List Record) (r : Record) : Type 0 where
    pub on : Left
    pub is : es ≡ r ∷ flat_l on rest
    pub spots : spots_l on ≡ follow (s ∷ ss) r.event
    pub sound : SoundL on
    pub count : n ≡ suc (size_l on)
    pub bars : bar ≡ bars_l l (i + 1) on

  abbrev Asked : Option Reason → Record → Type 0
  Asked o r = o ≡ asked s (ltb i l.room) l.text (ltb 0 d) r.event

  -- the reading goes on with an event that is not refused
  pub next_event : {es : List Record} → Front l rest i s ss d bar n es → (c : Close) (k : Location) (r : Record) → Ok r ≡ first_in c k es → Asked None r → Next es r
  next_event (at_end b) c k r q h = grind arith
  next_event (at_stray x es p b) c k r q h =
      let e : x ≡ r = cc in
      let f = fine_from s (ltb i l.room) l.text (ltb 0 d) r.event h in
      absurd (true≢false (sym p ∙ ap (λ y. misplaced s y.event) e ∙ f.in_place))
  next_event (at_event x on p a b u v) c k r q h =
      let e : x ≡ r = cc in
      let f = fine_from s (ltb i l.room) l.text (ltb 0 d) r.event h in
      record {
        on = on;
        is = ap (λ y. y ∷ flat_l on rest) e;
        spots = a ∙ ap (λ y. follow (s ∷ ss) y.event) e;
        sound = b;
        count = u;
        bars = v ∙ ap (λ y. or_else (asks l d i y) (bars_l l (i + 1) on)) e ∙ ap (λ o. or_else (bar_by (mark_of r) i o) (bars_l l (i + 1) on)) f.all_yes;
      }

  -- no event is left
  pub no_event : {es : List Record} → Front l rest i s ss d bar n es → (c : Close) (k : Location) (e : Refusal) → Err e ≡ first_in c k es → (es ≡ []) × (e ≡ ended_by c k) × (bar ≡ Some (record { why = l.closing; taken = i }))
  no_event (at_end b) c k e q = (refl, cc, b)
  no_event (at_stray x es p b) c k e q = grind arith
  no_event (at_event x on p a b u v) c k e q = grind arith

  stray_told : (why : Reason) (r : Record) (b : Bool) → b ≡ true → Some why ≡ cond b (Some UnexpectedContainerEnd) (first_no (ltb i l.room) (placed l.text r.event) (cond (is_start r.event) (ltb 0 d) true))
      → ◌≡◌ {A = Option Bar} (Some (bar_at UnexpectedContainerEnd (mark_of r) (i + 1))) (Some (record { why = refusal why r.location; taken = i + cond b 1 0 }))
  stray_told why r true p h = let e : UnexpectedContainerEnd ≡ why = cc in ap (λ w. Some (bar_at w (mark_of r) (i + 1))) e
  stray_told why r false p h = absurd (true≢false (sym p))

  event_told : (why : Reason) (r : Record) (o : Option Bar) (b : Bool) → b ≡ false → Some why ≡ cond b (Some UnexpectedContainerEnd) (first_no (ltb i l.room) (placed l.text r.event) (cond (is_start r.event) (ltb 0 d) true))
      → or_else (asks l d i r) o ≡ Some (record { why = refusal why r.location; taken = i + cond b 1 0 })
  event_told why r o true p h = absurd (true≢false p)
  event_told why r o false p h =
      let e : i ≡ i + 0 = omega arith in
      ap (λ x. or_else (bar_by (mark_of r) i x) o) (sym h) ∙ ap (λ j. Some (record { why = refusal why r.location; taken = j })) e

  -- an event is refused
  pub refused_event : {es : List Record} → Front l rest i s ss d bar n es → (c : Close) (k : Location) (r : Record) (why : Reason) → Ok r ≡ first_in c k es → Asked (Some why) r → bar ≡ Some (told s i why r)
  refused_event (at_end b) c k r why q h = grind arith
  refused_event (at_stray x es p b) c k r why q h =
      let e : x ≡ r = cc in
      b ∙ ap (λ y. Some (bar_at UnexpectedContainerEnd (mark_of y) (i + 1))) e ∙ stray_told why r (misplaced s r.event) (ap (λ y. misplaced s y.event) (sym e) ∙ p) h
  refused_event (at_event x on p a b u v) c k r why q h =
      let e : x ≡ r = cc in
      v ∙ ap (λ y. or_else (asks l d i y) (bars_l l (i + 1) on)) e ∙ event_told why r (bars_l l (i + 1) on) (misplaced s r.event) (ap (λ y. misplaced s y.event) (sym e) ∙ p) h
