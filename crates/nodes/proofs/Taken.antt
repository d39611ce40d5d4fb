-- Sources once some events are taken: one part after another, how they close, and what a deferring source answers.
use Rattle.std.proofs.Common.{◌≡◌, ℕ, ◌+◌, true, List, [], ◌∷◌, ◌++◌, take, drop, Some, None, Ok, Err, sym, ap, ◌∙◌, take-append-drop, drop-drop, take-add, arith}
use Rattle.std.proofs.lemmas.List.Sums.{fold-append}
use Rattle.records.specs.declared.location.Location.{Location}
use Rattle.records.specs.declared.record.Record.{Record}
use Rattle.records.specs.declared.refusal.Reason.TheVariants.{Eof}
use Rattle.records.specs.declared.refusal.Refusal.{Refusal}
use Rattle.events.specs.Meaning.{Meaning, tail, closing, peeked, settled, taken}
use Rattle.nodes.specs.Tree.{Node, flat, size, whole}
use Rattle.nodes.specs.Reading.{refusal, last_in, ended_by, closing_of}
use Rattle.nodes.specs.Taking.{past}
use Rattle.nodes.proofs.Flats.{drop_flat, take_flat}

pub last_append : (l : Location) (xs ys : List Record) → last_in l (xs ++ ys) ≡ last_in (last_in l xs) ys
last_append l xs ys = fold-append (λ _ r. r.location) l xs ys

pub past_more : (n k : ℕ) (m : Meaning) → past k (past n m) ≡ past (n + k) m
past_more n k m =
    let e = drop-drop k n m.events in
    let f = sym (last_append m.last (take n m.events) (take k (drop n m.events))) ∙ ap (last_in m.last) (sym (take-add n k m.events)) in
    λ i. record { events = e i; close = m.close; last = f i; past = m.past; deferring = m.deferring; anchors = m.anchors }

-- whatever is taken, a source closes as it would have
pub closing_past : (n : ℕ) (m : Meaning) → closing_of (past n m) ≡ closing_of m
closing_past n m = ap (ended_by m.close) (sym (last_append m.last (take n m.events) (drop n m.events)) ∙ ap (last_in m.last) (take-append-drop n m.events))

-- a whole node at the front, once it is taken
pub past_flat : (m : Meaning) (t : Node) (rest : List Record) → whole t ≡ true → m.events ≡ flat t rest → (past (size t) m).events ≡ rest
past_flat m t rest w e = ap (drop (size t)) e ∙ drop_flat t rest w

pub last_flat : (m : Meaning) (t : Node) (rest : List Record) → whole t ≡ true → m.events ≡ flat t rest → (past (size t) m).last ≡ last_in m.last (flat t [])
last_flat m t rest w e = ap (λ l. last_in m.last (take (size t) l)) e ∙ ap (last_in m.last) (take_flat t rest w)

-- a deferring source answers its front as it stands
module _ (m : Meaning) (h : m.deferring ≡ true) where
  pub peeked_front : (r : Record) (rs : List Record) → m.events ≡ r ∷ rs → peeked m ≡ Ok (Some r)
  peeked_front r rs e = grind arith

  pub peeked_end : m.events ≡ [] → peeked m ≡ closing m.close
  peeked_end e = grind arith

  -- so each answer says what its events are, and the last two how it closes
  pub peeked_some : (r : Record) → peeked m ≡ Ok (Some r) → m.events ≡ r ∷ tail m.events
  peeked_some r q = grind arith

  pub peeked_none : peeked m ≡ Ok None → (m.events ≡ []) × (closing_of m ≡ refusal Eof m.last)
  peeked_none q = grind arith

  pub peeked_fault : (f : Refusal) → peeked m ≡ Err f → (m.events ≡ []) × (closing_of m ≡ f)
  peeked_fault f q = grind arith

-- what peek and next leave of a source that answers its front as it stands
module _ (m : Meaning) (r : Record) (rs : List Record) (e : m.events ≡ r ∷ rs) where
  pub settled_front : settled (Ok (Some r)) m ≡ m
  settled_front =
      let p = ap (λ es. r ∷ tail es) e ∙ sym e in
      λ i. record { events = p i; close = m.close; last = m.last; past = m.past; deferring = m.deferring; anchors = m.anchors }

  pub taken_front : taken (Ok (Some r)) m ≡ past 1 m
  taken_front =
      let p = ap tail e ∙ sym (ap (drop 1) e) in
      let q = sym (ap (λ es. last_in m.last (take 1 es)) e) in
      λ i. record { events = p i; close = m.close; last = q i; past = m.past; deferring = m.deferring; anchors = m.anchors }
