-- Reading one node within limits: what bars it, and what that means.
use Rattle.std.specs.Prelude.{◌≡◌, ℕ, suc, ◌+◌, ◌-◌, ◌<◌, ◌≤◌, Bool, true, false, cond, ◌↔◌, List, [], ◌∷◌, ◌++◌, length, take, Some, None, Option, nat_lt}
use Rattle.std.specs.List.{AllByRecursion, fold}
use Rattle.std.specs.Option.{option_or}
use Rattle.records.specs.declared.location.Location.{Location}
use Rattle.records.specs.declared.record.Event.{Event}
use Rattle.records.specs.declared.record.Event.TheVariants.{Scalar, SeqStart, SeqEnd, MapStart, MapEnd, RecursiveAlias}
use Rattle.records.specs.declared.record.Record.{Record}
use Rattle.records.specs.declared.refusal.Reason.{Reason}
use Rattle.records.specs.declared.refusal.Reason.TheVariants.{Eof, UnexpectedContainerEnd, RackFull, PlaceOutsideRackText, TooDeep}
use Rattle.records.specs.declared.refusal.Refusal.{Refusal}
use Rattle.records.specs.Places.{placed}
use Rattle.events.specs.Meaning.{Meaning, Close, Plain, Fault}
use Rattle.nodes.specs.Tree.{Mark, Cut, Node, Nodes, Pairs, scalar_event, seq_event, map_event, flat, size, depth, whole, Inside, Reads}
use Rattle.nodes.specs.Tree.Cut.{ended, stray}
use Rattle.nodes.specs.Tree.Node.{scalar, alias, seq, dict, cut}
use Rattle.nodes.specs.Tree.Nodes.{none, more}
use Rattle.nodes.specs.Tree.Pairs.{done, pair}

abbrev pub refusal : Reason → Location → Refusal
refusal why l = record { reason = why; location = l; offset = 0 }

-- the location of the last of some records, that follow one at l
abbrev pub last_in : Location → List Record → Location
last_in l rs = fold (λ _ r. r.location) l rs

abbrev pub ended_by : Close → Location → Refusal
ended_by Plain l = refusal Eof l
ended_by (Fault f) l = f

-- the refusal of whoever wants one event more than a source has
abbrev pub closing_of : Meaning → Refusal
closing_of m = ended_by m.close (last_in m.last m.events)

-- what a node has to fit in: free slots, the length of the rack's text, how many containers may be opened in one
-- another; and the refusal at the end of the source
pub record Limits : Type 0 where
  pub room : ℕ
  pub text : ℕ
  pub deep : ℕ
  pub closing : Refusal

-- a refusal, and how many events were taken when it came
pub record Bar : Type 0 where
  pub why : Refusal
  pub taken : ℕ

abbrev pub or_else : Option Bar → Option Bar → Option Bar
or_else o p = option_or o p

-- where i events are taken and the next stands at k: is a slot free, do its places lie in the text, may it be opened
abbrev pub bar_at : Reason → Mark → ℕ → Bar
bar_at why k n = record { why = refusal why k.location; taken = n }

abbrev pub slot_at : Limits → ℕ → Mark → Option Bar
slot_at l i k = cond (nat_lt i l.room) None (Some (bar_at RackFull k i))

abbrev pub place_at : Limits → ℕ → Mark → Event → Option Bar
place_at l i k e = cond (placed l.text e) None (Some (bar_at PlaceOutsideRackText k i))

abbrev pub open_at : ℕ → ℕ → Mark → Option Bar
open_at d i k = cond (nat_lt 0 d) None (Some (bar_at TooDeep k i))

-- the questions for a start, where d containers may still be opened
abbrev pub start_at : Limits → ℕ → ℕ → Mark → Event → Option Bar
start_at l d i k e = or_else (slot_at l i k) (or_else (place_at l i k e) (open_at d i k))

abbrev pub cut_off : Limits → ℕ → Cut → Bar
cut_off l i ended = record { why = l.closing; taken = i }
cut_off l i (stray k e r) = bar_at UnexpectedContainerEnd k (i + 1)

-- what keeps a node from being read, i events being taken: the first question, in order, that is answered with no
abbrev mutual
  pub bars : Limits → ℕ → ℕ → Node → Option Bar
  bars l d i (scalar k x) = or_else (slot_at l i k) (place_at l i k (scalar_event x))
  bars l d i (alias k a) = slot_at l i k
  bars l d i (seq k h ns) = or_else (start_at l d i k (seq_event h)) (barss l (d - 1) (i + 1) ns)
  bars l d i (dict k h ps) = or_else (start_at l d i k (map_event h)) (barsp l (d - 1) (i + 1) ps)
  bars l d i (cut c) = Some (cut_off l i c)

  pub barss : Limits → ℕ → ℕ → Nodes → Option Bar
  barss l d i (none k) = slot_at l i k
  barss l d i (more n ns) = or_else (bars l d i n) (barss l d (i + size n) ns)

  pub barsp : Limits → ℕ → ℕ → Pairs → Option Bar
  barsp l d i (done k) = slot_at l i k
  barsp l d i (pair k v ps) = or_else (bars l d i k) (or_else (bars l d (i + size k) v) (barsp l d (i + size k + size v) ps))

abbrev pub barred : Limits → Node → Option Bar
barred l t = bars l l.deep 0 t

-- a node that fits
pub record Fits (l : Limits) (t : Node) : Type 0 where
  pub unbroken : whole t ≡ true
  pub short : size t ≤ l.room
  pub low : depth t ≤ l.deep
  pub inside : Inside l.text t

-- how many containers are open behind some events
abbrev pub down : ℕ → ℕ
down n = n - 1

abbrev pub opens : ℕ → Event → ℕ
opens n (Scalar a t w s v) = n
opens n (SeqStart a t w) = suc n
opens n SeqEnd = down n
opens n (MapStart a t w) = suc n
opens n MapEnd = down n
opens n (RecursiveAlias a) = n

abbrev pub opened_from : ℕ → List Record → ℕ
opened_from n rs = fold (λ now r. opens now r.event) n rs

abbrev pub opened : List Record → ℕ
opened es = opened_from 0 es

-- some events begin a node: more of them could make it whole
abbrev pub Begins : List Record → Type 0
Begins es = (t : Node) × (more : List Record) × (whole t ≡ true) × (flat t [] ≡ es ++ more)

-- whether an event is the start of a container, and an end
abbrev pub is_start : Event → Bool
is_start (Scalar a t w s v) = false
is_start (SeqStart a t w) = true
is_start SeqEnd = false
is_start (MapStart a t w) = true
is_start MapEnd = false
is_start (RecursiveAlias a) = false

abbrev pub is_end : Event → Bool
is_end (Scalar a t w s v) = false
is_end (SeqStart a t w) = false
is_end SeqEnd = true
is_end (MapStart a t w) = false
is_end MapEnd = true
is_end (RecursiveAlias a) = false

-- the events `front` were taken, within the limits, and begin a node that is not whole yet: it goes on with some event
pub record SoFar (l : Limits) (front : List Record) : Type 0 where
  pub begun : (r : Record) × Begins (front ++ r ∷ [])
  pub short : length front ≤ l.room
  pub inside : AllByRecursion (λ r. placed l.text r.event ≡ true) front
  pub low : (n : ℕ) → opened (take n front) ≤ l.deep

-- why a reading of the events breaks off, in the subject's terms
pub data Why (l : Limits) (es : List Record) : Bar → Type 0 where
  -- no event is left, and more events could have made a node
  early : SoFar l es → Why l es (record { why = l.closing; taken = length es })
  -- an end is out of place: no events behind it could make a node; the end is taken
  misplaced : (front : List Record) (r : Record) (rest : List Record) → es ≡ front ++ r ∷ rest → SoFar l front → is_end r.event ≡ true
      → (Begins (front ++ r ∷ []) → ⊥) → Why l es (record { why = refusal UnexpectedContainerEnd r.location; taken = length front + 1 })
  -- as many events are taken as there was room
  full : (front : List Record) (r : Record) (rest : List Record) → es ≡ front ++ r ∷ rest → SoFar l front → Begins (front ++ r ∷ [])
      → length front ≡ l.room → Why l es (record { why = refusal RackFull r.location; taken = length front })
  -- a place leaves the text
  outside : (front : List Record) (r : Record) (rest : List Record) → es ≡ front ++ r ∷ rest → SoFar l front → Begins (front ++ r ∷ [])
      → length front < l.room → placed l.text r.event ≡ false → Why l es (record { why = refusal PlaceOutsideRackText r.location; taken = length front })
  -- a start comes where as many containers are open as may be
  too_deep : (front : List Record) (r : Record) (rest : List Record) → es ≡ front ++ r ∷ rest → SoFar l front → Begins (front ++ r ∷ [])
      → length front < l.room → placed l.text r.event ≡ true → is_start r.event ≡ true → opened front ≡ l.deep → Why l es (record { why = refusal TooDeep r.location; taken = length front })

-- events begin with one whole node at most
abbrev pub UniqueReading : Type 0
UniqueReading = (t u : Node) (r s : List Record) → whole t ≡ true → whole u ≡ true → flat t r ≡ flat u s → (t ≡ u) × (r ≡ s)

-- every list of events reads as exactly one tree, whole or broken off
abbrev pub ReadsOnce : Type 0
ReadsOnce = ((es : List Record) → (t : Node) × (rest : List Record) × Reads es t rest)
    × ((es : List Record) (t u : Node) (r s : List Record) → Reads es t r → Reads es u s → (t ≡ u) × (r ≡ s))

-- a node is barred by nothing exactly where it is whole and fits
abbrev pub Fitting : Type 0
Fitting = (l : Limits) (es : List Record) (t : Node) (rest : List Record) → Reads es t rest → (barred l t ≡ None) ↔ Fits l t

-- so exactly one holds: the events begin with a node that fits, or their reading breaks off, for one reason
abbrev pub ReadingDecided : Type 0
ReadingDecided = (l : Limits) (es : List Record) (t : Node) (rest : List Record) → Reads es t rest
    → ((b : Bar) → (barred l t ≡ Some b) ↔ Why l es b) × ((u : Node) (s : List Record) → es ≡ flat u s → Fits l u → barred l t ≡ None)
