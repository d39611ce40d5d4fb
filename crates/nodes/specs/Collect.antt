-- What a mapping is collected to, defined once for a node that is held and for one that comes from a source, whole or
-- broken off.
use Rattle.std.specs.Prelude.{ℕ, ◌+◌, ◌-◌, Bool, true, false, cond, ◌&&◌, List, [], ◌∷◌, ◌++◌, length, Some, None as Nothing, Ok, Err, Option, Result, ◌==◌, nat_lt}
use Rattle.records.specs.declared.location.Location.{Location}
use Rattle.records.specs.declared.options.MergeKeyPolicy.{MergeKeyPolicy}
use Rattle.records.specs.declared.options.MergeKeyPolicy.TheVariants.{Merge, AsOrdinary, Error as NoMerges}
use Rattle.records.specs.declared.record.Event.{Event}
use Rattle.records.specs.declared.refusal.Reason.{Reason}
use Rattle.records.specs.declared.refusal.Reason.TheVariants.{UnknownAlias, MergeValueNotMapOrSeqOfMaps, MergeKeyNotAllowed, EntriesFull}
use Rattle.records.specs.declared.refusal.Refusal.{Refusal}
use Rattle.events.specs.Meaning.{known}
use Rattle.nodes.specs.Tree.{Mark, Node, Nodes, Pairs, scalar_event, seq_event, map_event, size, sizep}
use Rattle.nodes.specs.Tree.Cut.{ended, stray}
use Rattle.nodes.specs.Tree.Node.{scalar, alias, seq, dict, cut}
use Rattle.nodes.specs.Tree.Nodes.{none, more}
use Rattle.nodes.specs.Tree.Pairs.{done, pair}
use Rattle.nodes.specs.Reading.{Limits, Bar, refusal, slot_at, place_at, start_at, bars}
use Rattle.nodes.specs.Fields.{Rules, Basis, Item, is_merge, null_words, place, reference_at, field_of}
use Rattle.nodes.specs.Fields.Basis.{expansion}
use Rattle.nodes.specs.Repeats.{kept_by}

-- a refusal, how many events were taken when it came, and whether the next one had been looked at by then
pub record Stop : Type 0 where
  pub why : Refusal
  pub taken : ℕ
  pub looked : Bool

-- where a mapping stands: held; or in a source, whose events have to fit limits, and of which d containers may still
-- be opened
pub data Stand : Type 0 where
  held : Stand
  live : Limits → ℕ → Stand

-- one container further in
abbrev pub inner : Stand → Stand
inner held = held
inner (live l d) = live l (d - 1)

abbrev pub and_then : {A B : Type 0} → Result A Stop → (A → Result B Stop) → Result B Stop
and_then (Ok x) f = f x
and_then (Err e) f = Err e

-- what goes on if a question is answered with yes
abbrev pub after : {B : Type 0} → Option Stop → Result B Stop → Result B Stop
after Nothing r = r
after (Some s) r = Err s

abbrev pub stopped : {B : Type 0} → Reason → Location → ℕ → Result B Stop
stopped why l n = Err (record { why = refusal why l; taken = n; looked = false })

-- a bar at a node that begins with the i-th event; the first event may have been looked at
abbrev pub bar_stop : Bool → ℕ → Option Bar → Option Stop
bar_stop looked i Nothing = Nothing
bar_stop looked i (Some b) = Some (record { why = b.why; taken = b.taken; looked = looked && (b.taken == i) })

-- the questions where a node stands: for one that is captured whole, and for an event of the mapping itself
abbrev pub captured : Bool → Stand → ℕ → Node → Option Stop
captured looked held i t = Nothing
captured looked (live l d) i t = bar_stop looked i (bars l d i t)

abbrev pub slot_for : Stand → ℕ → Mark → Option Stop
slot_for held i k = Nothing
slot_for (live l d) i k = bar_stop true i (slot_at l i k)

abbrev pub place_for : Stand → ℕ → Mark → Event → Option Stop
place_for held i k e = Nothing
place_for (live l d) i k e = bar_stop true i (place_at l i k e)

abbrev pub start_for : Stand → ℕ → Mark → Event → Option Stop
start_for held i k e = Nothing
start_for (live l d) i k e = bar_stop true i (start_at l d i k e)

-- an alias that is not known, looked at where none is deferred
abbrev pub unknown_at : Bool → List ℕ → ℕ → Node → Option Stop
unknown_at defers ks i (scalar k x) = Nothing
unknown_at true ks i (alias k a) = Nothing
unknown_at false ks i (alias k a) = cond (known a ks) Nothing (Some (record { why = refusal UnknownAlias k.location; taken = i; looked = false }))
unknown_at defers ks i (seq k h ns) = Nothing
unknown_at defers ks i (dict k h ps) = Nothing
unknown_at defers ks i (cut c) = Nothing

-- a refusal that comes when n events are taken, and the next was not looked at
abbrev pub at : {B : Type 0} → ℕ → Result B Stop → Result B Stop
at n (Ok x) = Ok x
at n (Err s) = Err (record { why = s.why; taken = n; looked = false })

abbrev pub stop_with : {B : Type 0} → ℕ → Result B Refusal → Result B Stop
stop_with n (Ok x) = Ok x
stop_with n (Err e) = Err (record { why = e; taken = n; looked = false })

-- the own fields of a mapping, and what its merges bring, each in order
pub record Gathered : Type 0 where
  pub own : List Item
  pub brought : List Item

abbrev pub with_own : Item → Gathered → Gathered
with_own e g = record { own = e ∷ g.own; brought = g.brought }

abbrev pub with_brought : List Item → Gathered → Gathered
with_brought b g = record { own = g.own; brought = b ++ g.brought }

-- a mapping that closes when n events are taken: its own fields by the policy, and behind them what was merged
abbrev pub closed : Rules → ℕ → Gathered → Result (List Item) Stop
closed R n g = and_then (stop_with n (kept_by R.repeats R.merges R.text g.own)) (λ es. Ok (es ++ g.brought))

abbrev pub end_of : Stand → ℕ → Refusal
end_of held i = refusal MergeValueNotMapOrSeqOfMaps (record { line = 0; column = 0; source_id = 0 })
end_of (live l d) i = l.closing

-- A field whose key k has been taken; `next` is the rest of the mapping, by the places and events that are taken then.
-- The value is captured, and then an entry place has to be free.
abbrev pub as_field : Rules → Basis → Stand → Bool → ℕ → ℕ → Node → Node → (ℕ → ℕ → Result Gathered Stop) → Result Gathered Stop
as_field R b s defers u i k v next =
    after (captured false s (i + size k) v) (cond (nat_lt u R.places) (and_then (next (u + 1) (i + size k + size v)) (λ g. Ok (with_own (field_of b defers k v) g))) (stopped EntriesFull (place k) (i + size k + size v)))

-- what a merge brings, before the rest of the mapping
abbrev pub as_merge : ℕ → ℕ → Result (List Item) Stop → (ℕ → ℕ → Result Gathered Stop) → Result Gathered Stop
as_merge u i brought next = and_then brought (λ new. and_then (next (u + length new) i) (λ g. Ok (with_brought new g)))

-- by the policy for merge keys: merge, take as a field, refuse
abbrev pub by_policy : {A : Type 0} → MergeKeyPolicy → A → A → A → A
by_policy Merge x y z = x
by_policy AsOrdinary x y z = y
by_policy NoMerges x y z = z

-- R: the rules; b: the basis; s: where the mapping stands; defers: whether aliases are deferred; u: how many entry
-- places are taken; i: how many events are taken
abbrev mutual
  pub gather : Rules → Basis → Stand → Bool → ℕ → ℕ → Pairs → Result Gathered Stop
  gather R b s defers u i (done k) = after (slot_for s i k) (Ok (record { own = []; brought = [] }))
  gather R b s defers u i (pair k v ps) =
      after (unknown_at defers R.anchors i k)
      (after (captured true s i k)
      (cond (is_merge R.text k)
      (by_policy R.merges
      (as_merge u (i + size k + size v) (merge_value R b s defers u (i + size k) v) (λ u' i'. gather R b s defers u' i' ps))
      (as_field R b s defers u i k v (λ u' i'. gather R b s defers u' i' ps))
      (stopped MergeKeyNotAllowed (place k) (i + size k)))
      (as_field R b s defers u i k v (λ u' i'. gather R b s defers u' i' ps))))

  -- what the value of a merge key brings
  pub merge_value : Rules → Basis → Stand → Bool → ℕ → ℕ → Node → Result (List Item) Stop
  merge_value R b s defers u i (scalar k x) =
      after (place_for s i k (scalar_event x)) (cond (null_words R.text x) (after (slot_for s i k) (Ok [])) (stopped MergeValueNotMapOrSeqOfMaps k.location i))
  merge_value R b s defers u i (alias k a) = cond (known a R.anchors) (after (slot_for s i k) (Ok [])) (stopped UnknownAlias k.location i)
  merge_value R b s defers u i (seq k h ns) = after (start_for s i k (seq_event h)) (elements R b (inner s) defers u (i + 1) ns)
  merge_value R b s defers u i (dict k h ps) =
      after (captured true s i (dict k h ps)) (at (i + size (dict k h ps)) (and_then (gather R (expansion (reference_at b (dict k h ps))) held false u 0 ps) (closed R 0)))
  merge_value R b s defers u i (cut ended) = Err (record { why = end_of s i; taken = i; looked = false })
  merge_value R b s defers u i (cut (stray k e r)) = stopped MergeValueNotMapOrSeqOfMaps k.location i

  -- what the elements of a merge sequence bring
  pub elements : Rules → Basis → Stand → Bool → ℕ → ℕ → Nodes → Result (List Item) Stop
  elements R b s defers u i (none k) = after (slot_for s i k) (Ok [])
  elements R b s defers u i (more n ns) =
      after (unknown_at defers R.anchors i n) (after (captured true s i n) (and_then (at (i + size n) (expand R (reference_at b n) u n)) (λ new. and_then (elements R b s defers (u + length new) (i + size n) ns) (λ more. Ok (new ++ more)))))

  -- what a node brings that is expanded with a reference
  pub expand : Rules → Location → ℕ → Node → Result (List Item) Stop
  expand R l u (scalar k x) = cond (null_words R.text x) (Ok []) (stopped MergeValueNotMapOrSeqOfMaps k.location 0)
  expand R l u (alias k a) = cond (known a R.anchors) (Ok []) (stopped UnknownAlias k.location 0)
  expand R l u (seq k h ns) = elements R (expansion l) held false u 0 ns
  expand R l u (dict k h ps) = and_then (gather R (expansion l) held false u 0 ps) (closed R 0)
  expand R l u (cut c) = Ok []

-- the fields of a node, which has to be a mapping; `missing` is the refusal where there is not even a first event
abbrev pub collected : Rules → Basis → Stand → Bool → Refusal → Node → Result (List Item) Stop
collected R b s defers missing (scalar k x) = stopped MergeValueNotMapOrSeqOfMaps k.location 1
collected R b s true missing (alias k a) = stopped MergeValueNotMapOrSeqOfMaps k.location 1
collected R b s false missing (alias k a) = cond (known a R.anchors) (stopped MergeValueNotMapOrSeqOfMaps k.location 1) (stopped UnknownAlias k.location 0)
collected R b s defers missing (seq k h ns) = stopped MergeValueNotMapOrSeqOfMaps k.location 1
collected R b s defers missing (dict k h ps) =
    after (start_for s 0 k (map_event h)) (and_then (gather R b (inner s) defers 0 1 ps) (closed R (1 + sizep ps)))
collected R b s defers missing (cut ended) = Err (record { why = missing; taken = 0; looked = false })
collected R b s defers missing (cut (stray k e r)) = stopped MergeValueNotMapOrSeqOfMaps k.location 1
