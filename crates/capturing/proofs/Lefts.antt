-- What is left to read of a node, from where its reading stands out to its end.
use Rattle.std.proofs.Common.{◌≡◌, ℕ, suc, ◌+◌, ◌-◌, true, false, cond, ltb, List, [], ◌∷◌, length, Some, None, Option, sym, refl, ap, ◌∙◌, subst, ap₂, subst₂, ⊎_elim, arith}
use Rattle.std.proofs.lemmas.Bool.{true≢false, cases_Bool}
use Rattle.records.specs.declared.record.Event.TheVariants.{SeqEnd, MapEnd, RecursiveAlias}
use Rattle.records.specs.declared.record.Record.{Record}
use Rattle.records.specs.declared.refusal.Reason.TheVariants.{UnexpectedContainerEnd}
use Rattle.records.specs.Places.{placed}
use Rattle.nodes.specs.Tree.{Mark, End, Node, Nodes, Pairs, rec, mark_of, scalar_event, seq_event, map_event, end_event, flat, flats, flatp, size, sizes, sizep, whole, cut_at, Sound, Sounds, Soundp}
use Rattle.nodes.specs.Tree.End.{seq_end, map_end}
use Rattle.nodes.specs.Tree.Cut.{ended, stray}
use Rattle.nodes.specs.Tree.Node.{scalar, alias, seq, dict, cut}
use Rattle.nodes.specs.Tree.Nodes.{none, more}
use Rattle.nodes.specs.Tree.Pairs.{done, pair}
use Rattle.nodes.specs.Reading.{Limits, Bar, or_else, bar_at, start_at, bars, barss, barsp, is_start}
use Rattle.nodes.proofs.Sounds.{sounds_behind, sounds_none, soundp_value, soundp_behind, soundp_none, soundp_neither}
use Rattle.capturing.specs.declared.path.Spot.{Spot}
use Rattle.capturing.specs.declared.path.Spot.TheVariants.{Start, Element, Key, Value, Done}
use Rattle.capturing.specs.Paths.{beyond, is_done, follow, misplaced, first_no}
use Rattle.capturing.proofs.Asks.{bar_by, asks_start, asks_leaf, asks_slot}

-- nothing; the node itself; or what a container and those around it still have
pub data Left : Type 0 where
  nothing : Left
  start : Node → Left
  element : Nodes → Left → Left
  key : Pairs → Left → Left
  value : Node → Pairs → Left → Left

abbrev pub flat_l : Left → List Record → List Record
flat_l nothing r = r
flat_l (start t) r = flat t r
flat_l (element ns o) r = flats ns (flat_l o r)
flat_l (key ps o) r = flatp ps (flat_l o r)
flat_l (value v ps o) r = flat v (flatp ps (flat_l o r))

abbrev pub size_l : Left → ℕ
size_l nothing = 0
size_l (start t) = size t + 0
size_l (element ns o) = sizes ns + size_l o
size_l (key ps o) = sizep ps + size_l o
size_l (value v ps o) = size v + (sizep ps + size_l o)

-- how many containers are open
abbrev pub level_l : Left → ℕ
level_l nothing = 0
level_l (start t) = 0
level_l (element ns o) = suc (level_l o)
level_l (key ps o) = suc (level_l o)
level_l (value v ps o) = suc (level_l o)

abbrev pub spot_l : Left → Spot
spot_l nothing = Done
spot_l (start t) = Start
spot_l (element ns o) = Element
spot_l (key ps o) = Key
spot_l (value v ps o) = Value

abbrev pub around_l : Left → List Spot
around_l nothing = []
around_l (start t) = []
around_l (element ns o) = spot_l o ∷ around_l o
around_l (key ps o) = spot_l o ∷ around_l o
around_l (value v ps o) = spot_l o ∷ around_l o

abbrev pub spots_l : Left → List Spot
spots_l o = spot_l o ∷ around_l o

pub around_length : (o : Left) → length (around_l o) ≡ level_l o
around_length nothing = refl
around_length (start t) = refl
around_length (element ns o) = ap suc (around_length o)
around_length (key ps o) = ap suc (around_length o)
around_length (value v ps o) = ap suc (around_length o)

abbrev pub SoundL : Left → Type 0
SoundL nothing = Unit {0}
SoundL (start t) = Sound t
SoundL (element ns o) = Sounds ns × SoundL o
SoundL (key ps o) = Soundp ps × SoundL o
SoundL (value v ps o) = Sound v × Soundp ps × SoundL o

-- children behind a child are sound, whether it breaks off or not
sounds_rest : (n : Node) (ns : Nodes) → Sounds (more n ns) → Sounds ns
sounds_rest n ns s = ⊎_elim (λ w. sounds_behind n ns s w) (λ w. subst Sounds (sym (sounds_none n ns s w)) tt) (cases_Bool (whole n))

soundp_next : (k v : Node) (ps : Pairs) → Soundp (pair k v ps) → Sound v
soundp_next k v ps s = ⊎_elim (λ w. soundp_value k v ps s w) (λ w. subst Sound (sym (soundp_neither k v ps s w).0) tt) (cases_Bool (whole k))

soundp_rest : (k v : Node) (ps : Pairs) → Soundp (pair k v ps) → Soundp ps
soundp_rest k v ps s = ⊎_elim
    (λ w. ⊎_elim (λ x. soundp_behind k v ps s w x) (λ x. subst Soundp (sym (soundp_none k v ps s w x)) tt) (cases_Bool (whole v)))
    (λ w. subst Soundp (sym (soundp_neither k v ps s w).1) tt) (cases_Bool (whole k))

or_assoc : (a b c : Option Bar) → or_else (or_else a b) c ≡ or_else a (or_else b c)
or_assoc None b c = refl
or_assoc (Some x) b c = refl

module _ (l : Limits) where
  -- what bars the rest, i events being taken
  abbrev pub bars_l : ℕ → Left → Option Bar
  bars_l i nothing = None
  bars_l i (start t) = or_else (bars l (l.deep - 0) i t) None
  bars_l i (element ns o) = or_else (barss l (l.deep - suc (level_l o)) i ns) (bars_l (i + sizes ns) o)
  bars_l i (key ps o) = or_else (barsp l (l.deep - suc (level_l o)) i ps) (bars_l (i + sizep ps) o)
  bars_l i (value v ps o) = or_else (bars l (l.deep - suc (level_l o)) i v) (or_else (barsp l (l.deep - suc (level_l o)) (i + size v) ps) (bars_l (i + size v + sizep ps) o))

  -- the questions for an event, where d containers may still be opened
  abbrev pub asks : ℕ → ℕ → Record → Option Bar
  asks d i r = bar_by (mark_of r) i (first_no (ltb i l.room) (placed l.text r.event) (cond (is_start r.event) (ltb 0 d) true))

  -- what comes next: nothing, an end that is out of place, or an event with which the reading goes on
  pub data Front (rest : List Record) (i : ℕ) (s : Spot) (ss : List Spot) (d : ℕ) (bar : Option Bar) (n : ℕ) : List Record → Type 0 where
    at_end : bar ≡ Some (record { why = l.closing; taken = i }) → Front rest i s ss d bar n []
    at_stray : (r : Record) (es : List Record) → misplaced s r.event ≡ true → bar ≡ Some (bar_at UnexpectedContainerEnd (mark_of r) (i + 1)) → Front rest i s ss d bar n (r ∷ es)
    at_event : (r : Record) (on : Left) → misplaced s r.event ≡ false → spots_l on ≡ follow (s ∷ ss) r.event → SoundL on → n ≡ suc (size_l on) → bar ≡ or_else (asks d i r) (bars_l (i + 1) on) → Front rest i s ss d bar n (r ∷ flat_l on rest)

  module _ (rest : List Record) where
    node-front : (i : ℕ) (s : Spot) (ss : List Spot) (t : Node) (o : Left) → spots_l o ≡ beyond s ∷ ss → Sound t → SoundL o → ((k : Mark) (e : End) (r : List Record) → t ≡ cut (stray k e r) → misplaced s (end_event e) ≡ true)
        → Front rest i s ss (l.deep - level_l o) (or_else (bars l (l.deep - level_l o) i t) (bars_l (i + size t) o)) (size t + size_l o) (flat t (flat_l o rest))
    node-front i s ss (scalar k x) o p a b h = at_event (rec k (scalar_event x)) o refl p b (omega arith) (ap (λ y. or_else y (bars_l (i + 1) o)) (asks_leaf k i (ltb i l.room) (placed l.text (scalar_event x))))
    node-front i s ss (alias k x) o p a b h = at_event (rec k (RecursiveAlias x)) o refl p b (omega arith) (ap (λ y. or_else y (bars_l (i + 1) o)) (asks_slot k i (ltb i l.room)))
    node-front i s ss (seq k x ns) o p a b h =
        let d = l.deep - level_l o in
        let e : d - 1 ≡ l.deep - suc (level_l o) = omega arith in
        let f : i + suc (sizes ns) ≡ i + 1 + sizes ns = omega arith in
        at_event (rec k (seq_event x)) (element ns o) refl (ap (λ y. Element ∷ y) p) (a, b) (omega arith)
        (or_assoc (start_at l d i k (seq_event x)) (barss l (d - 1) (i + 1) ns) (bars_l (i + suc (sizes ns)) o)
        ∙ ap₂ or_else (asks_start k i (ltb i l.room) (placed l.text (seq_event x)) (ltb 0 d)) (ap₂ (λ y z. or_else (barss l y (i + 1) ns) (bars_l z o)) e f))
    node-front i s ss (dict k x ps) o p a b h =
        let d = l.deep - level_l o in
        let e : d - 1 ≡ l.deep - suc (level_l o) = omega arith in
        let f : i + suc (sizep ps) ≡ i + 1 + sizep ps = omega arith in
        at_event (rec k (map_event x)) (key ps o) refl (ap (λ y. Key ∷ y) p) (a, b) (omega arith)
        (or_assoc (start_at l d i k (map_event x)) (barsp l (d - 1) (i + 1) ps) (bars_l (i + suc (sizep ps)) o)
        ∙ ap₂ or_else (asks_start k i (ltb i l.room) (placed l.text (map_event x)) (ltb 0 d)) (ap₂ (λ y z. or_else (barsp l y (i + 1) ps) (bars_l z o)) e f))
    node-front i s ss (cut ended) o p a b h = at_end refl
    node-front i s ss (cut (stray k e r)) o p a b h = at_stray (rec k (end_event e)) r (h k e r refl) refl

    moved : {i : ℕ} {s : Spot} {ss : List Spot} {d : ℕ} {b b' : Option Bar} {n n' : ℕ} {es : List Record} → Front rest i s ss d b n es → b ≡ b' → n ≡ n' → Front rest i s ss d b' n' es
    moved {i} {s} {ss} {d} {b} {b'} {n} {n'} {es} f p q = subst₂ (λ x y. Front rest i s ss d x y es) p q f

    anywhere : (e : End) → (misplaced Start (end_event e) ≡ true) × (misplaced Value (end_event e) ≡ true)
    anywhere seq_end = (refl, refl)
    anywhere map_end = (refl, refl)

    no-seq-end : (k : Mark) (e : End) (r : List Record) → cut_at seq_end (cut (stray k e r)) ≡ false → misplaced Element (end_event e) ≡ true
    no-seq-end k seq_end r h = absurd (true≢false h)
    no-seq-end k map_end r h = refl

    no-map-end : (k : Mark) (e : End) (r : List Record) → cut_at map_end (cut (stray k e r)) ≡ false → misplaced Key (end_event e) ≡ true
    no-map-end k seq_end r h = refl
    no-map-end k map_end r h = absurd (true≢false h)

    pub left-front : (i : ℕ) (o : Left) → is_done (spot_l o) ≡ false → SoundL o → Front rest i (spot_l o) (around_l o) (l.deep - level_l o) (bars_l i o) (size_l o) (flat_l o rest)
    left-front i nothing h s = absurd (true≢false h)
    left-front i (start t) h s = node-front i Start [] t nothing refl s tt (λ k e r q. (anywhere e).0)
    left-front i (element (none k) o) h s = at_event (rec k SeqEnd) o refl refl s.1 (omega arith) (ap (λ y. or_else y (bars_l (i + 1) o)) (asks_slot k i (ltb i l.room)))
    left-front i (element (more n ns) o) h s =
        let d = l.deep - suc (level_l o) in
        let f : i + size n + sizes ns ≡ i + (size n + sizes ns) = omega arith in
        moved (node-front i Element (spots_l o) n (element ns o) refl s.0.1 (sounds_rest n ns s.0, s.1) (λ k e r q. no-seq-end k e r (ap (cut_at seq_end) (sym q) ∙ s.0.0)))
        (sym (or_assoc (bars l d i n) (barss l d (i + size n) ns) (bars_l (i + (size n + sizes ns)) o) ∙ ap (λ z. or_else (bars l d i n) (or_else (barss l d (i + size n) ns) (bars_l z o))) (sym f)))
        (omega arith)
    left-front i (key (done k) o) h s = at_event (rec k MapEnd) o refl refl s.1 (omega arith) (ap (λ y. or_else y (bars_l (i + 1) o)) (asks_slot k i (ltb i l.room)))
    left-front i (key (pair x v ps) o) h s =
        let d = l.deep - suc (level_l o) in
        let f : i + size x + size v + sizep ps ≡ i + (size x + size v + sizep ps) = omega arith in
        let tail = bars_l (i + (size x + size v + sizep ps)) o in
        moved (node-front i Key (spots_l o) x (value v ps o) refl s.0.1 (soundp_next x v ps s.0, soundp_rest x v ps s.0, s.1) (λ k e r q. no-map-end k e r (ap (cut_at map_end) (sym q) ∙ s.0.0)))
        (sym (or_assoc (bars l d i x) _ tail
        ∙ ap (or_else (bars l d i x)) (or_assoc (bars l d (i + size x) v) (barsp l d (i + size x + size v) ps) tail
        ∙ ap (λ z. or_else (bars l d (i + size x) v) (or_else (barsp l d (i + size x + size v) ps) (bars_l z o))) (sym f))))
        (omega arith)
    left-front i (value v ps o) h s = node-front i Value (spots_l o) v (key ps o) refl s.0 (s.1, s.2) (λ k e r q. (anywhere e).1)
