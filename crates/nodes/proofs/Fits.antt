-- A node is barred by nothing exactly where it is whole and fits.
use Rattle.std.proofs.Common.{◌≡◌, ℕ, ◌+◌, ◌-◌, ◌<◌, ◌≤◌, Bool, true, List, [], None, Option, refl, arith}
use Rattle.std.specs.List.{AllByRecursion}
use Rattle.std.proofs.lemmas.Bool.{and_from}
use Rattle.records.specs.declared.record.Event.{Event}
use Rattle.records.specs.declared.record.Record.{Record}
use Rattle.records.specs.Places.{placed}
use Rattle.nodes.specs.Tree.{Mark, Node, Nodes, Pairs, flat, flats, flatp, size, sizes, sizep, depth, depths, depthp, whole, wholes, wholep, scalar_event, seq_event, map_event}
use Rattle.nodes.specs.Tree.Node.{scalar, alias, seq, dict, cut}
use Rattle.nodes.specs.Tree.Nodes.{none, more}
use Rattle.nodes.specs.Tree.Pairs.{done, pair}
use Rattle.nodes.specs.Reading.{Limits, Bar, or_else, slot_at, place_at, open_at, start_at, bars, barss, barsp, Fits}

-- questions that are answered with yes
pub neither : (a b : Option Bar) → or_else a b ≡ None → (a ≡ None) × (b ≡ None)
neither a b h = grind arith

module _ (l : Limits) where
  abbrev Lies : Record → Type 0
  Lies r = placed l.text r.event ≡ true

  pub slot_free : (i : ℕ) (k : Mark) → slot_at l i k ≡ None → i < l.room
  slot_free i k h = grind arith

  pub place_lies : (i : ℕ) (k : Mark) (e : Event) → place_at l i k e ≡ None → placed l.text e ≡ true
  place_lies i k e h = grind arith

  -- what a start is asked
  pub record Started (d i : ℕ) (e : Event) : Type 0 where
    pub free : i < l.room
    pub lies : placed l.text e ≡ true
    pub low : 0 < d

  pub start_free : (d i : ℕ) (k : Mark) (e : Event) → start_at l d i k e ≡ None → Started d i e
  start_free d i k e h =
      let (a, h') = neither (slot_at l i k) _ h in
      let (b, c) = neither (place_at l i k e) (open_at d i k) h' in
      record { free = slot_free i k a; lies = place_lies i k e b; low = grind arith }

  -- what a node is that nothing bars, with what stands behind it
  pub record Passed (d i : ℕ) (unbroken : Bool) (size depth : ℕ) (flat : List Record → List Record) : Type 0 where
    pub whole : unbroken ≡ true
    pub short : i + size ≤ l.room
    pub low : depth ≤ d
    pub inside : (r : List Record) → AllByRecursion Lies r → AllByRecursion Lies (flat r)

  mutual
    pub passed : (d i : ℕ) (t : Node) → bars l d i t ≡ None → Passed d i (whole t) (size t) (depth t) (flat t)
    passed d i (scalar k x) h =
        let (a, b) = neither (slot_at l i k) _ h in
        let f = slot_free i k a in
        record { whole = refl; short = omega arith; low = omega arith; inside = λ r p. (place_lies i k (scalar_event x) b, p) }
    passed d i (alias k a) h = let f = slot_free i k h in record { whole = refl; short = omega arith; low = omega arith; inside = λ r p. (refl, p) }
    passed d i (seq k h' ns) h =
        let (a, b) = neither (start_at l d i k (seq_event h')) _ h in
        let s = start_free d i k (seq_event h') a in
        let p = passeds (d - 1) (i + 1) ns b in
        record { whole = p.whole; short = omega arith; low = omega arith; inside = λ r q. (s.lies, p.inside r q) }
    passed d i (dict k h' ps) h =
        let (a, b) = neither (start_at l d i k (map_event h')) _ h in
        let s = start_free d i k (map_event h') a in
        let p = passedp (d - 1) (i + 1) ps b in
        record { whole = p.whole; short = omega arith; low = omega arith; inside = λ r q. (s.lies, p.inside r q) }
    passed d i (cut c) h = cc

    pub passeds : (d i : ℕ) (ns : Nodes) → barss l d i ns ≡ None → Passed d i (wholes ns) (sizes ns) (depths ns) (flats ns)
    passeds d i (none k) h = let f = slot_free i k h in record { whole = refl; short = omega arith; low = omega arith; inside = λ r p. (refl, p) }
    passeds d i (more n ns) h =
        let (a, b) = neither (bars l d i n) _ h in
        let p = passed d i n a in
        let q = passeds d (i + size n) ns b in
        record { whole = and_from (whole n) (wholes ns) p.whole q.whole; short = omega arith; low = omega arith; inside = λ r s. p.inside _ (q.inside r s) }

    pub passedp : (d i : ℕ) (ps : Pairs) → barsp l d i ps ≡ None → Passed d i (wholep ps) (sizep ps) (depthp ps) (flatp ps)
    passedp d i (done k) h = let f = slot_free i k h in record { whole = refl; short = omega arith; low = omega arith; inside = λ r p. (refl, p) }
    passedp d i (pair k v ps) h =
        let (a, h') = neither (bars l d i k) _ h in
        let (b, c) = neither (bars l d (i + size k) v) _ h' in
        let p = passed d i k a in
        let q = passed d (i + size k) v b in
        let s = passedp d (i + size k + size v) ps c in
        record { whole = and_from (whole k) _ p.whole (and_from (whole v) (wholep ps) q.whole s.whole); short = omega arith; low = omega arith; inside = λ r z. p.inside _ (q.inside _ (s.inside r z)) }

  -- and nothing bars such a node
  mutual
    pub unbarred : (d i : ℕ) (t : Node) (r : List Record) → whole t ≡ true → i + size t ≤ l.room → depth t ≤ d → AllByRecursion Lies (flat t r) → (bars l d i t ≡ None) × AllByRecursion Lies r
    unbarred d i (scalar k x) r w s h p = grind arith
    unbarred d i (alias k a) r w s h p = grind arith
    unbarred d i (seq k h' ns) r w s h p = grind (arith, unbarreds (d - 1) (i + 1) ns r w)
    unbarred d i (dict k h' ps) r w s h p = grind (arith, unbarredp (d - 1) (i + 1) ps r w)
    unbarred d i (cut c) r w s h p = cc

    pub unbarreds : (d i : ℕ) (ns : Nodes) (r : List Record) → wholes ns ≡ true → i + sizes ns ≤ l.room → depths ns ≤ d → AllByRecursion Lies (flats ns r) → (barss l d i ns ≡ None) × AllByRecursion Lies r
    unbarreds d i (none k) r w s h p = grind arith
    unbarreds d i (more n ns) r w s h p = grind (arith, unbarred d i n (flats ns r), unbarreds d (i + size n) ns r)

    pub unbarredp : (d i : ℕ) (ps : Pairs) (r : List Record) → wholep ps ≡ true → i + sizep ps ≤ l.room → depthp ps ≤ d → AllByRecursion Lies (flatp ps r) → (barsp l d i ps ≡ None) × AllByRecursion Lies r
    unbarredp d i (done k) r w s h p = grind arith
    unbarredp d i (pair k v ps) r w s h p = grind (arith, unbarred d i k (flat v (flatp ps r)), unbarred d (i + size k) v (flatp ps r), unbarredp d (i + size k + size v) ps r)

  pub fits_barred : (t : Node) → Fits l t → bars l l.deep 0 t ≡ None
  fits_barred t f = (unbarred l.deep 0 t [] f.unbroken (let s = f.short in omega arith) f.low f.inside).0

  pub barred_fits : (t : Node) → bars l l.deep 0 t ≡ None → Fits l t
  barred_fits t h =
      let p = passed l.deep 0 t h in
      record { unbroken = p.whole; short = (let s = p.short in omega arith); low = p.low; inside = p.inside [] tt }
