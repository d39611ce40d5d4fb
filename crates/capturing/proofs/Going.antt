-- The loop of a capture: what is taken and stored so far, and what each turn makes of it.
use Rattle.std.proofs.Common.{◌≡◌, ℕ, ◌+◌, ◌-◌, ◌<◌, ◌≤◌, Bool, true, false, cond, ltb, List, [], ◌∷◌, ◌++◌, length, take, drop, Some, None, Ok, Err, Option, Result, sym, refl, ap, ◌∙◌, subst, ap₂, subst₂, append_assoc, arith, drop-drop, take-add}
use Rattle.std.proofs.lemmas.List.{append-nil, take-take, take_at, take_more_set, length-take-le, length-reverse}
use Rattle.std.proofs.lemmas.Bool.{true≢false, ltb-true}
use Rattle.arrayvec.specs.ArrayVec.{array_vec_len}
use Rattle.records.specs.declared.record.Event.{Event}
use Rattle.records.specs.declared.record.Record.{Record}
use Rattle.records.specs.declared.refusal.Refusal.{Refusal}
use Rattle.events.specs.Meaning.{Meaning, deferred}
use Rattle.nodes.specs.Tree.{Node, Reads, size}
use Rattle.nodes.specs.Reading.{Limits, Bar, last_in, ended_by, closing_of, or_else, bars, barred}
use Rattle.nodes.specs.Taking.{past}
use Rattle.nodes.proofs.Flats.{take_flat}
use Rattle.nodes.proofs.Fits.{passed}
use Rattle.nodes.proofs.Taken.{past_more, closing_past}
use Rattle.nodes.proofs.Readings.{read, read_reads, reads_unique}
use Rattle.capturing.specs.declared.captured.Captured.{Captured}
use Rattle.capturing.specs.declared.path.Path.{Path}
use Rattle.capturing.specs.declared.path.Spot.TheVariants.{Start}
use Rattle.capturing.specs.Capturing.{limits_of, Stored, By, Captures}
use Rattle.capturing.specs.Paths.{spots_of, is_done, follow, misplaced, asked}
use Rattle.capturing.specs.Storing.{StoredOne, RefusedOne, none_comes, one_comes}
use Rattle.capturing.proofs.Asks.{ltb_less, ltb_more}
use Rattle.capturing.proofs.Lefts.{Left, nothing, start, element, key, value, flat_l, size_l, level_l, spot_l, around_l, spots_l, around_length, SoundL, bars_l, Front, left-front}
use Rattle.capturing.proofs.Turns.{Fine, fine_from, told, next_event, no_event, refused_event}

-- of the source m0, which reads as t, so many events are taken and stand behind the first f slots; o is left
pub record Going (m0 : Meaning) (ss0 : List Record) (f text opened : ℕ) (t : Node) (rest : List Record) (m : Meaning) (ss : List Record) (fill : ℕ) (o : Left) : Type 0 where
  pub taken : ℕ
  pub reads : Reads m0.events t rest
  pub room : f ≤ length ss0
  pub filled : fill ≡ f + taken
  pub source : m ≡ past taken m0
  pub comes : drop taken m0.events ≡ flat_l o rest
  pub sound : SoundL o
  pub held : take fill ss ≡ take f ss0 ++ take taken m0.events
  pub bar : barred (limits_of ss0 f text opened m0) t ≡ bars_l (limits_of ss0 f text opened m0) taken o
  pub count : taken + size_l o ≡ size t

or_none : (a : Option Bar) → a ≡ or_else a None
or_none None = refl
or_none (Some b) = refl

begun : (m0 : Meaning) (ss0 : List Record) (f text opened : ℕ) → f ≤ length ss0
    → Going m0 ss0 f text opened (read m0.events).0 (read m0.events).1 m0 ss0 f (start (read m0.events).0)
begun m0 ss0 f text opened h =
    let l = limits_of ss0 f text opened m0 in
    let t = (read m0.events).0 in
    let r = read_reads m0.events in
    let e : l.deep ≡ l.deep - 0 = omega arith in
    record {
      taken = 0;
      reads = r;
      room = h;
      filled = omega arith;
      source = refl;
      comes = r.is;
      sound = r.sound;
      held = sym (append-nil (take f ss0));
      bar = ap (λ x. bars l x 0 t) e ∙ or_none (bars l (l.deep - 0) 0 t);
      count = omega arith;
    }

-- the spot and the level of a path
pub at_spot : (q : Path) (o : Left) → spots_of q ≡ spots_l o → q.spot ≡ spot_l o
at_spot q o e = cc

pub at_level : (q : Path) (o : Left) → spots_of q ≡ spots_l o → array_vec_len q.around ≡ level_l o
at_level q o e = let h = ap length e in omega (arith, length-reverse q.around.items, around_length o)

done_is : (o : Left) → is_done (spot_l o) ≡ true → o ≡ nothing
done_is nothing h = refl
done_is (start t) h = absurd (true≢false (sym h))
done_is (element ns o) h = absurd (true≢false (sym h))
done_is (key ps o) h = absurd (true≢false (sym h))
done_is (value v ps o) h = absurd (true≢false (sym h))

module _ {m0 : Meaning} {ss0 : List Record} {f text opened : ℕ} {t : Node} {rest : List Record} {m : Meaning} {ss : List Record} {fill : ℕ} {o : Left} (g : Going m0 ss0 f text opened t rest m ss fill o) where
  abbrev L : Limits
  L = limits_of ss0 f text opened m0

  -- whatever is answered, the slots that were filled stay
  kept : take f ss ≡ take f ss0
  kept =
      sym (take-take f fill ss (omega (arith, g.filled)))
      ∙ ap (take f) g.held
      ∙ take_at (take f ss0) (take g.taken m0.events) f (length-take-le f ss0 g.room)

  refuses : (b : Bar) (e : Refusal) (m' : Meaning) (ss' : List Record) → barred L t ≡ Some b → e ≡ b.why → m' ≡ past b.taken m0 → ss' ≡ ss → Captures L m0 ss0 f (Err e) m' ss' f
  refuses b e m' ss' h w p q u r rd =
      let same-tree = (reads_unique m0.events t u rest r g.reads rd).0 in
      subst (λ x. By m0 ss0 f u x (Err e) m' ss' f) (sym (ap (barred L) (sym same-tree) ∙ h))
      (record { why = w; filled = refl; holds = ap (take f) q ∙ kept; left = p })

  -- nothing is left: the node is read
  stores : o ≡ nothing → Captures L m0 ss0 f (Ok (record { first = f; count = fill - f })) m ss fill
  stores e u r rd =
      let c : Captured = record { first = f; count = fill - f } in
      let none : barred L t ≡ None = g.bar ∙ ap (bars_l L g.taken) e in
      let n : g.taken ≡ size t = omega (arith, g.count, ap size_l e) in
      let w = (passed L L.deep 0 t none).whole in
      let st : Stored m0 ss0 f t c m ss fill = record {
        first = refl;
        count = omega (arith, g.filled);
        filled = omega (arith, g.filled);
        holds = g.held ∙ ap (λ x. take f ss0 ++ x) (ap₂ take n g.reads.is ∙ take_flat t rest w);
        left = g.source ∙ ap (λ x. past x m0) n;
      } in
      let same-tree = (reads_unique m0.events t u rest r g.reads rd).0 in
      subst (λ v. By m0 ss0 f v (barred L v) (Ok c) m ss fill) same-tree (subst (λ x. By m0 ss0 f t x (Ok c) m ss fill) (sym none) st)

-- the loop's invariant: the path stands where what is left begins
pub record Loop (m0 : Meaning) (ss0 : List Record) (f text opened : ℕ) (m : Meaning) (ss : List Record) (fill : ℕ) (path : Path) : Type 0 where
  pub node : Node
  pub rest : List Record
  pub left : Left
  pub going : Going m0 ss0 f text opened node rest m ss fill left
  pub spots : spots_of path ≡ spots_l left
  pub on : is_done path.spot ≡ false

pub begin : {m0 : Meaning} {ss0 : List Record} {f text opened : ℕ} (path : Path) → f ≤ length ss0 → spots_of path ≡ Start ∷ [] → Loop m0 ss0 f text opened m0 ss0 f path
begin {m0} {ss0} {f} {text} {opened} path h p =
    let t = (read m0.events).0 in
    record {
      node = t;
      rest = (read m0.events).1;
      left = start t;
      going = begun m0 ss0 f text opened h;
      spots = p;
      on = ap is_done (at_spot path (start t) p);
    }

module _ {m0 : Meaning} {ss0 : List Record} {f text opened : ℕ} {m : Meaning} {ss : List Record} {fill : ℕ} {path : Path} (h : Loop m0 ss0 f text opened m ss fill path) (same : length ss ≡ length ss0) where
  module _ {deep long level : ℕ} (deeps : deep ≡ 64 - opened) (longs : long ≡ text) (levels : level ≡ array_vec_len path.around) where
    abbrev low : Bool
    low = ltb level deep

    here : path.spot ≡ spot_l h.left
    here = at_spot path h.left h.spots

    front-here : Front (limits_of ss0 f text opened m0) h.rest h.going.taken path.spot (around_l h.left) (64 - opened - level_l h.left) (bars_l (limits_of ss0 f text opened m0) h.going.taken h.left) (size_l h.left) m.events
    front-here =
        let l = limits_of ss0 f text opened m0 in
        let o = h.left in
        let n = h.going.taken in
        subst₂ (λ x es. Front l h.rest n x (around_l o) (l.deep - level_l o) (bars_l l n o) (size_l o) es) (sym here) (sym (ap (λ x. x.events) h.going.source ∙ h.going.comes))
        (left-front l h.rest n o (ap is_done (sym here) ∙ h.on) h.going.sound)

    same_asked : (e : Event) → asked path.spot (ltb fill (length ss)) long low e ≡ asked path.spot (ltb h.going.taken (length ss0 - f)) text (ltb 0 (64 - opened - level_l h.left)) e
    same_asked e =
        ap (λ n. asked path.spot (ltb fill (length ss)) n low e) longs
        ∙ ap₂ (λ a b. asked path.spot a text b e)
        (ap₂ ltb h.going.filled same ∙ ltb_more f h.going.taken (length ss0) h.going.room)
        (ap₂ ltb (levels ∙ at_level path h.left h.spots) deeps ∙ sym (ltb_less (64 - opened) (level_l h.left)))

    pub turn-refused : {e : Refusal} {m' : Meaning} {ss' : List Record} → RefusedOne path.spot long low m ss fill e m' ss' → Captures (limits_of ss0 f text opened m0) m0 ss0 f (Err e) m' ss' f
    turn-refused {e} {m'} {ss'} (none_comes q p z) =
        let g = h.going in
        let (a, b, d) = no_event _ _ _ _ _ _ _ _ front-here m.close m.last e q in
        let why = b ∙ ap (λ es. ended_by m.close (last_in m.last es)) (sym a) ∙ ap closing_of g.source ∙ closing_past g.taken m0 in
        refuses g (record { why = closing_of m0; taken = g.taken }) e m' ss' (g.bar ∙ d) why (p ∙ g.source) z
    turn-refused {e} {m'} {ss'} (one_comes r why q x k p z) =
        let g = h.going in
        let n : ℕ = cond (misplaced path.spot r.event) 1 0 in
        let b = refused_event _ _ _ _ _ _ _ _ front-here m.close m.last r why q (k ∙ same_asked r.event) in
        refuses g (told path.spot g.taken why r) e m' ss' (g.bar ∙ b) x (p ∙ ap (past n) g.source ∙ past_more g.taken n m0) z

    module _ {e : Event} {m' : Meaning} {ss' : List Record} {f' : ℕ} (k : StoredOne path.spot long low m ss fill e m' ss' f') where
      fine : Fine path.spot (ltb fill (length ss)) long low k.first.event
      fine = fine_from path.spot (ltb fill (length ss)) long low k.first.event k.fine

      free : fill < length ss
      free = ltb-true fill (length ss) fine.free_slot

      gone_on : (o : Left) × Going m0 ss0 f text opened h.node h.rest m' ss' f' o × (spots_l o ≡ follow (spots_of path) e)
      gone_on =
          let g = h.going in
          let r = k.first in
          let n = g.taken in
          let nx = next_event _ _ _ _ _ _ _ _ front-here m.close m.last r k.comes (k.fine ∙ same_asked r.event) in
          let comes : drop n m0.events ≡ r ∷ flat_l nx.on h.rest = sym (ap (λ x. x.events) g.source) ∙ nx.is in
          let going : Going m0 ss0 f text opened h.node h.rest m' ss' f' nx.on = record {
            taken = n + 1;
            reads = g.reads;
            room = g.room;
            filled = omega (arith, k.fill, g.filled);
            source = k.left ∙ ap (past 1) g.source ∙ past_more n 1 m0;
            comes = sym (drop-drop 1 n m0.events) ∙ ap (drop 1) comes;
            sound = nx.sound;
            held =
                ap₂ take k.fill k.slots
                ∙ take_more_set ss fill r free
                ∙ ap (λ x. x ++ r ∷ []) g.held
                ∙ append_assoc (take f ss0) (take n m0.events) (r ∷ [])
                ∙ ap (λ x. take f ss0 ++ x) (sym (take-add n 1 m0.events ∙ ap (λ x. take n m0.events ++ take 1 x) comes));
            bar = g.bar ∙ nx.bars;
            count = omega (arith, g.count, nx.count);
          } in
          (nx.on, going, nx.spots ∙ ap₂ (λ a b. follow (a ∷ around_l h.left) b) here (sym k.is) ∙ ap (λ x. follow x e) (sym h.spots))

      module _ (path' : Path) {last : Bool} (ends : last ≡ is_done path'.spot) (steps : spots_of path' ≡ follow (spots_of path) e) where
        pub turn_on : last ≡ false → Loop m0 ss0 f text opened m' ss' f' path'
        turn_on b = let (o, g, p) = gone_on in record { node = h.node; rest = h.rest; left = o; going = g; spots = steps ∙ sym p; on = sym ends ∙ b }

        pub turn_last : last ≡ true → Captures (limits_of ss0 f text opened m0) m0 ss0 f (Ok (record { first = f; count = f' - f })) m' ss' f'
        turn_last b =
            let (o, g, p) = gone_on in
            let d = done_is o (ap is_done (sym (at_spot path' o (steps ∙ sym p))) ∙ sym ends ∙ b) in
            stores g d

-- with the deferral as it was
by_restored : (m : Meaning) (ss : List Record) (f : ℕ) (t : Node) (o : Option Bar) (r : Result Captured Refusal) (m2 : Meaning) (ss' : List Record) (f' : ℕ) → By (deferred true m) ss f t o r m2 ss' f' → By m ss f t o r (deferred m.deferring m2) ss' f'
by_restored m ss f t None (Ok c) m2 ss' f' k = record { first = k.first; count = k.count; filled = k.filled; holds = k.holds; left = ap (deferred m.deferring) k.left }
by_restored m ss f t None (Err e) m2 ss' f' k = k
by_restored m ss f t (Some b) (Ok c) m2 ss' f' k = k
by_restored m ss f t (Some b) (Err e) m2 ss' f' k = record { why = k.why; filled = k.filled; holds = k.holds; left = ap (deferred m.deferring) k.left }

pub restored : (m m2 : Meaning) (ss : List Record) (f text opened : ℕ) {m1 m3 : Meaning} {old : Bool} {r r' : Result Captured Refusal} {ss' ss'' : List Record} {f' f'' : ℕ} → Captures (limits_of ss f text opened m1) m1 ss f r m2 ss' f' → m1 ≡ deferred true m → old ≡ m.deferring
    → m3 ≡ deferred old m2 → r' ≡ r → ss'' ≡ ss' → f'' ≡ f' → Captures (limits_of ss f text opened m) m ss f r' m3 ss'' f''
restored m m2 ss f text opened {m1} {m3} {old} {r} {r'} {ss'} {ss''} {f'} {f''} k e1 o e3 rs ses fs t rest h =
    let k' = subst (λ x. Captures (limits_of ss f text opened x) x ss f r m2 ss' f') e1 k t rest h in
    let l = limits_of ss f text opened m in
    let b = by_restored m ss f t (barred l t) r m2 ss' f' k' in
    subst (λ x. By m ss f t (barred l t) r' x ss'' f'') (sym (e3 ∙ ap (λ d. deferred d m2) o))
    (subst (λ x. By m ss f t (barred l t) x (deferred m.deferring m2) ss'' f'') (sym rs)
    (subst₂ (λ x y. By m ss f t (barred l t) r (deferred m.deferring m2) x y) (sym ses) (sym fs) b))
