-- A reading that breaks off does so for the reason that it gives.
use Rattle.std.proofs.Common.{◌≡◌, ℕ, ◌+◌, ◌-◌, Bool, true, false, cond, ltb, ◌⊎◌, List, [], ◌∷◌, ◌++◌, length, Some, None, Option, sym, refl, ap, ◌∙◌, subst, ⊎_elim, append_assoc, append-nil, arith}
use Rattle.std.proofs.lemmas.Bool.{ltb-false}
use Rattle.records.specs.declared.record.Event.{Event}
use Rattle.records.specs.declared.record.Event.TheVariants.{SeqEnd, MapEnd, RecursiveAlias}
use Rattle.records.specs.declared.record.Record.{Record}
use Rattle.records.specs.declared.refusal.Reason.TheVariants.{UnexpectedContainerEnd, RackFull, PlaceOutsideRackText, TooDeep}
use Rattle.records.specs.Places.{placed}
use Rattle.nodes.specs.Tree.{Mark, End, Cut, Node, Nodes, Pairs, rec, scalar_event, seq_event, map_event, end_event, flat, flats, flatp, size, no_nodes, no_pairs, Sound, Sounds, Soundp, Reads}
use Rattle.nodes.specs.Tree.End.{seq_end, map_end}
use Rattle.nodes.specs.Tree.Cut.{ended, stray}
use Rattle.nodes.specs.Tree.Node.{scalar, alias, seq, dict, cut}
use Rattle.nodes.specs.Tree.Nodes.{none, more}
use Rattle.nodes.specs.Tree.Pairs.{done, pair}
use Rattle.nodes.specs.Reading.{Limits, Bar, or_else, bar_at, slot_at, place_at, open_at, start_at, cut_off, bars, barss, barsp, barred, Begins, is_start, is_end, SoFar, Why}
use Rattle.nodes.specs.Reading.Why.{early, misplaced, full, outside, too_deep}
use Rattle.nodes.proofs.Sounds.{sounds_behind, soundp_value, soundp_behind}
use Rattle.nodes.proofs.Fits.{slot_free, place_lies, start_free, passed}
use Rattle.nodes.proofs.Gaps.{Spot, NodeGap, NodesGap, PairsGap, stops, filler, at_start, in_seq, in_dict, at_element, past_element, at_key, at_value, past_pair, past_node, begun_with, never_begun}
use Rattle.nodes.proofs.Gaps.Spot.{anywhere, before}
use Rattle.nodes.proofs.Levels.{Within, none_taken, one_more, node-taken}

-- the first question that is answered with no
no_from : (q : Bool) (x b : Bar) → cond q None (Some x) ≡ Some b → (q ≡ false) × (x ≡ b)
no_from q x b h = grind arith

either : (a b : Option Bar) (c : Bar) → or_else a b ≡ Some c → (a ≡ Some c) ⊎ ((a ≡ None) × (b ≡ Some c))
either a b c h = grind arith

end_is_end : (e : End) → is_end (end_event e) ≡ true
end_is_end e = grind arith

module _ (l : Limits) (es : List Record) where
  so_far : {d i : ℕ} {front : List Record} → Within l d i front → (r : Record) × Begins (front ++ r ∷ []) → SoFar l front
  so_far s b = record { begun = b; short = omega (arith, s.count, s.short); inside = s.inside; low = s.low }

  -- the events `front` were taken, and r is next, of a node
  record Next (front : List Record) (r : Record) : Type 0 where
    rest : List Record
    is : es ≡ front ++ r ∷ rest
    begins : Begins (front ++ r ∷ [])

  module _ (d i : ℕ) (front : List Record) (s : Within l d i front) (k : Mark) (e : Event) (x : Next front (rec k e)) (b : Bar) where
    why-slot : slot_at l i k ≡ Some b → Why l es b
    why-slot h =
        let (q, z) = no_from (ltb i l.room) (bar_at RackFull k i) b h in
        subst (Why l es) (ap (bar_at RackFull k) s.count ∙ z)
        (full front (rec k e) x.rest x.is (so_far s (rec k e, x.begins)) x.begins (omega (arith, s.count, s.short, ltb-false i l.room q)))

    why-place : slot_at l i k ≡ None → place_at l i k e ≡ Some b → Why l es b
    why-place f h =
        let (q, z) = no_from (placed l.text e) (bar_at PlaceOutsideRackText k i) b h in
        subst (Why l es) (ap (bar_at PlaceOutsideRackText k) s.count ∙ z)
        (outside front (rec k e) x.rest x.is (so_far s (rec k e, x.begins)) x.begins (omega (arith, s.count, slot_free l i k f)) q)

    why-open : is_start e ≡ true → slot_at l i k ≡ None → place_at l i k e ≡ None → open_at d i k ≡ Some b → Why l es b
    why-open t f p h =
        let (q, z) = no_from (ltb 0 d) (bar_at TooDeep k i) b h in
        subst (Why l es) (ap (bar_at TooDeep k) s.count ∙ z)
        (too_deep front (rec k e) x.rest x.is (so_far s (rec k e, x.begins)) x.begins (omega (arith, s.count, slot_free l i k f)) (place_lies l i k e p) t (omega (arith, s.level, ltb-false 0 d q)))

    why-start : is_start e ≡ true → start_at l d i k e ≡ Some b → Why l es b
    why-start t h = ⊎_elim why-slot
        (λ y. ⊎_elim (λ z. why-place y.0 z) (λ z. why-open t y.0 z.0 z.1) (either (place_at l i k e) _ b y.1))
        (either (slot_at l i k) _ b h)

  why_cut : (p : Spot) (d i : ℕ) (front : List Record) → NodeGap p front → Within l d i front → (c : Cut) (r : List Record) → stops p (cut c) ≡ false → es ≡ front ++ flat (cut c) r → Why l es (cut_off l i c)
  why_cut p d i front g s ended r o e =
      let q : es ≡ front = e ∙ append-nil front in
      subst (λ n. Why l es (record { why = l.closing; taken = n })) (ap length q ∙ s.count) (early (subst (SoFar l) (sym q) (so_far s (_, begun_with _ _ _ _ front g filler refl _ _ refl))))
  why_cut p d i front g s (stray k x t) r o e =
      subst (λ n. Why l es (bar_at UnexpectedContainerEnd k (n + 1))) s.count
      (misplaced front (rec k (end_event x)) t e (so_far s (_, begun_with _ _ _ _ front g filler refl _ _ refl)) (end_is_end x) (never_begun p front g k x t o))

  mutual
    why-node : (t : Node) (p : Spot) (d i : ℕ) (front r : List Record) → NodeGap p front → Within l d i front → stops p t ≡ false → Sound t → es ≡ front ++ flat t r → (b : Bar) → bars l d i t ≡ Some b → Why l es b
    why-node (scalar k x) p d i front r g s o v e b h =
        let n : Next front (rec k (scalar_event x)) = record { rest = r; is = e; begins = begun_with _ _ _ _ front g (scalar k x) refl (rec k (scalar_event x)) g.behind refl } in
        ⊎_elim (why-slot d i front s k (scalar_event x) n b) (λ y. why-place d i front s k (scalar_event x) n b y.0 y.1) (either (slot_at l i k) _ b h)
    why-node (alias k a) p d i front r g s o v e b h =
        let n : Next front (rec k (RecursiveAlias a)) = record { rest = r; is = e; begins = begun_with _ _ _ _ front g (alias k a) refl (rec k (RecursiveAlias a)) g.behind refl } in
        why-slot d i front s k (RecursiveAlias a) n b h
    why-node (seq k x ns) p d i front r g s o v e b h =
        let n : Next front (rec k (seq_event x)) = record { rest = flats ns r; is = e; begins = begun_with _ _ _ _ front g (seq k x no_nodes) refl (rec k (seq_event x)) (flats no_nodes g.behind) refl } in
        ⊎_elim (why-start d i front s k (seq_event x) n b refl)
        (λ y. let f = start_free l d i k (seq_event x) y.0 in
        why-nodes ns (d - 1) (i + 1) (front ++ rec k (seq_event x) ∷ []) r (in_seq p front g k x) (one_more l s (rec k (seq_event x)) (d - 1) f.free f.lies (omega (arith, s.level, f.low))) v (e ∙ sym (append_assoc front _ _)) b y.1)
        (either (start_at l d i k (seq_event x)) _ b h)
    why-node (dict k x ps) p d i front r g s o v e b h =
        let n : Next front (rec k (map_event x)) = record { rest = flatp ps r; is = e; begins = begun_with _ _ _ _ front g (dict k x no_pairs) refl (rec k (map_event x)) (flatp no_pairs g.behind) refl } in
        ⊎_elim (why-start d i front s k (map_event x) n b refl)
        (λ y. let f = start_free l d i k (map_event x) y.0 in
        why-pairs ps (d - 1) (i + 1) (front ++ rec k (map_event x) ∷ []) r (in_dict p front g k x) (one_more l s (rec k (map_event x)) (d - 1) f.free f.lies (omega (arith, s.level, f.low))) v (e ∙ sym (append_assoc front _ _)) b y.1)
        (either (start_at l d i k (map_event x)) _ b h)
    why-node (cut c) p d i front r g s o v e b h = let q : cut_off l i c ≡ b = cc in subst (Why l es) q (why_cut p d i front g s c r o e)

    why-nodes : (ns : Nodes) (d i : ℕ) (front r : List Record) → NodesGap front → Within l d i front → Sounds ns → es ≡ front ++ flats ns r → (b : Bar) → barss l d i ns ≡ Some b → Why l es b
    why-nodes (none k) d i front r g s v e b h =
        let n : Next front (rec k SeqEnd) = record { rest = r; is = e; begins = begun_with _ _ _ _ front g (none k) refl (rec k SeqEnd) g.behind refl } in
        why-slot d i front s k SeqEnd n b h
    why-nodes (more t ns) d i front r g s v e b h = ⊎_elim
        (why-node t (before seq_end) d i front (flats ns r) (at_element front g) s v.0 v.1 e b)
        (λ y. let w = (passed l d i t y.0).whole in
        why-nodes ns d (i + size t) (front ++ flat t []) r (past_element front g t w) (node-taken l t s y.0) (sounds_behind t ns v w) (e ∙ past_node front t (flats ns r) w) b y.1)
        (either (bars l d i t) _ b h)

    why-pairs : (ps : Pairs) (d i : ℕ) (front r : List Record) → PairsGap front → Within l d i front → Soundp ps → es ≡ front ++ flatp ps r → (b : Bar) → barsp l d i ps ≡ Some b → Why l es b
    why-pairs (done k) d i front r g s v e b h =
        let n : Next front (rec k MapEnd) = record { rest = r; is = e; begins = begun_with _ _ _ _ front g (done k) refl (rec k MapEnd) g.behind refl } in
        why-slot d i front s k MapEnd n b h
    why-pairs (pair k t ps) d i front r g s v e b h = ⊎_elim
        (why-node k (before map_end) d i front (flat t (flatp ps r)) (at_key front g) s v.0 v.1 e b)
        (λ y. let w = (passed l d i k y.0).whole in
        let s' = node-taken l k s y.0 in
        let e' = e ∙ past_node front k (flat t (flatp ps r)) w in
        ⊎_elim
        (why-node t anywhere d (i + size k) (front ++ flat k []) (flatp ps r) (at_value front g k w) s' refl (soundp_value k t ps v w) e' b)
        (λ z. let u = (passed l d (i + size k) t z.0).whole in
        why-pairs ps d (i + size k + size t) ((front ++ flat k []) ++ flat t []) r (past_pair front g k t w u) (node-taken l t s' z.0) (soundp_behind k t ps v w u) (e' ∙ past_node (front ++ flat k []) t (flatp ps r) u) b z.1)
        (either (bars l d (i + size k) t) _ b y.1))
        (either (bars l d i k) _ b h)

pub barred_why : (l : Limits) (es : List Record) (t : Node) (rest : List Record) → Reads es t rest → (b : Bar) → barred l t ≡ Some b → Why l es b
barred_why l es t rest h b k = why-node l es t anywhere l.deep 0 [] rest at_start (none_taken l) refl h.sound h.is b k
