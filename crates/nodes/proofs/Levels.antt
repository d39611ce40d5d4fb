-- Events that are taken within the limits, and how many containers are open behind them.
use Rattle.std.proofs.Common.{◌≡◌, ℕ, suc, ◌+◌, ◌-◌, ◌<◌, ◌≤◌, true, List, [], ◌∷◌, ◌++◌, length, take, None, sym, refl, ap, ◌∙◌, subst, ⊎_elim, append_assoc, arith}
use mathlib.Core.Path.{subst₃}
use lib.Seq.{take-nil}
use Rattle.std.specs.List.{AllByRecursion}
use Rattle.std.proofs.lemmas.List.{length_push, take-append-le, take_all}
use Rattle.std.proofs.lemmas.List.Elements.{All-push, All-from_recursion, recursion_from_All}
use Rattle.std.proofs.lemmas.List.Sums.{fold_push}
use Rattle.std.proofs.lemmas.Bool.{cases_lt}
use Rattle.records.specs.declared.record.Event.TheVariants.{SeqEnd, MapEnd, RecursiveAlias}
use Rattle.records.specs.declared.record.Record.{Record}
use Rattle.records.specs.Places.{placed}
use Rattle.nodes.specs.Tree.{Node, Nodes, Pairs, rec, scalar_event, seq_event, map_event, flat, flats, flatp, size, sizes, sizep}
use Rattle.nodes.specs.Tree.Node.{scalar, alias, seq, dict, cut}
use Rattle.nodes.specs.Tree.Nodes.{none, more}
use Rattle.nodes.specs.Tree.Pairs.{done, pair}
use Rattle.nodes.specs.Reading.{Limits, opens, opened_from, opened, start_at, bars, barss, barsp}
use Rattle.nodes.proofs.Fits.{neither, slot_free, place_lies, start_free, passed}
use Rattle.nodes.proofs.Gaps.{past_node}

-- one more event
pub opened_push : (n : ℕ) (xs : List Record) (r : Record) → opened_from n (xs ++ r ∷ []) ≡ opens (opened_from n xs) r.event
opened_push n xs r = grind (arith, fold_push)

module _ (l : Limits) where
  -- i events were taken, and d containers may still be opened
  pub record Within (d i : ℕ) (front : List Record) : Type 0 where
    pub count : length front ≡ i
    pub short : i ≤ l.room
    pub inside : AllByRecursion (λ r. placed l.text r.event ≡ true) front
    pub low : (n : ℕ) → opened (take n front) ≤ l.deep
    pub level : opened front + d ≡ l.deep

  pub none_taken : Within l.deep 0 []
  none_taken = record { count = refl; short = omega arith; inside = tt; low = λ n. subst (λ x. opened x ≤ l.deep) (sym (take-nil n)) (omega arith); level = omega arith }

  pub one_more : {d i : ℕ} {front : List Record} → Within d i front → (r : Record) (c : ℕ) → i < l.room → placed l.text r.event ≡ true → opens (opened front) r.event + c ≡ l.deep → Within c (i + 1) (front ++ r ∷ [])
  one_more {d} {i} {front} s r c h p e =
      let o = opened_push 0 front r in
      record {
        count = length_push front r ∙ ap (λ n. n + 1) s.count;
        short = omega arith;
        inside = recursion_from_All _ _ (All-push (λ x. placed l.text x.event ≡ true) front r (All-from_recursion _ _ s.inside) p);
        low = λ n. ⊎_elim
            (λ a. subst (λ x. opened x ≤ l.deep) (sym (take-append-le n front (r ∷ []) (omega (arith, s.count)))) (s.low n))
            (λ b. subst (λ x. opened x ≤ l.deep) (sym (take_all n (front ++ r ∷ []) (let z = length_push front r in omega (arith, s.count)))) (omega arith))
            (cases_lt n (i + 1));
        level = omega arith;
      }

  moved : {d d' i i' : ℕ} {xs ys : List Record} → Within d i xs → d ≡ d' → i ≡ i' → xs ≡ ys → Within d' i' ys
  moved s a b c = subst₃ Within a b c s

  -- so is each event of a node that nothing bars
  mutual
    pub node-taken : {d i : ℕ} {front : List Record} (t : Node) → Within d i front → bars l d i t ≡ None → Within d (i + size t) (front ++ flat t [])
    node-taken {d} {i} {front} (scalar k x) s h = grind (arith, one_more s (rec k (scalar_event x)) d, slot_free, place_lies)
    node-taken {d} {i} {front} (alias k a) s h = one_more s (rec k (RecursiveAlias a)) d (slot_free l i k h) refl s.level
    node-taken {d} {i} {front} (seq k x ns) s h =
        let (a, b) = neither (start_at l d i k (seq_event x)) _ h in
        let f = start_free l d i k (seq_event x) a in
        let s' = one_more s (rec k (seq_event x)) (d - 1) f.free f.lies (omega (arith, s.level, f.low)) in
        let o = opened_push 0 front (rec k (seq_event x)) in
        moved (nodes-taken ns s' (omega arith) b) (omega (arith, f.low)) (omega arith) (append_assoc front _ _)
    node-taken {d} {i} {front} (dict k x ps) s h =
        let (a, b) = neither (start_at l d i k (map_event x)) _ h in
        let f = start_free l d i k (map_event x) a in
        let s' = one_more s (rec k (map_event x)) (d - 1) f.free f.lies (omega (arith, s.level, f.low)) in
        let o = opened_push 0 front (rec k (map_event x)) in
        moved (pairs-taken ps s' (omega arith) b) (omega (arith, f.low)) (omega arith) (append_assoc front _ _)
    node-taken (cut c) s h = cc

    pub nodes-taken : {d i : ℕ} {front : List Record} (ns : Nodes) → Within d i front → 0 < opened front → barss l d i ns ≡ None → Within (suc d) (i + sizes ns) (front ++ flats ns [])
    nodes-taken {d} {i} {front} (none k) s o h = grind (arith, one_more s (rec k SeqEnd) (suc d), slot_free)
    nodes-taken {d} {i} {front} (more n ns) s o h =
        let (a, b) = neither (bars l d i n) _ h in
        let s' = node-taken n s a in
        moved (nodes-taken ns s' (omega (arith, s.level, s'.level)) b) refl (omega arith) (sym (past_node front n (flats ns []) (passed l d i n a).whole))

    pub pairs-taken : {d i : ℕ} {front : List Record} (ps : Pairs) → Within d i front → 0 < opened front → barsp l d i ps ≡ None → Within (suc d) (i + sizep ps) (front ++ flatp ps [])
    pairs-taken {d} {i} {front} (done k) s o h = grind (arith, one_more s (rec k MapEnd) (suc d), slot_free)
    pairs-taken {d} {i} {front} (pair k v ps) s o h =
        let (a, h') = neither (bars l d i k) _ h in
        let (b, c) = neither (bars l d (i + size k) v) _ h' in
        let s' = node-taken k s a in
        let s'' = node-taken v s' b in
        moved (pairs-taken ps s'' (omega (arith, s.level, s''.level)) c) refl (omega arith)
        (sym (past_node front k (flat v (flatp ps [])) (passed l d i k a).whole ∙ past_node (front ++ flat k []) v (flatp ps []) (passed l d (i + size k) v b).whole))
