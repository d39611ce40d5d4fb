-- What a look at a source shows of a node.
use Rattle.std.proofs.Common.{◌≡◌, ℕ, Bool, true, false, cond, List, [], ◌∷◌, Some, None as Nothing, Ok, Err, Option, Result, refl, ap, ◌∙◌, subst}
use Rattle.records.specs.declared.record.Event.TheVariants.{RecursiveAlias}
use Rattle.records.specs.declared.record.Record.{Record}
use Rattle.records.specs.declared.refusal.Reason.TheVariants.{UnknownAlias}
use Rattle.records.specs.declared.refusal.Refusal.{Refusal}
use Rattle.events.specs.Meaning.{Close, known, nulled, unknown_alias, there, front, tail, peeked, settled}
use Rattle.nodes.specs.Tree.{Mark, Node, rec, scalar_event, seq_event, map_event, flat, flats, flatp, whole}
use Rattle.nodes.specs.Tree.Node.{scalar, alias, seq, dict, cut}
use Rattle.nodes.specs.Reading.{refusal}
use Rattle.nodes.specs.Fields.{null_for, resolved}
use Rattle.nodes.specs.Collect.{Stop, unknown_at}
use Rattle.nodes.specs.Looking.{LookingResolves}

-- what is shown of a node, by whether an unknown alias is refused
abbrev Shown : Bool → Node → List Record → Result (Option Record) Refusal → Option Stop → Type 0
Shown d t rest p Nothing = (r : Record) × (behind : List Record) × (flat (resolved d t) [] ≡ r ∷ behind) × (p ≡ Ok (Some r)) × (r ∷ tail (flat t rest) ≡ flat (resolved d t) rest)
Shown d t rest p (Some s) = p ≡ Err s.why

shown_alias : (k : Mark) (a i : ℕ) (rest : List Record) (q : Bool)
    → Shown false (alias k a) rest (there (cond q (Ok (nulled (rec k (RecursiveAlias a)) a)) (Err (unknown_alias (rec k (RecursiveAlias a)))))) (cond q Nothing (Some (record { why = refusal UnknownAlias k.location; taken = i; looked = false })))
shown_alias k a i rest true = (rec k (scalar_event (null_for a)), [], refl, refl, refl)
shown_alias k a i rest false = refl

shown : (d : Bool) (ks : List ℕ) (c : Close) (i : ℕ) (t : Node) (rest : List Record) → whole t ≡ true → Shown d t rest (front d ks c (flat t rest)) (unknown_at d ks i t)
shown true ks c i (scalar k x) rest w = (rec k (scalar_event x), [], refl, refl, refl)
shown false ks c i (scalar k x) rest w = (rec k (scalar_event x), [], refl, refl, refl)
shown true ks c i (alias k a) rest w = (rec k (RecursiveAlias a), [], refl, refl, refl)
shown false ks c i (alias k a) rest w = shown_alias k a i rest (known a ks)
shown true ks c i (seq k h ns) rest w = (rec k (seq_event h), flats ns [], refl, refl, refl)
shown false ks c i (seq k h ns) rest w = (rec k (seq_event h), flats ns [], refl, refl, refl)
shown true ks c i (dict k h ps) rest w = (rec k (map_event h), flatp ps [], refl, refl, refl)
shown false ks c i (dict k h ps) rest w = (rec k (map_event h), flatp ps [], refl, refl, refl)
shown true ks c i (cut x) rest w = cc
shown false ks c i (cut x) rest w = cc

pub looking_resolves : LookingResolves
looking_resolves m t rest i w e =
    let d = m.deferring in
    let p : peeked m ≡ front d m.anchors m.close (flat t rest) = ap (front d m.anchors m.close) e in
    let h = shown d m.anchors m.close i t rest w in (
      λ s u. p ∙ subst (Shown d t rest (front d m.anchors m.close (flat t rest))) u h,
      λ u. let (r, behind, first, shows, leaves) = subst (Shown d t rest (front d m.anchors m.close (flat t rest))) u h in
          (r, behind, first, p ∙ shows, ap (λ x. (settled x m).events) (p ∙ shows) ∙ ap (λ es. r ∷ tail es) e ∙ leaves),
    )
