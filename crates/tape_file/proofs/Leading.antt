-- Each event by the word that it begins with.
use Rattle.std.proofs.Common.{◌≡◌, ℕ, cond, List, [], ◌∷◌, ◌++◌, codes, sym, refl, ap, ◌∙◌, subst, append_assoc}
use Rattle.std.specs.Bool.{⊤}
use Rattle.std.specs.Str.{bytes_eq}
use Rattle.records.specs.declared.record.Event.{Event}
use Rattle.records.specs.declared.record.Event.TheVariants.{Scalar, SeqStart, SeqEnd, MapStart, MapEnd, RecursiveAlias}
use Rattle.records.specs.declared.record.Place.{Place}
use Rattle.records.specs.declared.record.ScalarStyle.{ScalarStyle}
use Rattle.tape_file.specs.Lines.{place_words, event_words, style_word, SmallPlace, SmallEvent}
use Rattle.tape_file.specs.Reading.{Whole, Lacks}
use Rattle.tape_file.specs.Heads.{head_words, SmallHead}
use Rattle.tape_file.specs.declared.head.Head.{Head}
use Rattle.tape_file.proofs.Parsing.{Leads}

abbrev first : List (List ℕ) → List ℕ
first [] = []
first (w ∷ ws) = w

-- where the word is w, the type P, and else Q
abbrev At : List ℕ → List ℕ → Type 0 → Type 0 → Type 0
At w lead P Q = cond (bytes_eq w lead) P Q

abbrev Made : {X B : Type 0} → (B → X) → X → Type 0
Made {X} {B} mk y = (b : B) × (mk b ≡ y)

-- what follows the word `scalar`
abbrev pub Body : Type 0
Body = Head × ScalarStyle × Place

abbrev pub body_words : Body → List (List ℕ)
body_words b = head_words b.0 ++ (style_word b.1 ∷ place_words b.2)

abbrev pub SmallBody : Body → Type 0
SmallBody b = SmallHead b.0 × SmallPlace b.2

abbrev scalar : Body → Event
scalar b = Scalar b.0.anchor b.0.tag b.0.raw_tag b.1 b.2

abbrev seq : Head → Event
seq h = SeqStart h.anchor h.tag h.raw_tag

abbrev map : Head → Event
map h = MapStart h.anchor h.tag h.raw_tag

abbrev EventBy : List ℕ → Event → Type 0
EventBy w y = At w (codes "scalar") (Made scalar y) (At w (codes "seq") (Made seq y) (At w (codes "map") (Made map y) (Unit {0})))

event_by : (y : Event) (s : List (List ℕ)) → EventBy (first (event_words y ++ s)) y
event_by (Scalar a t o k v) s = ((record { anchor = a; tag = t; raw_tag = o }, k, v), refl)
event_by (SeqStart a t o) s = (record { anchor = a; tag = t; raw_tag = o }, refl)
event_by SeqEnd s = tt
event_by (MapStart a t o) s = (record { anchor = a; tag = t; raw_tag = o }, refl)
event_by MapEnd s = tt
event_by (RecursiveAlias a) s = tt

event_view : (y : Event) (s ws : List (List ℕ)) (lead : List ℕ) → lead ∷ ws ≡ event_words y ++ s → EventBy lead y
event_view y s ws lead e = subst (λ w. EventBy w y) (sym (ap first e)) (event_by y s)

pub scalar_leads : Leads event_words SmallEvent (codes "scalar") body_words SmallBody scalar
scalar_leads = record { opens = λ b. refl; fits = λ b h. ((h.0, h.1), h.2); back = λ b h. (h.0.0, h.0.1, h.1); view = λ y s ws e. event_view y s ws (codes "scalar") e }

pub seq_leads : Leads event_words SmallEvent (codes "seq") head_words SmallHead seq
seq_leads = record { opens = λ b. refl; fits = λ b h. h; back = λ b h. h; view = λ y s ws e. event_view y s ws (codes "seq") e }

pub map_leads : Leads event_words SmallEvent (codes "map") head_words SmallHead map
map_leads = record { opens = λ b. refl; fits = λ b h. h; back = λ b h. h; view = λ y s ws e. event_view y s ws (codes "map") e }

-- the words of a body, its head first
body_apart : (y : Body) (s ws : List (List ℕ)) → ws ≡ body_words y ++ s → ws ≡ head_words y.0 ++ (style_word y.1 ∷ (place_words y.2 ++ s))
body_apart y s ws e = e ∙ append_assoc (head_words y.0) (style_word y.1 ∷ place_words y.2) s

pub body_lacks_head : {ws : List (List ℕ)} → Lacks head_words SmallHead ws → Lacks body_words SmallBody ws
body_lacks_head {ws} l = record { none = λ y s h e. l.none y.0 _ h.0 (body_apart y s ws e) }

pub body_lacks_style : {ws ws₁ : List (List ℕ)} {x : Head} → Whole head_words SmallHead ws x ws₁ → Lacks (λ (s : ScalarStyle). style_word s ∷ []) (λ _. ⊤) ws₁ → Lacks body_words SmallBody ws
body_lacks_style {ws} a l = record { none = λ y s h e. l.none y.1 _ tt (a.only y.0 _ h.0 (body_apart y s ws e)).1 }

pub body_lacks_place : {ws ws₁ ws₂ : List (List ℕ)} {x : Head} {k : ScalarStyle} → Whole head_words SmallHead ws x ws₁ → Whole (λ (s : ScalarStyle). style_word s ∷ []) (λ _. ⊤) ws₁ k ws₂ → Lacks place_words SmallPlace ws₂ → Lacks body_words SmallBody ws
body_lacks_place {ws} a b l = record { none = λ y s h e. l.none y.2 s h.1 (b.only y.1 _ tt (a.only y.0 _ h.0 (body_apart y s ws e)).1).1 }

pub body_whole : {ws ws₁ ws₂ ws₃ : List (List ℕ)} {x : Head} {k : ScalarStyle} {v : Place} → Whole head_words SmallHead ws x ws₁ → Whole (λ (s : ScalarStyle). style_word s ∷ []) (λ _. ⊤) ws₁ k ws₂ → Whole place_words SmallPlace ws₂ v ws₃ → Whole body_words SmallBody ws (x, k, v) ws₃
body_whole {ws} {ws₁} {ws₂} {ws₃} {x} {k} {v} a b d = record {
  fits = (a.fits, d.fits);
  front = a.front ∙ (λ i. head_words x ++ (b.front ∙ (λ j. style_word k ∷ d.front j)) i) ∙ sym (append_assoc (head_words x) (style_word k ∷ place_words v) ws₃);
  only = λ y s h e.
      let p = a.only y.0 _ h.0 (body_apart y s ws e) in
      let q = b.only y.1 _ tt p.1 in
      let r = d.only y.2 s h.1 q.1 in
      (λ i. (p.0 i, q.0 i, r.0 i), r.1);
}
