-- How a node is played.
use Rattle.std.proofs.Common.{◌≡◌, ℕ, ◌+◌, true, false, List, [], take, drop, Some, None, Option, refl, ap, ◌∙◌}
use Rattle.std.proofs.lemmas.List.{drop-take}
use Rattle.std.proofs.lemmas.Bool.{false≢true}
use Rattle.records.specs.declared.location.Location.{Location}
use Rattle.records.specs.declared.location.NodeOrigin.{NodeOrigin}
use Rattle.records.specs.declared.record.Record.{Record}
use Rattle.events.specs.Meaning.{Meaning}
use Rattle.events.specs.Fronts.{at_front}
use Rattle.events.proofs.Meanings.{at_front_false}
use Rattle.nodes.specs.Tree.{Node, flat, size, whole}
use Rattle.nodes.specs.Tree.Node.{scalar, alias, seq, dict, cut}
use Rattle.nodes.specs.Fields.{resolved as read}
use Rattle.nodes.proofs.Flats.{take_flat}
use Rattle.playing.specs.Replay.{between, played, play_from, PlaysNode}

-- a playback whose first is not marked
pub unmarked : (past : NodeOrigin) (es : List Record) (ks : List ℕ) (m : Meaning) → m ≡ play_from past (at_front false es) ks → m ≡ play_from past es ks
unmarked past es ks m is = is ∙ ap (λ x. play_from past x ks) (at_front_false es)

-- the slots of a whole node
node_between : (i e : ℕ) (slots : List Record) (t : Node) (rest : List Record) → whole t ≡ true → e ≡ i + size t → drop i slots ≡ flat t rest → between i e slots ≡ flat t []
node_between i e slots t rest w end is = ap (λ k. between i k slots) end ∙ drop-take i (size t) slots ∙ ap (take (size t)) is ∙ take_flat t rest w

pub plays_node : (shape : Node → List Record) (F : List Record → List Record) (i e : ℕ) (slots : List Record) (past : NodeOrigin) (ks : List ℕ) (m : Meaning)
    → m ≡ play_from past (F (between i e slots)) ks → ((t : Node) → whole t ≡ true → F (flat t []) ≡ shape t) → PlaysNode shape i e slots m
plays_node shape F i e slots past ks m is same t rest w end here = (ap (λ x. x.events) is ∙ ap F (node_between i e slots t rest w end here) ∙ same t w, ap (λ x. x.close) is)

-- a marked node is played as it is read
pub marked_node : (o : Option Location) (t : Node) → whole t ≡ true → at_front true (played o (flat t [])) ≡ played o (flat (read false t) [])
marked_node None (scalar k x) w = refl
marked_node None (alias k a) w = refl
marked_node None (seq k h ns) w = refl
marked_node None (dict k h ps) w = refl
marked_node (Some l) (scalar k x) w = refl
marked_node (Some l) (alias k a) w = refl
marked_node (Some l) (seq k h ns) w = refl
marked_node (Some l) (dict k h ps) w = refl
marked_node o (cut c) w = absurd (false≢true w)
