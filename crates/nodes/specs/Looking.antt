-- What a look at a source shows of a node, and what its reference location is, in the words of collecting.
use Rattle.std.specs.Prelude.{◌≡◌, ℕ, true, List, [], ◌∷◌, map, Some, None as Nothing, Ok, Err}
use Rattle.records.specs.declared.location.Location.{Location}
use Rattle.records.specs.declared.location.NodeOrigin.{NodeOrigin}
use Rattle.records.specs.declared.location.NodeOrigin.TheVariants.{Direct, Alias, Merge}
use Rattle.records.specs.declared.record.Record.{Record}
use Rattle.events.specs.Meaning.{Meaning, peeked, settled, reference_of}
use Rattle.nodes.specs.Tree.{Node, flat, whole}
use Rattle.nodes.specs.Fields.{resolved, reference_at}
use Rattle.nodes.specs.Fields.Basis.{direct, expansion}
use Rattle.nodes.specs.Collect.{Stop, unknown_at}

-- Where a whole node comes next, a look refuses exactly the alias that is not known. Else it shows the first record of
-- the node with its alias resolved, and leaves that node to come.
abbrev pub LookingResolves : Type 0
LookingResolves = (m : Meaning) (t : Node) (rest : List Record) (i : ℕ) → whole t ≡ true → m.events ≡ flat t rest
    → ((s : Stop) → unknown_at m.deferring m.anchors i t ≡ Some s → peeked m ≡ Err s.why)
    × (unknown_at m.deferring m.anchors i t ≡ Nothing → (r : Record) × (behind : List Record) × (flat (resolved m.deferring t) [] ≡ r ∷ behind)
    × (peeked m ≡ Ok (Some r)) × ((settled (peeked m) m).events ≡ flat (resolved m.deferring t) rest))

-- the origin that a playback with a reference shows: an alias stays, all else is merged there
abbrev pub shown_with : Location → NodeOrigin → NodeOrigin
shown_with l Direct = Merge l
shown_with l (Alias a) = Alias a
shown_with l (Merge m) = Merge l

abbrev pub played_with : Location → Record → Record
played_with l r = record { location = r.location; origin = shown_with l r.origin; event = r.event }

-- The reference of a node is the reference location of the source in which it comes next: of a source that shows the
-- node's own origins outside an expansion, and of a playback with the expansion's reference in one.
abbrev pub ReferenceIsTheSources : Type 0
ReferenceIsTheSources = (m : Meaning) (t : Node) (rest : List Record) (l : Location) → whole t ≡ true
    → (m.events ≡ flat t rest → reference_of m ≡ reference_at (direct l) t)
    × (m.events ≡ map (played_with l) (flat t rest) → reference_of m ≡ reference_at (expansion l) t)
