-- What a playback means.
use Rattle.std.specs.Prelude.{◌≡◌, ℕ, ◌+◌, true, false, List, map, take, drop, Some, None, Option}
use Rattle.records.specs.declared.location.Location.{Location}
use Rattle.records.specs.declared.location.NodeOrigin.{NodeOrigin}
use Rattle.records.specs.declared.location.NodeOrigin.TheVariants.{Direct, Merge}
use Rattle.records.specs.declared.record.Record.{Record}
use Rattle.records.specs.Blank.{unknown}
use Rattle.events.specs.declared.reader.Reader.{Reader}
use Rattle.events.specs.Meaning.{Meaning, Close, Plain, own_at}
use Rattle.events.specs.Reels.{reader_meaning}
use Rattle.nodes.specs.Tree.{Node, flat, size, whole}
use Rattle.nodes.specs.Looking.{played_with}
use Rattle.playing.specs.declared.replay.Replay.{Replay}

-- the slots from i up to e, or up to the last
abbrev pub between : ℕ → ℕ → List Record → List Record
between i e slots = drop i (take e slots)

-- a record as it is played: as it was recorded, or with a reference
abbrev pub played_as : Option Location → Record → Record
played_as None r = r
played_as (Some l) r = played_with l r

abbrev pub played : Option Location → List Record → List Record
played None rs = rs
played (Some l) rs = map (played_with l) rs

-- the origin shown past the end
abbrev pub past_with : Option Location → NodeOrigin
past_with None = Direct
past_with (Some l) = Merge l

-- the reel of what is left to be played
abbrev pub recorded : Replay → List Record
recorded s = played s.reference s.records.now

abbrev pub recorded_end : Replay → Close
recorded_end s = Plain

abbrev pub recorded_past : Replay → NodeOrigin
recorded_past s = past_with s.reference

-- a playback that has taken some slots, and shows an alias at the front as its null if it was marked or looked at
abbrev pub replay_meaning : Reader Replay → Meaning
replay_meaning = reader_meaning recorded recorded_end recorded_past

-- events to be played, none of them taken
abbrev pub play_from : NodeOrigin → List Record → List ℕ → Meaning
play_from past es ks = record { events = es; close = Plain; last = own_at unknown es; past = past; deferring = false; anchors = ks }

-- where the slots from i up to e are those of a whole node, they are played as certain events, and then there is a
-- plain close
abbrev pub PlaysNode : (Node → List Record) → ℕ → ℕ → List Record → Meaning → Type 0
PlaysNode shape i e slots m = (t : Node) (rest : List Record) → whole t ≡ true → e ≡ i + size t → drop i slots ≡ flat t rest → (m.events ≡ shape t) × (m.close ≡ Plain)
