-- A source and limits once some events are taken.
use Rattle.std.specs.Prelude.{ℕ, ◌+◌, ◌-◌, take, drop, Some, None, Option}
use Rattle.events.specs.Meaning.{Meaning}
use Rattle.nodes.specs.Reading.{Limits, Bar, last_in}

-- a source once n of its events are taken as they stand
abbrev pub past : ℕ → Meaning → Meaning
past n m = record { events = drop n m.events; close = m.close; last = last_in m.last (take n m.events); past = m.past; deferring = m.deferring; anchors = m.anchors }

-- limits once n slots are filled
abbrev pub less : ℕ → Limits → Limits
less n l = record { room = l.room - n; text = l.text; deep = l.deep; closing = l.closing }

-- what bars a node, n events having been taken before it
abbrev pub later : ℕ → Option Bar → Option Bar
later n None = None
later n (Some b) = Some (record { why = b.why; taken = n + b.taken })
