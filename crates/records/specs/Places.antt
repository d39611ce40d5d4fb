-- Which places lie in a text.
use Rattle.std.specs.Prelude.{ℕ, ◌+◌, Bool, true, ◌&&◌, Some, None, Option, nat_le}
use Rattle.records.specs.declared.record.Place.{Place}
use Rattle.records.specs.declared.record.Event.{Event}
use Rattle.records.specs.declared.record.Event.TheVariants.{Scalar, SeqStart, SeqEnd, MapStart, MapEnd, RecursiveAlias}

-- a place ends no later than a text of n bytes
abbrev pub within : ℕ → Place → Bool
within n p = nat_le (p.start + p.len) n

abbrev pub raw_within : ℕ → Option Place → Bool
raw_within n None = true
raw_within n (Some p) = within n p

-- each place of an event does
abbrev pub placed : ℕ → Event → Bool
placed n (Scalar a t w s v) = raw_within n w && within n v
placed n (SeqStart a t w) = raw_within n w
placed n SeqEnd = true
placed n (MapStart a t w) = raw_within n w
placed n MapEnd = true
placed n (RecursiveAlias a) = true
