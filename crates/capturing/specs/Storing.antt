-- What it is to store and take one event, or to refuse it.
use Rattle.std.specs.Prelude.{◌≡◌, ℕ, ◌+◌, Bool, cond, List, length, Some, None, Ok, Err, Result, nat_lt, slice_set}
use Rattle.records.specs.declared.record.Event.{Event}
use Rattle.records.specs.declared.record.Record.{Record}
use Rattle.records.specs.declared.refusal.Reason.{Reason}
use Rattle.records.specs.declared.refusal.Refusal.{Refusal}
use Rattle.events.specs.Meaning.{Meaning}
use Rattle.nodes.specs.Reading.{refusal}
use Rattle.nodes.specs.Taking.{past}
use Rattle.capturing.specs.declared.filling.FillGuard.{FillGuard}
use Rattle.capturing.specs.declared.path.Spot.{Spot}
use Rattle.capturing.specs.Paths.{misplaced, asked, first_record}

pub record StoredOne (s : Spot) (text : ℕ) (low : Bool) (m : Meaning) (ss : List Record) (f : ℕ) (e : Event) (m' : Meaning) (ss' : List Record) (f' : ℕ) : Type 0 where
  pub first : Record
  pub is : e ≡ first.event
  pub comes : Ok first ≡ first_record m
  pub fine : None ≡ asked s (nat_lt f (length ss)) text low first.event
  pub slots : ss' ≡ slice_set ss f first
  pub fill : f' ≡ f + 1
  pub left : m' ≡ past 1 m

-- no event comes, or one that is refused; one that is out of place is taken
pub data RefusedOne (s : Spot) (text : ℕ) (low : Bool) (m : Meaning) (ss : List Record) (f : ℕ) (e : Refusal) (m' : Meaning) (ss' : List Record) : Type 0 where
  none_comes : Err e ≡ first_record m → m' ≡ m → ss' ≡ ss → RefusedOne s text low m ss f e m' ss'
  one_comes : (r : Record) (why : Reason) → Ok r ≡ first_record m → e ≡ refusal why r.location → Some why ≡ asked s (nat_lt f (length ss)) text low r.event → m' ≡ past (cond (misplaced s r.event) 1 0) m → ss' ≡ ss → RefusedOne s text low m ss f e m' ss'

abbrev pub One : Spot → Bool → Meaning → FillGuard → Result Event Refusal → Meaning → FillGuard → Type 0
One s low m a (Ok e) m' b = StoredOne s a.text_len low m a.slots.now a.fill.now e m' b.slots.now b.fill.now
One s low m a (Err e) m' b = RefusedOne s a.text_len low m a.slots.now a.fill.now e m' b.slots.now
