-- How much working memory there is, and how much is enough.
use Rattle.std.specs.Prelude.{ℕ, ◌≤◌, List, length}
use Rattle.records.specs.declared.record.Record.{Record}
use Rattle.searching.specs.Slots.{Placed}
use Rattle.entries.specs.declared.work.CompareWork.{CompareWork}
use Rattle.entries.specs.declared.work.EntryWork.{EntryWork}

abbrev pub compare_room : CompareWork → ℕ × ℕ
compare_room c = (length c.classes.now, length c.pairs.now)

abbrev pub entry_room : EntryWork → ℕ × ℕ
entry_room w = (length w.entries.now, length w.seen.now)

-- enough to compare nodes of n slots
pub record Roomy (n : ℕ) (c : CompareWork) : Type 0 where
  pub short : n ≤ 65535
  pub classes : n ≤ length c.classes.now
  pub pairs : n ≤ length c.pairs.now

-- enough to sort n entries
pub record Sortable (n : ℕ) (w : EntryWork) : Type 0 where
  pub entries : n ≤ length w.entries.now
  pub seen : n ≤ length w.seen.now

-- each place of some records lies in a text
abbrev pub InText : List ℕ → List Record → Type 0
InText text rs = Placed (length text) rs
