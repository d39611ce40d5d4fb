-- What walking over slots goes by: how far it comes, what is a merge key, and what a search answers.
use Rattle.std.specs.Prelude.{◌≡◌, ℕ, ◌+◌, ◌-◌, ◌≤◌, Bool, true, false, List, [], length, drop, Some, None as Nothing, Ok, Err, Option, Result}
use Rattle.std.specs.Borrow.{Bor}
use Rattle.std.specs.List.{AllByRecursion}
use Rattle.std.specs.Result.{MatchResult}
use Rattle.records.specs.declared.location.Location.{Location}
use Rattle.records.specs.declared.record.Record.{Record}
use Rattle.records.specs.Places.{placed}
use Rattle.events.specs.View.{View}
use Rattle.fingerprints.specs.Views.{merge_key}
use Rattle.nodes.specs.Tree.{Node, Inside, flat, flats, flatp, size, whole, wholes, wholep}
use Rattle.nodes.specs.Fields.{merge_in, merge_ins, merge_inp}

-- from n on fewer slots are left than from `at` on, or none
abbrev pub Onward : List Record → ℕ → ℕ → Type 0
Onward slots at n = (n ≤ length slots) × (length slots - n ≤ length slots - at - 1)

-- an event, as it is seen beside its text, is a merge key
abbrev pub merge_seen : Option View → Bool
merge_seen Nothing = false
merge_seen (Some v) = merge_key v

-- each place of some records lies in a text of n bytes
abbrev pub Placed : ℕ → List Record → Type 0
Placed n rs = AllByRecursion (λ r. placed n r.event ≡ true) rs

-- the answer of a search that goes on to slot n where nothing is found
abbrev pub sought : ℕ → Option Location → Result ℕ Location
sought n Nothing = Ok n
sought n (Some l) = Err l

-- Wherever a whole node begins at slot i, with its places inside the text, the answer is where its first merge key
-- stands, or the slot behind it.
abbrev pub Visited : List ℕ → List Record → ℕ → Result ℕ Location → Type 0
Visited text slots i o = (t : Node) (rest : List Record) → whole t ≡ true → Inside (length text) t → drop i slots ≡ flat t rest → o ≡ sought (i + size t) (merge_in text t)

-- the answer of a search by the slots that are left: where the first merge key stands, or `rest` where there is none
abbrev pub Answers : Option Location → List Record → Result (Bor (List Record)) Location → Type 0
Answers first rest o = MatchResult o (λ left. (left.now ≡ rest) × (first ≡ Nothing)) (λ l. first ≡ Some l)

-- Wherever the slots are a whole tree of one kind, with its places inside a text of n bytes, and what is left behind it,
-- the answer is right: for a node, the elements of a sequence up to its end, and the pairs of a mapping up to its end.
abbrev pub Past : {T : Type 0} → (T → Bool) → (T → List Record → List Record) → (T → Option Location) → ℕ → List Record → Result (Bor (List Record)) Location → Type 0
Past {T} unbroken written first n slots o = (t : T) (rest : List Record) → unbroken t ≡ true → Placed n (written t []) → slots ≡ written t rest → Answers (first t) rest o

abbrev pub PastNode : List ℕ → List Record → Result (Bor (List Record)) Location → Type 0
PastNode text slots o = Past whole flat (merge_in text) (length text) slots o

abbrev pub PastElements : List ℕ → List Record → Result (Bor (List Record)) Location → Type 0
PastElements text slots o = Past wholes flats (merge_ins text) (length text) slots o

abbrev pub PastPairs : List ℕ → List Record → Result (Bor (List Record)) Location → Type 0
PastPairs text slots o = Past wholep flatp (merge_inp text) (length text) slots o
