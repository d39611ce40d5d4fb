-- Which events are of a kind, and how many.
use Rattle.std.specs.Prelude.{◌≡◌, ℕ, ◌+◌, Bool, List, [], ◌∷◌, ◌++◌, Some, None, Option}
use Rattle.records.specs.declared.record.ScalarStyle.{ScalarStyle}
use Rattle.records.specs.declared.record.Record.{Record}
use Rattle.records.specs.declared.tags.SfTag.{SfTag}
use Rattle.scalars.specs.Typed.{NullScalar, TypedReading}
use Rattle.events.specs.View.{View, seen}
use Rattle.events.specs.View.View.{scalar, seq_start, seq_end, map_start, map_end, recursive_alias}
use Rattle.creel.specs.declared.kind.Kind.{Kind}
use Rattle.creel.specs.declared.kind.Kind.TheVariants.{Scalar, SeqStart, SeqEnd, MapStart, MapEnd, RecursiveAlias, Integer, Null}

-- a scalar that reads as an integer
abbrev pub ReadsInteger : SfTag → ScalarStyle → List ℕ → Type 0
ReadsInteger t s text = (n : Bool) × (m : ℕ) × TypedReading t s text (Some (n, m))

abbrev pub OfScalar : Kind → SfTag → ScalarStyle → List ℕ → Type 0
OfScalar Scalar t s text = Unit {0}
OfScalar SeqStart t s text = ⊥
OfScalar SeqEnd t s text = ⊥
OfScalar MapStart t s text = ⊥
OfScalar MapEnd t s text = ⊥
OfScalar RecursiveAlias t s text = ⊥
OfScalar Integer t s text = ReadsInteger t s text
OfScalar Null t s text = NullScalar t s text

abbrev pub Of : Kind → View → Type 0
Of k (scalar text t w s a l) = OfScalar k t s text
Of k (seq_start a t w l) = k ≡ SeqStart
Of k (seq_end l) = k ≡ SeqEnd
Of k (map_start a t w l) = k ≡ MapStart
Of k (map_end l) = k ≡ MapEnd
Of k (recursive_alias a l) = k ≡ RecursiveAlias

abbrev pub OfSeen : Kind → Option View → Type 0
OfSeen k None = ⊥
OfSeen k (Some v) = Of k v

-- the event of a record, seen beside its text, is of the kind
abbrev pub OfRecord : Kind → List ℕ → Record → Type 0
OfRecord k text r = OfSeen k (seen text r)

-- n of the records are of the kind
pub data Counted (k : Kind) (text : List ℕ) : List Record → ℕ → Type 0 where
  nothing : Counted k text [] 0
  one_more : {rs : List Record} {n : ℕ} (r : Record) → Counted k text rs n → OfRecord k text r → Counted k text (rs ++ r ∷ []) (n + 1)
  another : {rs : List Record} {n : ℕ} (r : Record) → Counted k text rs n → (OfRecord k text r → ⊥) → Counted k text (rs ++ r ∷ []) n
