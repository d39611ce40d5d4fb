-- What a reading answers decides whether a scalar reads as an integer.
use Rattle.std.proofs.Common.{◌≡◌, ℕ, Bool, true, false, cond, List, is_some, Some, None, Decides, Option, refl, arith}
use Rattle.records.specs.declared.record.ScalarStyle.{ScalarStyle}
use Rattle.records.specs.declared.tags.SfTag.{SfTag}
use Rattle.scalars.specs.Spelling.{Reading}
use Rattle.scalars.specs.Typed.{numeric, TypedReading}
use Rattle.creel.specs.Kinds.{ReadsInteger}

none_reads : (b : Bool) (text : List ℕ) (n : Bool) (m : ℕ) → cond b (Reading text None) (◌≡◌ {A = Option (Bool × ℕ)} None None) → cond b (Reading text (Some (n, m))) (◌≡◌ {A = Option (Bool × ℕ)} (Some (n, m)) None) → ⊥
none_reads true text n m h k = h n m k.0 k.1
none_reads false text n m h k = let z : ◌≡◌ {A = ℕ} 0 1 = cc in omega arith

pub reading_decides : (t : SfTag) (s : ScalarStyle) (text : List ℕ) (o : Option (Bool × ℕ)) → TypedReading t s text o → Decides (is_some o) (ReadsInteger t s text)
reading_decides t s text (Some (n, m)) h = (λ _. (n, m, h), λ _. refl)
reading_decides t s text None h = (λ e. absurd (let z : ◌≡◌ {A = ℕ} 0 1 = cc in omega arith), λ r. absurd (none_reads (numeric t s) text r.0 r.1 h r.2))
