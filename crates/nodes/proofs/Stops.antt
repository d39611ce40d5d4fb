-- How answers go on: laws of `after`, `and_then` and `at`, and what holds of whatever is answered.
use Rattle.std.proofs.Common.{◌≡◌, ℕ, Bool, true, false, cond, None as Nothing, Ok, Option, Result, arith}
use Rattle.std.specs.Result.{IfOk}
use Rattle.records.specs.declared.options.MergeKeyPolicy.{MergeKeyPolicy}
use Rattle.records.specs.declared.options.MergeKeyPolicy.TheVariants.{Merge}
use Rattle.records.specs.declared.refusal.Refusal.{Refusal}
use Rattle.nodes.specs.Collect.{Stop, and_then, after, at, stop_with, by_policy}

module _ {A B : Type 0} where
  pub then_same : (r : Result A Stop) (f g : A → Result B Stop) → ((x : A) → f x ≡ g x) → and_then r f ≡ and_then r g
  then_same r f g h = grind arith

  pub then_both : (r q : Result A Stop) (f g : A → Result B Stop) → r ≡ q → ((x : A) → f x ≡ g x) → and_then r f ≡ and_then q g
  then_both r q f g e h = grind arith

  pub then_made : (r : Result A Stop) (f : A → Result B Stop) (y : B) → and_then r f ≡ Ok y → (x : A) × (r ≡ Ok x) × (f x ≡ Ok y)
  then_made r f y e = grind arith

module _ {B : Type 0} where
  -- a question that is answered with yes
  pub after_yes : (o : Option Stop) (r : Result B Stop) → o ≡ Nothing → after o r ≡ r
  after_yes o r e = grind arith

  pub after_made : (o : Option Stop) (r : Result B Stop) (y : B) → after o r ≡ Ok y → (o ≡ Nothing) × (r ≡ Ok y)
  after_made o r y e = grind arith

  pub at_made : (n : ℕ) (r : Result B Stop) (y : B) → at n r ≡ Ok y → r ≡ Ok y
  at_made n r y e = grind arith

  pub stop_with_made : (n : ℕ) (r : Result B Refusal) (y : B) → stop_with n r ≡ Ok y → r ≡ Ok y
  stop_with_made n r y e = grind arith

-- what holds of whatever is answered
module _ {A B : Type 0} (P : B → Type 0) (Q : A → Type 0) where
  pub if_ok_then : (r : Result A Stop) (f : A → Result B Stop) → IfOk r Q → ((x : A) → Q x → IfOk (f x) P) → IfOk (and_then r f) P
  if_ok_then r f q h = grind arith

module _ {B : Type 0} (P : B → Type 0) where
  pub if_ok_after : (o : Option Stop) (r : Result B Stop) → IfOk r P → IfOk (after o r) P
  if_ok_after o r p = grind arith

  pub if_ok_at : (n : ℕ) (r : Result B Stop) → IfOk r P → IfOk (at n r) P
  if_ok_at n r p = grind arith

  pub if_ok_stop_with : (n : ℕ) (r : Result B Refusal) → IfOk r P → IfOk (stop_with n r) P
  if_ok_stop_with n r p = grind arith

  pub if_ok_cond : (b : Bool) (r q : Result B Stop) → (b ≡ true → IfOk r P) → (b ≡ false → IfOk q P) → IfOk (cond b r q) P
  if_ok_cond b r q p p' = grind arith

  pub if_ok_by_policy : (m : MergeKeyPolicy) (r q s : Result B Stop) → IfOk r P → IfOk q P → IfOk s P → IfOk (by_policy m r q s) P
  if_ok_by_policy m r q s x y z = grind arith

  pub if_ok_merge : (m : MergeKeyPolicy) (r q s : Result B Stop) → m ≡ Merge → IfOk r P → IfOk (by_policy m r q s) P
  if_ok_merge m r q s e p = rw e p
