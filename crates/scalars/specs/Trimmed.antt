-- A text without the blanks at its ends.
use Rattle.std.specs.Prelude.{◌≡◌, ℕ, ◌<◌, ◌≤◌, Bool, true, false, ◌||◌, List, [], ◌∷◌, ◌++◌, length, get_or, All, ◌==◌}

-- blank, tab, carriage return, line feed
abbrev pub blank : ℕ → Bool
blank b = b == 32 || (b == 9 || (b == 13 || b == 10))

abbrev pub Blanks : List ℕ → Type 0
Blanks bs = All (λ b. blank b ≡ true) bs

abbrev pub BeginsBare : List ℕ → Type 0
BeginsBare r = (b : ℕ) (rest : List ℕ) → r ≡ b ∷ rest → blank b ≡ false

abbrev pub EndsBare : List ℕ → Type 0
EndsBare r = (b : ℕ) (rest : List ℕ) → r ≡ rest ++ (b ∷ []) → blank b ≡ false

-- the place of the first byte that is no blank, or the end
pub record IsFirstBare (text : List ℕ) (n : ℕ) : Type 0 where
  pub within : n ≤ length text
  pub blanks : (k : ℕ) → k < n → blank (get_or text k 0) ≡ true
  pub bare : n < length text → blank (get_or text n 0) ≡ false

pub record Trimmed (text r : List ℕ) : Type 0 where
  pub before : List ℕ
  pub after : List ℕ
  pub whole : text ≡ before ++ (r ++ after)
  pub blanks_before : Blanks before
  pub blanks_after : Blanks after
  pub begins : BeginsBare r
  pub ends : EndsBare r
