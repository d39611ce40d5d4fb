-- The rule of the table of classes: antt computes that the table is the list of the classes of all bytes, and the lemma
-- here reads that list at one byte.
use Rattle.std.proofs.Common.{◌≡◌, ℕ, zero, suc, ◌+◌, ◌<◌, List, [], ◌∷◌, get_or, sym, ap, ◌∙◌, le_of_suc-le-suc, not-suc-le-zero, add-zero, add-suc, suc-add, zero-add}
use Rattle.scalars.specs.Class.{class_of}

-- the classes of n bytes from the byte i on
abbrev pub classes : ℕ → ℕ → List ℕ
classes i zero = []
classes i (suc n) = class_of i ∷ classes (suc i) n

classes_at : (n i b : ℕ) → b < n → get_or (classes i n) b 0 ≡ class_of (i + b)
classes_at zero i b h = absurd (not-suc-le-zero h)
classes_at (suc n) i zero h = ap class_of (sym (add-zero i))
classes_at (suc n) i (suc b) h = classes_at n (suc i) b (le_of_suc-le-suc h) ∙ ap class_of (suc-add i b ∙ sym (add-suc i b))

pub table_rule : (b : ℕ) → b < 256 → get_or (classes 0 256) b 0 ≡ class_of b
table_rule b h = classes_at 256 0 b h ∙ ap class_of (zero-add b)
