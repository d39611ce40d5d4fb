-- What a byte is in a number.
use Rattle.std.specs.Prelude.{ℕ, ◌-◌, Bool, cond, ◌&&◌, ◌==◌, nat_le}

abbrev pub between : ℕ → ℕ → ℕ → Bool
between low high b = nat_le low b && nat_le b high

-- '0' to '9', 'a' to 'f' and 'A' to 'F' have their value as a digit, '_' has 16, and any other byte 255
abbrev pub class_of : ℕ → ℕ
class_of b = cond (between 48 57 b) (b - 48) (cond (between 97 102 b) (b - 87) (cond (between 65 70 b) (b - 55) (cond (b == 95) 16 255)))
