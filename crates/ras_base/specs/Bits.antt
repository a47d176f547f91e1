-- The bits of a number. Bit i is its quotient by 2 ^ i, modulo 2.
use Rattle.std.specs.Prelude.{ℕ, Bool, ◌==◌, ◌/◌, ◌%◌, ◌^◌}

-- whether a bit of a field is 1
abbrev pub is_set : ℕ → ℕ → Bool
is_set bit field = field / 2 ^ bit % 2 == 1

-- the number in `width` bits of a field from bit `low` on
abbrev pub bits : ℕ → ℕ → ℕ → ℕ
bits low width field = field / 2 ^ low % 2 ^ width
