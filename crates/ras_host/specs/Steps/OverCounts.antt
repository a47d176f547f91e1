-- What the system over a kernel counts.
use Rattle.std.specs.Prelude.{ℕ, ◌-◌, ◌^◌, min}

-- A count doesn't rise above 2^64 - 1.
abbrev pub counted_up_to : ℕ → ℕ
counted_up_to n = min n (2 ^ 64 - 1)
