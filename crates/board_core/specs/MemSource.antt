-- A source in memory: the bytes left, and which reads fail.
use Rattle.std.specs.Prelude.{◌≡◌, ℕ, ◌+◌, ◌-◌, ◌^◌, min, Bool, List, nat_eq}
use Rattle.std.specs.List.{list_any}

-- the bytes left, the most bytes of a read, the numbers of the reads that fail, how many reads were made, and the
-- faults
pub record Reading : Type 0 where
  pub left : List ℕ
  pub piece : ℕ
  pub fails : List ℕ
  pub made : ℕ
  pub faults : ℕ

-- A number of calls or faults, greater by one; it doesn't rise above 2^64 - 1.
abbrev pub next_count : ℕ → ℕ
next_count n = min (n + 1) (2 ^ 64 - 1)

-- Whether a call's number was chosen.
abbrev pub is_chosen : ℕ → List ℕ → Bool
is_chosen call fails = list_any (λ fail. nat_eq fail call) fails

-- Whether the next call was chosen to fail.
abbrev pub read_fails_next : Reading → Bool
read_fails_next s = is_chosen (next_count s.made) s.fails

-- The number of reads rises by one; the chosen reads and the length of pieces are unchanged.
pub record CountsRead (old new : Reading) : Type 0 where
  pub made : new.made ≡ next_count old.made
  pub fails : new.fails ≡ old.fails
  pub piece : new.piece ≡ old.piece
