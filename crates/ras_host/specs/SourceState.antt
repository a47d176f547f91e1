-- A source over an input as contracts see it: the bytes left, if the input is modelled, and how many reads have
-- failed.
use Rattle.std.specs.Prelude.{ℕ, List, Option}

pub record SourceState : Type 0 where
  pub left : Option (List ℕ)
  pub faults : ℕ
