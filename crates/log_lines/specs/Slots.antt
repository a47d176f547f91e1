-- The slots of a machine, as the head of an input describes them.
use Rattle.std.specs.Prelude.{ℕ, List}

-- the name of a module in the script, and what the kernel calls the DIMM there
pub record SlotLine : Type 0 where
  pub name : List ℕ
  pub label : List ℕ
