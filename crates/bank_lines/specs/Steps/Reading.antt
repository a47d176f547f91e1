-- The bytes that were read from an input.
use Rattle.std.specs.Prelude.{◌≡◌, ℕ, ◌≤◌, ◌⊎◌, List, drop, length, take, Option, None, Some, Result, Ok, Err, ⊤}
use Rattle.board_core.specs.declared.source.Failed.{Failed}
use Rattle.ras_exit.specs.declared.exit.Exit.{Exit}
use Rattle.ras_exit.specs.declared.exit.Exit.TheVariants.{Done, PrintFault, NoMemory}
use Rattle.bank_lines.specs.declared.saved.printing.TheConstants.{MOST_BYTES}

-- how a call that prints may end
abbrev pub IsPrintExit : Exit → Type 0
IsPrintExit Done = ⊤
IsPrintExit PrintFault = ⊤
IsPrintExit NoMemory = ⊤
IsPrintExit exit = ⊥

-- The front of a buffer contains the first n bytes of an input.
pub record Holds (n : ℕ) (buffer input : List ℕ) (rest : Option (List ℕ)) : Type 0 where
  pub few : n ≤ MOST_BYTES
  pub within : n ≤ length input
  pub left : rest ≡ Some (drop n input)
  pub front : take n buffer ≡ take n input

abbrev pub HoldsOf : ℕ → List ℕ → Option (List ℕ) → Option (List ℕ) → Type 0
HoldsOf n buffer None left = ⊤
HoldsOf n buffer (Some input) left = Holds n buffer input left

-- The front contains the whole input, or as many bytes as fit; or the source failed.
abbrev pub ReadsFront : Result ℕ Failed → List ℕ → Option (List ℕ) → Option (List ℕ) → Type 0
ReadsFront result buffer None left = ⊤
ReadsFront (Ok n) buffer (Some input) left =
    Holds n buffer input left × ((n ≡ length input) ⊎ (n ≡ MOST_BYTES))
ReadsFront (Err failed) buffer (Some input) left = (n : ℕ) × Holds n buffer input left
