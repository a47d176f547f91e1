-- What is printed for a record from a source, how the call ends, and how far the source is read.
use Rattle.std.specs.Prelude.{◌≡◌, ℕ, ◌≤◌, ◌⊎◌, List, [], ◌++◌, length, Option, None, Some, ⊤}
use Rattle.board_core.specs.Clock.{Adds, Clock}
use Rattle.board_core.specs.Told.{Told}
use Rattle.ras_exit.specs.declared.exit.Exit.{Exit}
use Rattle.ras_exit.specs.declared.exit.Exit.TheVariants.{Done, SourceFault, PrintFault, NoMemory}
use Rattle.ras_exit.specs.Telling.{OnlyText, PrintMoment, Tells}
use Rattle.bank_lines.specs.Saved.Records.{record_output}
use Rattle.bank_lines.specs.declared.saved.printing.TheConstants.{MOST_BYTES}

-- A call prints this text, unless it is cut short. Of the board's model only the printed text changes.
pub record PrintsText (text : List ℕ) (result : Exit) (before now : Told) : Type 0 where
  pub tells : Tells Done text result before now
  pub only : OnlyText before now

-- The bytes that a call takes of an input, of which `left` remains: at most one more than the longest record has. If
-- the call succeeds, it takes the whole input or that many bytes.
pub record TakesRecord (result : Exit) (input left : List ℕ) : Type 0 where
  pub taken : List ℕ
  pub splits : taken ++ left ≡ input
  pub few : length taken ≤ MOST_BYTES
  pub all : result ≡ Done → (left ≡ []) ⊎ (length taken ≡ MOST_BYTES)

-- A crash at any point of a call leaves, as its only new text, a beginning of what is printed for the input. If the
-- source isn't modelled, this says nothing.
abbrev pub StopsPrinting : ℕ → Option (List ℕ) → Clock → Clock → Type 0
StopsPrinting boot None old new = ⊤
StopsPrinting boot (Some input) old new = Adds (PrintMoment old (record_output boot input)) old new

-- how a call may end
abbrev pub IsRecordExit : Exit → Type 0
IsRecordExit Done = ⊤
IsRecordExit SourceFault = ⊤
IsRecordExit PrintFault = ⊤
IsRecordExit NoMemory = ⊤
IsRecordExit exit = ⊥
