-- The steps of a reader of inputs.
use Rattle.std.specs.Prelude.{◌≡◌, ℕ, ◌+◌, ◌≤◌, true, false, List, [], length, take, drop, Option, Result, Ok, Err, IfSome}
use Rattle.board_core.specs.declared.source.Failed.{Failed}
use Rattle.ras_script.specs.declared.input.InputStep.{InputStep}
use Rattle.ras_script.specs.declared.input.InputStep.TheVariants.{Line, Long}
use Rattle.ras_script.specs.declared.input.LineEnd.{LineEnd}
use Rattle.ras_script.specs.declared.input.LineEnd.TheVariants.{Feed, Full, Missing}
use Rattle.ras_script.specs.declared.reader.TheConstants.{LONGEST_LINE}
use Rattle.ras_script.specs.InputBuffer.{InputBuffer}
use Rattle.ras_script.specs.SplittingLaws.{Lacks}
use Rattle.ras_script.specs.Steps.ReaderSteps.{FeedAt}

-- what a search for the next line's end finds, if the source has these bytes left
abbrev pub FindsEnd : Result LineEnd Failed → InputBuffer → Option (List ℕ) → Type 0
FindsEnd (Ok (Feed place)) buffer left = FeedAt place buffer.held × (length buffer.held ≤ LONGEST_LINE + 1)
FindsEnd (Ok Full) buffer left = Lacks 10 buffer.held × (length buffer.held ≡ LONGEST_LINE + 1)
FindsEnd (Ok Missing) buffer left =
    Lacks 10 buffer.held × (length buffer.held ≤ LONGEST_LINE) × IfSome left (λ rest. rest ≡ [])
FindsEnd (Err failed) buffer left = Lacks 10 buffer.held

-- The bytes before a line feed at this index were taken from the buffer, with the line feed.
pub record Took (place : ℕ) (old new : InputBuffer) : Type 0 where
  pub line : new.line ≡ take place old.held
  pub held : new.held ≡ drop (place + 1) old.held
  pub dropping : new.dropping ≡ false

-- They were returned as a line, or as the end of a line whose bytes were dropped.
abbrev pub GivesLineEnd : InputStep → ℕ → InputBuffer → InputBuffer → Type 0
GivesLineEnd Line place old new = Took place old new × (old.dropping ≡ false)
GivesLineEnd Long place old new = Took place old new × (old.dropping ≡ true)
GivesLineEnd step place old new = ⊥

-- All bytes in the buffer were dropped, because they belong to a line that is too long.
pub record DropsHeld (old new : InputBuffer) : Type 0 where
  pub held : new.held ≡ []
  pub dropping : new.dropping ≡ true
