-- The buffer of a reader of lines, and which lines the reader returns.
use Rattle.std.specs.Prelude.{◌≡◌, ℕ, ◌+◌, ◌-◌, ◌<◌, ◌≤◌, ◌⊎◌, Bool, true, false, List, [], ◌∷◌, ◌++◌, length, Option, None, Some, Result, Ok, Err, IfSome, IsSomeAnd}
use Rattle.board_core.specs.Cause.{Rose}
use Rattle.ras_script.specs.declared.reader.TheConstants.{LONGEST_SCRIPT, LONGEST_LINE}
use Rattle.ras_script.specs.declared.reader.NextRefused.{NextRefused}
use Rattle.ras_script.specs.declared.reader.NextRefused.TheVariants.{Source, LineTooLong, TooLong}
use Rattle.ras_script.specs.SplittingLaws.{Lacks}
use Rattle.ras_script.specs.Lines.{Lines, lines_within, with_line, no_line, script_ended, line_too_long, script_too_long}

-- The line that a reader returned last, the bytes that it read and hasn't returned, and how many it read.
pub record Reader : Type 0 where
  pub line : List ℕ
  pub held : List ℕ
  pub taken : ℕ

-- A line has no line feed, and no more bytes than a line may have.
abbrev pub IsLine : List ℕ → Type 0
IsLine line = Lacks 10 line × (length line ≤ LONGEST_LINE)

-- how many bytes the reader has returned: its lines, with their line feeds
abbrev pub given_count : Reader → ℕ
given_count reader = reader.taken - length reader.held

-- the lines yet to be returned, if the source has these bytes left
abbrev pub lines_to_come : Reader → List ℕ → Lines
lines_to_come reader left = lines_within (LONGEST_SCRIPT - given_count reader) (reader.held ++ left)

-- Which of the remaining lines a call returns. A failed read removes no line.
abbrev pub GivesNext : Result Bool NextRefused → Lines → Reader → List ℕ → Type 0
GivesNext (Ok true) lines reader left = lines ≡ with_line reader.line (lines_to_come reader left)
GivesNext (Ok false) lines reader left = lines ≡ no_line script_ended
GivesNext (Err LineTooLong) lines reader left = lines ≡ no_line line_too_long
GivesNext (Err TooLong) lines reader left = lines ≡ no_line script_too_long
GivesNext (Err Source) lines reader left = lines ≡ lines_to_come reader left

-- These bytes were read from a source; if it is modelled, they are its next bytes.
abbrev pub AreTaken : List ℕ → Option (List ℕ) → Option (List ℕ) → Type 0
AreTaken bytes None now = now ≡ None
AreTaken bytes (Some left) now = IsSomeAnd now (λ rest. left ≡ bytes ++ rest)

-- A reader returned these bytes, from its buffer and from what it then read. The rest is in its buffer.
pub record Moves (given : List ℕ) (old new : Reader) (before now : Option (List ℕ)) : Type 0 where
  pub bytes : List ℕ
  pub taken : AreTaken bytes before now
  pub kept : old.held ++ bytes ≡ given ++ new.held
  pub count : new.taken ≡ old.taken + length bytes

-- A reader has nothing left, nor has its source, if the source is modelled.
abbrev pub IsAtEnd : Reader → Option (List ℕ) → Type 0
IsAtEnd reader left = (reader.held ≡ []) × IfSome left (λ rest. rest ≡ [])

-- What a call returned: a line with its line feed; or the last line, after which nothing is left; or nothing.
abbrev pub MovesLine : {E : Type 0} → Result Bool E → Reader → Reader → Option (List ℕ) → Option (List ℕ) → Type 0
MovesLine (Ok true) old new before now =
    Moves (new.line ++ 10 ∷ []) old new before now
    ⊎ (Moves new.line old new before now × IsAtEnd new now)
MovesLine (Ok false) old new before now = Moves [] old new before now × IsAtEnd new now
MovesLine (Err refused) old new before now = Moves [] old new before now

-- What each call does besides, by whether a line was returned and whether the source failed.
pub record Advances (Given Failed : Type 0) (old new : Reader) : Type 0 where
  -- a line that is returned is a line
  pub line : Given → IsLine new.line
  -- with each returned line the number of returned bytes grows, so a loop over the lines ends
  pub grows : Given → given_count old < given_count new
  -- the bytes in the buffer and the bytes read are no more than a line and a byte,
  pub ahead : length old.held + (new.taken - old.taken) ≤ LONGEST_LINE + 1
  -- and at most one byte past the longest script is read
  pub few : new.taken ≤ LONGEST_SCRIPT + 1
  -- if the source failed, the buffer has no line feed
  pub none : Failed → Lacks 10 new.held

-- A read fails only if the source's count of faults rose; otherwise the count is unchanged.
abbrev pub HasSourceCause : {T : Type 0} → Result T NextRefused → ℕ → ℕ → Type 0
HasSourceCause (Err Source) before now = (before ≤ now) × Rose before now
HasSourceCause result before now = now ≡ before
