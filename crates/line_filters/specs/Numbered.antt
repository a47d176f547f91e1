-- The lines of a source, each with its number, and how a call ends that takes these lines.
use Rattle.std.specs.Prelude.{◌≡◌, ℕ, ◌+◌, Bool, true, false, List, [], Result, Ok, Err, IfErr, ⊤}
use Rattle.ras_script.specs.Lines.{Ending, Lines, no_line, script_ended, with_line}
use Rattle.ras_script.specs.Reader.{Advances, Reader, lines_to_come}
use Rattle.ras_exit.specs.Causes.{Causes, SourceCause}
use Rattle.ras_exit.specs.ScriptEnd.{ending_exit}
use Rattle.ras_exit.specs.declared.exit.Exit.{Exit}
use Rattle.ras_exit.specs.declared.exit.Exit.TheVariants.{BadLine, SourceFault, TooLong}

-- a reader of lines, and how many lines it returned
pub record Numbered : Type 0 where
  pub reader : Reader
  pub number : ℕ

-- the state before the first line
abbrev pub no_lines : Numbered
no_lines = record { reader = record { line = []; held = []; taken = 0 }; number = 0 }

-- What a call returns of the lines to come, after `number` lines: the next line; or no line, because the script ended
-- or the list of its lines ends otherwise. A source that fails takes no line away.
abbrev pub GivesNumbered : Result Bool Exit → Lines → ℕ → Reader → List ℕ → Type 0
GivesNumbered (Ok true) lines number reader left =
    lines ≡ with_line reader.line (lines_to_come reader left)
GivesNumbered (Ok false) lines number reader left = lines ≡ no_line script_ended
GivesNumbered (Err SourceFault) lines number reader left = lines ≡ lines_to_come reader left
GivesNumbered (Err exit) lines number reader left =
    (ending : Ending) × (lines ≡ no_line ending) × (exit ≡ ending_exit number ending)

-- how many lines were returned, after one more call
abbrev pub number_after : Result Bool Exit → ℕ → ℕ
number_after (Ok true) number = number + 1
number_after result number = number

-- The lines are counted, and their reader counts the bytes.
pub record Counts (result : Result Bool Exit) (old new : Numbered) : Type 0 where
  pub number : new.number ≡ number_after result old.number
  pub bytes : Advances (result ≡ Ok true) (result ≡ Err SourceFault) old.reader new.reader

-- how the list of lines may end a call, except at the script's end
abbrev pub IsNextExit : Exit → Type 0
IsNextExit (BadLine line reason) = ⊤
IsNextExit SourceFault = ⊤
IsNextExit TooLong = ⊤
IsNextExit exit = ⊥

-- how a call ends over any source, and why
pub record EndsNext (result : Result Bool Exit) (count count' : ℕ) : Type 0 where
  pub exits : IfErr result IsNextExit
  pub source : Causes SourceCause result count count'
