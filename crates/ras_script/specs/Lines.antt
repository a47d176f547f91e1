-- The lines of a script within its limits, and how their list ends.
use Rattle.std.specs.Prelude.{ℕ, ◌+◌, Bool, not, List, [], ◌∷◌, length, take, take_while, nat_lt, if◌then◌else◌}
use Rattle.std.specs.List.{list_any}
use Rattle.ras_script.specs.declared.reader.TheConstants.{LONGEST_SCRIPT, LONGEST_LINE}
use Rattle.ras_script.specs.Splitting.{lines_of}

-- How the lines of a script end: with the script, before a line that is too long, or before the line in which the
-- script becomes too long.
pub data Ending : Type 0 where
  script_ended : Ending
  line_too_long : Ending
  script_too_long : Ending

-- lines in order, and how their list ends
pub record Lines : Type 0 where
  pub whole : List (List ℕ)
  pub ending : Ending

-- Whether a line has more bytes than a line may have. Its line feed isn't counted.
abbrev pub is_too_long : List ℕ → Bool
is_too_long line = nat_lt LONGEST_LINE (length line)

-- a list without its last element
abbrev pub without_last : {X : Type 0} → List X → List X
without_last [] = []
without_last (x ∷ []) = []
without_last (x ∷ y ∷ xs) = x ∷ without_last (y ∷ xs)

-- The lines of a text that may have `most` bytes. Of a longer text only one more byte is read. If a line among these
-- bytes is too long, the list ends before that line. Otherwise a text that is too long ends the list, before the line
-- with the one byte too many.
unfoldable pub lines_within : ℕ → List ℕ → Lines
lines_within most text =
    let lines = lines_of (take (most + 1) text) in
    if list_any is_too_long lines
    then record { whole = take_while (λ line. not (is_too_long line)) lines; ending = line_too_long }
    else (if nat_lt most (length text)
    then record { whole = without_last lines; ending = script_too_long }
    else record { whole = lines; ending = script_ended })

-- the lines of a script
abbrev pub script_lines : List ℕ → Lines
script_lines script = lines_within LONGEST_SCRIPT script

-- a line before other lines
abbrev pub with_line : List ℕ → Lines → Lines
with_line line lines = record lines { whole = line ∷ lines.whole }

-- an empty list of lines with this ending
abbrev pub no_line : Ending → Lines
no_line ending = record { whole = []; ending = ending }
