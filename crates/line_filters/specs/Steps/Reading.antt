-- How far the lines of a script were given.
use Rattle.std.specs.Prelude.{◌≡◌, ℕ, ◌+◌, ◌≤◌, List, ◌++◌, length}
use Rattle.ras_script.specs.Lines.{Lines, script_lines}
use Rattle.ras_script.specs.Reader.{Reader, given_count, lines_to_come}
use Rattle.ras_script.specs.SplittingLaws.{script_of}
use Rattle.line_filters.specs.Filters.{line_feeds}
use Rattle.line_filters.specs.Numbered.{Numbered}

-- what a reader took of a script, of which this is left
pub record HasTaken (script : List ℕ) (reader : Reader) (left : List ℕ) : Type 0 where
  pub taken : List ℕ
  pub splits : taken ++ left ≡ script
  pub count : length taken ≡ reader.taken

-- lines, and then others with their ending
abbrev pub with_lines : List (List ℕ) → Lines → Lines
with_lines done lines = record { whole = done ++ lines.whole; ending = lines.ending }

-- These lines of a script were given, and the others are to come.
pub record HasGiven (script : List ℕ) (lines : Numbered) (left : List ℕ) (done : List (List ℕ)) : Type 0 where
  pub took : HasTaken script lines.reader left
  pub number : lines.number ≡ length done
  pub come : script_lines script ≡ with_lines done (lines_to_come lines.reader left)
  pub known : given_count lines.reader ≤ length (script_of done)
  pub feeds : line_feeds took.taken ≤ length done + line_feeds lines.reader.held
