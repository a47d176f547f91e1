-- Terms of the law of a script's lines within the limits: how their list ends.
use Rattle.std.specs.Prelude.{◌≡◌, ℕ, ◌+◌, ◌<◌, ◌≤◌, List, ◌++◌, length}
use Rattle.std.specs.List.{AllByRecursion}
use Rattle.ras_script.specs.Lines.{Ending, Lines, script_ended, line_too_long, script_too_long}
use Rattle.ras_script.specs.Reader.{IsLine}
use Rattle.ras_script.specs.SplittingLaws.{Lacks, script_of, with_last_line_feed}
use Rattle.ras_script.specs.declared.reader.TheConstants.{LONGEST_LINE}

-- How the list of lines of a text ends that may have `most` bytes: with the text; or before bytes of a line that are
-- one too many for a line; or before the first bytes of a line that go up to the last byte allowed, with more text
-- after it.
abbrev pub EndsBy : Ending → ℕ → List ℕ → List (List ℕ) → Type 0
EndsBy script_ended most text lines =
    (script_of lines ≡ with_last_line_feed text) × (length text ≤ most)
EndsBy line_too_long most text lines =
    (line : List ℕ) × (rest : List ℕ) × (text ≡ script_of lines ++ (line ++ rest)) × Lacks 10 line
    × (length line ≡ LONGEST_LINE + 1) × (length (script_of lines) + length line ≤ most + 1)
EndsBy script_too_long most text lines =
    (line : List ℕ) × (rest : List ℕ) × (text ≡ script_of lines ++ (line ++ rest)) × Lacks 10 line
    × (length line ≤ LONGEST_LINE) × (length (script_of lines) + length line ≡ most)
    × (0 < length rest)

-- Each line is within the limits, and the list ends with this ending.
pub record AreLinesOf (most : ℕ) (text : List ℕ) (lines : Lines) : Type 0 where
  pub each : AllByRecursion IsLine lines.whole
  pub ends : EndsBy lines.ending most text lines.whole
