-- Texts of whole lines, and texts of whole lines that aren't done lines.
use Rattle.std.specs.Prelude.{◌≡◌, ℕ, List, IsFalse, flat_map}
use Rattle.std.specs.List.{AllByRecursion}
use Rattle.ras_base.specs.Text.{line_with}
use Rattle.ras_script.specs.SplittingLaws.{Lacks}
use Rattle.ras_events.specs.DoneLines.{is_done_line}

-- A text consists of lines, each with one line feed, at its end.
pub record AreLines (text : List ℕ) : Type 0 where
  pub lines : List (List ℕ)
  pub each : AllByRecursion (Lacks 10) lines
  pub whole : text ≡ flat_map line_with lines

-- A line has no line feed, and doesn't begin as a done line does.
abbrev pub IsQuietLine : List ℕ → Type 0
IsQuietLine line = Lacks 10 line × IsFalse (is_done_line line)

-- A text consists of quiet lines, each with one line feed, at its end.
pub record AreQuietLines (text : List ℕ) : Type 0 where
  pub lines : List (List ℕ)
  pub each : AllByRecursion IsQuietLine lines
  pub whole : text ≡ flat_map line_with lines
