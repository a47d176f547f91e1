-- A search for the prefixes of a line.
use Rattle.std.specs.Prelude.{ℕ, ◌+◌, ◌<◌, ◌≤◌, List, length, Option, None, Some}
use Rattle.memchr.specs.Find.{FindsNeedle, OccursAt}
use Rattle.bank_lines.specs.EdacLines.{edac_mark}
use Rattle.bank_lines.specs.LogLines.{log_mark}
use Rattle.bank_lines.specs.declared.mark.LogMark.{LogMark}
use Rattle.bank_lines.specs.declared.mark.LogMark.TheVariants.{AtPlain, AtEdac}

-- a prefix lies within a line
abbrev pub IsWithin : LogMark → List ℕ → Type 0
IsWithin (AtPlain place) line = place + length log_mark ≤ length line
IsWithin (AtEdac place) line = place + length edac_mark ≤ length line

-- after a search for EDAC's prefix up to `end`: the first one in the line, or `None` if there was none so far
abbrev pub FirstBelow : List ℕ → ℕ → Option ℕ → Type 0
FirstBelow line end None = (k : ℕ) → k + 0 < end → ¬ OccursAt line edac_mark k
FirstBelow line end (Some place) = FindsNeedle line edac_mark 0 (Some place)
