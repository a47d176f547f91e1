-- The lines of script that `lines ghes` makes of a kernel log.
use Rattle.std.specs.Prelude.{ℕ, ◌+◌, List, [], ◌∷◌, Result, Ok}
use Rattle.line_filters.specs.Filter.{Filter}
use Rattle.ras_script.specs.declared.line.LineRefused.{LineRefused}
use Rattle.block_lines.specs.LogLines.{report_log_line}
use Rattle.block_lines.specs.Reports.{Reporting, no_reports, reporting_after}
use Rattle.block_lines.specs.Texts.{rest_text, blocks_text_at}

-- the text of each line, after this many lines; no line is rejected
abbrev pub block_answers : ℕ → Reporting → List (List ℕ) → List (Result (List ℕ) LineRefused)
block_answers taken r [] = []
block_answers taken r (line ∷ lines) =
    Ok (blocks_text_at r (taken + 1) (report_log_line line))
    ∷ block_answers (taken + 1) (reporting_after r (report_log_line line)) lines

-- the state of the filter after lines
abbrev pub reporting_over : Reporting → List (List ℕ) → Reporting
reporting_over r [] = r
reporting_over r (line ∷ lines) = reporting_over (reporting_after r (report_log_line line)) lines

-- the text after all lines: about a report that none of them ended
abbrev pub rest_after : Reporting → List (List ℕ) → List ℕ
rest_after r lines = rest_text (reporting_over r lines)

-- how far a filter has come in a log
pub record BlockProgress : Type 0 where
  pub reports : Reporting
  pub taken : ℕ

-- after a line, whatever of its text a trace has too
abbrev pub progress_after : BlockProgress → List ℕ → BlockProgress
progress_after log line = record {
  reports = reporting_after log.reports (report_log_line line);
  taken = log.taken + 1;
}

-- the filter that goes on from here
abbrev pub blocks_make : BlockProgress → Filter
blocks_make log = record {
  answers = block_answers log.taken log.reports;
  rest = rest_after log.reports;
  last = λ lines. [];
}

-- the filter for the log of a boot that began at this second
abbrev pub block_filter : ℕ → ℕ → Filter
block_filter boot began = blocks_make (record { reports = no_reports boot began; taken = 0 })
