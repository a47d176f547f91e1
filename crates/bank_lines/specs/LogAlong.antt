-- What the filter of a kernel log makes of its next lines, given its current report.
use Rattle.std.specs.Prelude.{ℕ, ◌+◌, List, [], ◌∷◌, Result, Ok, if◌then◌else◌}
use Rattle.line_filters.specs.Filter.{Filter}
use Rattle.ras_klog.specs.Stages.{at_start, has_place, out_at, out_at_end, stage_after}
use Rattle.ras_klog.specs.declared.line.KlogLine.{KlogLine}
use Rattle.ras_klog.specs.declared.line.KlogLine.TheVariants.{Start}
use Rattle.ras_script.specs.declared.line.LineRefused.{LineRefused}
use Rattle.bank_lines.specs.EdacReports.{edac_after, marked_told, no_edac, told_lines}
use Rattle.bank_lines.specs.LogGroups.{found_told, judged, no_names, printers_after}
use Rattle.bank_lines.specs.LogLines.{log_line_of, printed_plain}
use Rattle.bank_lines.specs.Texts.{found_text}
use Rattle.bank_lines.specs.declared.found.Finding.{Finding}
use Rattle.bank_lines.specs.declared.log_errors.LogErrors.{LogErrors}
use Rattle.bank_lines.specs.declared.log_line.LogLine.{LogLine}
use Rattle.bank_lines.specs.declared.edac_report.EdacReport.{EdacReport}
use Rattle.bank_lines.specs.declared.log_line.LogLine.TheVariants.{Nothing, Unread, Part}
use Rattle.bank_lines.specs.declared.log_line.Print.{Print}
use Rattle.bank_lines.specs.declared.log_state.LogState.{LogState}

-- the state before a log's first line
abbrev pub log_at_start : LogState
log_at_start = record { work = at_start; print = printed_plain; printers = no_names }

-- how the current report was printed, after a line that was printed as `new` says
abbrev pub print_after : Print → KlogLine → Print → Print
print_after print (Start cpu mcg bank status) new = new
print_after print line new = print

-- the finding at a line
abbrev pub log_found_at : ℕ → ℕ → LogState → LogLine → Finding
log_found_at boot cap state Nothing = Finding.Nothing
log_found_at boot cap state Unread = Finding.Unread
log_found_at boot cap state (Part line print vendor) =
    if has_place state.work line
    then found_told state.printers state.print vendor (out_at boot cap state.work line) else Finding.Unread

-- The state after a line. A line that has no place in the current report changes nothing.
abbrev pub state_after : ℕ → ℕ → LogState → LogLine → LogState
state_after boot cap state (Part line print vendor) = record {
  work = stage_after state.work line;
  print = print_after state.print line print;
  printers = printers_after state.printers state.print vendor (out_at boot cap state.work line);
}
state_after boot cap state line = state

-- the finding at the end of a log, where no report is whole
abbrev pub found_at_end : LogState → Finding
found_at_end state = judged 0 (out_at_end state.work)

-- the same of a log of this boot and of processors with this IA32_MCG_CAP: before its first line, at a line, and
-- after it
abbrev pub log_begun : ℕ → ℕ → LogErrors
log_begun boot cap = record { edac = no_edac; state = log_at_start; boot = boot; cap = cap }

abbrev pub error_in : LogErrors → List ℕ → Finding
error_in log line = log_found_at log.boot log.cap log.state (marked_told log.edac (log_line_of line))

abbrev pub errors_after_line : LogErrors → List ℕ → LogErrors
errors_after_line log line = record {
  edac = edac_after log.edac (log_line_of line);
  state = state_after log.boot log.cap log.state (marked_told log.edac (log_line_of line));
  boot = log.boot;
  cap = log.cap;
}

-- the state after lines
abbrev pub state_over : ℕ → ℕ → LogState → List LogLine → LogState
state_over boot cap state [] = state
state_over boot cap state (line ∷ lines) = state_over boot cap (state_after boot cap state line) lines

-- the text of each line, after `taken` lines
abbrev pub answers_along : ℕ → ℕ → LogState → ℕ → List LogLine → List (Result (List ℕ) LineRefused)
answers_along boot cap state taken [] = []
answers_along boot cap state taken (line ∷ lines) =
    Ok (found_text (taken + 1) (log_found_at boot cap state line))
    ∷ answers_along boot cap (state_after boot cap state line) (taken + 1) lines

-- the text after these lines, of the current report
abbrev pub rest_along : ℕ → ℕ → LogState → List LogLine → List ℕ
rest_along boot cap state lines = found_text 0 (found_at_end (state_over boot cap state lines))

-- how far a filter has come in a log
pub record LogProgress : Type 0 where
  pub boot : ℕ
  pub cap : ℕ
  pub edac : EdacReport
  pub state : LogState
  pub taken : ℕ

abbrev pub log_makes : LogProgress → Filter
log_makes log = record {
  answers = λ lines. answers_along log.boot log.cap log.state log.taken (told_lines log.edac lines);
  rest = λ lines. rest_along log.boot log.cap log.state (told_lines log.edac lines);
  last = λ lines. [];
}
