-- What `lines log` makes of all that a kernel log has.
use Rattle.std.specs.Prelude.{ℕ, ◌+◌, Bool, List, [], ◌∷◌, ◌++◌, Result, Ok}
use Rattle.ras_script.specs.declared.line.LineRefused.{LineRefused}
use Rattle.ras_script.specs.Inputs.{Input, line, long}
use Rattle.line_filters.specs.Feed.{Feed}
use Rattle.bank_lines.specs.LogAlong.{found_at_end, error_in, log_begun, errors_after_line}
use Rattle.bank_lines.specs.Texts.{found_text}
use Rattle.bank_lines.specs.declared.log_errors.LogErrors.{LogErrors}
use Rattle.block_lines.specs.LogLines.{report_log_line}
use Rattle.block_lines.specs.Reports.{Reporting, no_reports, reporting_after, without_sources}
use Rattle.block_lines.specs.Texts.{blocks_text_at, blocks_text_beside, rest_text}
use Rattle.log_lines.specs.declared.borders.Borders.{Borders}
use Rattle.log_lines.specs.Borders.{check_said}
use Rattle.log_lines.specs.Comments.{cut_said, fitted, limited, too_long_comment}
use Rattle.log_lines.specs.Waits.{waits}
use Rattle.log_lines.specs.declared.comments.TheConstants.{MOST_LAST}

-- how far a filter has come in a log: the machine check and the report in work, from when on a trace has them too, and
-- how many inputs it took
pub record LogFeedState : Type 0 where
  pub errors : LogErrors
  pub reports : Reporting
  pub borders : Borders
  pub taken : ℕ

-- ---- the text of a line

-- what both readers find in a line: of a machine check, and of a firmware's report, which brings a table of its own
-- source
abbrev pub log_found : LogFeedState → List ℕ → List ℕ
log_found state bytes =
    found_text (state.taken + 1) (error_in state.errors bytes)
    ++ blocks_text_at (without_sources state.reports) (state.taken + 1) (report_log_line bytes)

-- what is said of it, without what a trace has too: of the machine check, and of the report
abbrev pub checks_said : LogFeedState → List ℕ → List ℕ
checks_said state bytes =
    check_said state.borders.checks (state.taken + 1) bytes (error_in state.errors bytes)

abbrev pub reports_said : LogFeedState → List ℕ → List ℕ
reports_said state bytes =
    blocks_text_beside state.borders.reports (without_sources state.reports) (state.taken + 1) (report_log_line bytes)

abbrev pub log_said : LogFeedState → List ℕ → List ℕ
log_said state bytes = checks_said state bytes ++ reports_said state bytes

-- whether a line's machine check waits for the name of a DIMM
abbrev pub log_waits : LogFeedState → List ℕ → Bool
log_waits state bytes = waits (error_in state.errors bytes)

-- the report in work after a line
abbrev pub reports_after_line : Reporting → List ℕ → Reporting
reports_after_line reports bytes = reporting_after (without_sources reports) (report_log_line bytes)

abbrev pub log_after_line : LogFeedState → List ℕ → LogFeedState
log_after_line state bytes = record {
  errors = errors_after_line state.errors bytes;
  reports = reports_after_line state.reports bytes;
  borders = state.borders;
  taken = state.taken + 1;
}

-- a text as the answer of a filter that may refuse lines
abbrev pub answer : List ℕ → Result (List ℕ) LineRefused
answer text = Ok text

-- what is said of machine checks in lines
abbrev pub log_checks : LogFeedState → List (List ℕ) → List (List ℕ)
log_checks state [] = []
log_checks state (bytes ∷ lines) =
    check_said state.borders.checks (state.taken + 1) bytes (error_in state.errors bytes)
    ∷ log_checks (log_after_line state bytes) lines

-- ---- the filter

-- the text of an input
abbrev pub log_text : LogFeedState → Input → List ℕ
log_text state (line bytes) = fitted (state.taken + 1) bytes (log_said state bytes)
log_text state long = too_long_comment (state.taken + 1)

abbrev pub log_after : LogFeedState → Input → LogFeedState
log_after state (line bytes) = log_after_line state bytes
log_after state long = record state { taken = state.taken + 1 }

abbrev pub log_texts : LogFeedState → List Input → List (List ℕ)
log_texts state [] = []
log_texts state (input ∷ inputs) = log_text state input ∷ log_texts (log_after state input) inputs

abbrev pub log_over : LogFeedState → List Input → LogFeedState
log_over state [] = state
log_over state (input ∷ inputs) = log_over (log_after state input) inputs

-- the text at the end: of a machine check and of a report that aren't whole, and of bytes after the last line feed
abbrev pub log_last : LogFeedState → Bool → List ℕ
log_last state cut =
    limited MOST_LAST (state.taken + 1) [] (found_text 0 (found_at_end state.errors.state)
    ++ rest_text state.reports ++ cut_said (state.taken + 1) cut)

abbrev pub log_feed_makes : LogFeedState → Feed
log_feed_makes state = record {
  texts = log_texts state;
  last = λ inputs cut. log_last (log_over state inputs) cut;
}

-- what is made of the log of a boot that began at this second, on processors with this IA32_MCG_CAP, beside a trace
-- that has it too from these borders on
abbrev pub log_start : ℕ → ℕ → ℕ → Borders → LogFeedState
log_start boot cap began borders =
    record { errors = log_begun boot cap; reports = no_reports boot began; borders = borders; taken = 0 }

abbrev pub log_feed : ℕ → ℕ → ℕ → Borders → Feed
log_feed boot cap began borders = log_feed_makes (log_start boot cap began borders)
