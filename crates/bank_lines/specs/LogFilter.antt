-- The script that `lines klog` makes of a kernel log, by the groups of its lines.
use Rattle.std.specs.Prelude.{ℕ, ◌+◌, ◌==◌, ◌&&◌, List, [], ◌∷◌, ◌++◌, length, not, Bool, true, false, Result, Ok, if◌then◌else◌}
use Rattle.std.specs.List.{flat_map}
use Rattle.line_filters.specs.Filter.{Filter}
use Rattle.line_filters.specs.Filters.{texts_in}
use Rattle.ras_facts.specs.declared.bank.BankReport.{BankReport}
use Rattle.ras_klog.specs.Klog.{added}
use Rattle.ras_klog.specs.Stages.{at_start, has_place, out_at, stage_after}
use Rattle.ras_klog.specs.declared.state.KlogOut.{KlogOut}
use Rattle.ras_klog.specs.declared.state.KlogOut.TheVariants as Told
use Rattle.ras_klog.specs.declared.state.Stage.{Stage}
use Rattle.ras_script.specs.SplittingLaws.{script_of}
use Rattle.ras_script.specs.declared.line.LineRefused.{LineRefused}
use Rattle.bank_lines.specs.EdacReports.{edac_over, no_edac, marked_told, told_lines}
use Rattle.bank_lines.specs.Finding.{is_torn, log_found_of, report_in}
use Rattle.bank_lines.specs.LogGroups.{before_end, klog_part, log_founds}
use Rattle.bank_lines.specs.LogLines.{log_line_of}
use Rattle.bank_lines.specs.Texts.{found_text, torn_line, unread_line}
use Rattle.bank_lines.specs.declared.found.Finding.{Finding}
use Rattle.bank_lines.specs.declared.found.Finding.TheVariants.{Torn, Whole}
use Rattle.bank_lines.specs.declared.log_line.LogLine.{LogLine}
use Rattle.bank_lines.specs.declared.log_line.LogLine.TheVariants.{Nothing, Unread, Part}

-- ---- the groups

-- the findings of the groups of a log's lines, in order
abbrev pub founds_of : ℕ → ℕ → List (List ℕ) → List Finding
founds_of boot cap lines = log_founds boot cap (told_lines no_edac lines)

-- The text of a group's finding. That an address was torn off is printed at the line itself; no other text of a group
-- has a line's number.
abbrev pub group_text : Finding → List ℕ
group_text (Torn report) = found_text 0 (Whole report)
group_text found = found_text 0 found

abbrev pub founds_text : List Finding → List ℕ
founds_text founds = flat_map group_text founds

-- the groups' text that is printed before the log is known to have ended
abbrev pub early_lines : ℕ → ℕ → List (List ℕ) → List ℕ
early_lines boot cap lines = founds_text (before_end (founds_of boot cap lines))

-- ---- comments of lines

-- how far the current report has come after these lines
abbrev pub work_after : Stage → List LogLine → Stage
work_after stage [] = stage
work_after stage (line ∷ lines) = work_after (stage_after stage (klog_part line)) lines

-- whether a line is skipped that begins like a line of a report: it can't be read, or it has no place in the current
-- report
abbrev pub is_passed : Stage → LogLine → Bool
is_passed stage Nothing = false
is_passed stage Unread = true
is_passed stage (Part line print vendor) = not (has_place stage line)

-- whether this is an Intel processor's report whose address was torn off
abbrev pub tells_torn : ℕ → KlogOut → Bool
tells_torn vendor (Told.Whole report) = vendor == 0 && is_torn (log_found_of report)
tells_torn vendor out = false

-- whether a line completes a report whose address was torn off
abbrev pub ends_torn : ℕ → ℕ → Stage → LogLine → Bool
ends_torn boot cap stage (Part line print vendor) = tells_torn vendor (out_at boot cap stage line)
ends_torn boot cap stage line = false

-- the comment at a line: that the line is skipped, or that an address was torn off
abbrev pub comment_at : ℕ → ℕ → ℕ → Stage → LogLine → List ℕ
comment_at boot cap number stage line =
    if is_passed stage line then script_of (unread_line number ∷ [])
    else (if ends_torn boot cap stage line then script_of (torn_line number ∷ []) else [])

-- the comment at a line after the lines `before`
abbrev pub comment_text : ℕ → ℕ → List (List ℕ) → List ℕ → List ℕ
comment_text boot cap before line =
    comment_at boot cap (length before + 1) (work_after at_start (told_lines no_edac before))
    (marked_told (edac_over no_edac before) (log_line_of line))

-- ---- the filter

-- the text of each line, after the lines `before`: its comment, and what it adds to the groups' text. No line is
-- rejected.
abbrev pub log_answers_after : ℕ → ℕ → List (List ℕ) → List (List ℕ) → List (Result (List ℕ) LineRefused)
log_answers_after boot cap before [] = []
log_answers_after boot cap before (line ∷ lines) =
    Ok (
    comment_text boot cap before line
    ++ added (early_lines boot cap before) (early_lines boot cap (before ++ line ∷ []))
    ) ∷ log_answers_after boot cap (before ++ line ∷ []) lines

abbrev pub log_answers : ℕ → ℕ → List (List ℕ) → List (Result (List ℕ) LineRefused)
log_answers boot cap lines = log_answers_after boot cap [] lines

-- the text after all lines: that the last group isn't whole
abbrev pub log_rest : ℕ → ℕ → List (List ℕ) → List ℕ
log_rest boot cap lines = added (early_lines boot cap lines) (founds_text (founds_of boot cap lines))

-- the filter of a log of this boot, of processors with this IA32_MCG_CAP
abbrev pub log_filter : ℕ → ℕ → Filter
log_filter boot cap =
    record { answers = log_answers boot cap; rest = log_rest boot cap; last = λ lines. [] }

-- ---- the whole text

-- all that is printed for a log's lines
abbrev pub log_script : ℕ → ℕ → List (List ℕ) → List ℕ
log_script boot cap lines =
    flat_map (λ text. text) (texts_in (log_answers boot cap lines)) ++ log_rest boot cap lines

-- the whole reports of Intel processors whose banks hold errors, in order
abbrev pub log_reports : ℕ → ℕ → List (List ℕ) → List BankReport
log_reports boot cap lines = flat_map report_in (founds_of boot cap lines)
