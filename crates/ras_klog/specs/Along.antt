-- What the filter of kernel logs prints for its next lines, given the current report.
use Rattle.std.specs.Prelude.{ℕ, ◌+◌, List, [], ◌∷◌, count_by, map, Result, Ok}
use Rattle.ras_script.specs.declared.line.LineRefused.{LineRefused}
use Rattle.line_filters.specs.Filter.{Filter}
use Rattle.ras_klog.specs.declared.filter.Counts.{Counts}
use Rattle.ras_klog.specs.declared.state.KlogOut.{KlogOut}
use Rattle.ras_klog.specs.declared.state.Stage.{Stage}
use Rattle.ras_klog.specs.Reading.{klog_line_of}
use Rattle.ras_klog.specs.Stages.{out_at, out_at_end, outs_to_end, stage_after}
use Rattle.ras_klog.specs.Texts.{klog_counts_line, is_logged, is_partial, out_text}

-- the text of each line
abbrev pub answers_along : ℕ → ℕ → Stage → List (List ℕ) → List (Result (List ℕ) LineRefused)
answers_along boot cap stage [] = []
answers_along boot cap stage (line ∷ lines) =
    Ok (out_text (out_at boot cap stage (klog_line_of line)))
    ∷ answers_along boot cap (stage_after stage (klog_line_of line)) lines

-- the stage after lines
abbrev pub stage_over : Stage → List (List ℕ) → Stage
stage_over stage [] = stage
stage_over stage (line ∷ lines) = stage_over (stage_after stage (klog_line_of line)) lines

-- the text after these lines, of a report that isn't complete
abbrev pub rest_along : Stage → List (List ℕ) → List ℕ
rest_along stage lines = out_text (out_at_end (stage_over stage lines))

-- the last line, given the numbers of log lines and partial lines so far
abbrev pub last_along : ℕ → ℕ → Stage → ℕ → ℕ → List (List ℕ) → List ℕ
last_along boot cap stage reports partial lines =
    let outs = outs_to_end boot cap stage (map klog_line_of lines) in
    klog_counts_line (reports + count_by is_logged outs) (partial + count_by is_partial outs)

-- the counts with this output counted too
abbrev pub counts_with : Counts → KlogOut → Counts
counts_with counts out = record {
  reports = counts.reports + count_by is_logged (out ∷ []);
  partial = counts.partial + count_by is_partial (out ∷ []);
}

-- how far a filter has come in a log
pub record Progress : Type 0 where
  pub boot : ℕ
  pub cap : ℕ
  pub stage : Stage
  pub counts : Counts
  pub taken : ℕ

-- what a filter prints for its next lines, given how far it has come
abbrev pub makes_of : Progress → Filter
makes_of log = record {
  answers = answers_along log.boot log.cap log.stage;
  rest = rest_along log.stage;
  last = last_along log.boot log.cap log.stage log.counts.reports log.counts.partial;
}
