-- The script that the command `lines trace` makes of the text of the kernel's trace.
use Rattle.std.specs.Prelude.{ℕ, ◌+◌, List, [], ◌∷◌, Result, Ok}
use Rattle.std.specs.List.{flat_map}
use Rattle.line_filters.specs.Filter.{Filter}
use Rattle.ras_facts.specs.declared.bank.BankReport.{BankReport}
use Rattle.ras_script.specs.declared.line.LineRefused.{LineRefused}
use Rattle.bank_lines.specs.Counts.{KeyCounts, counts_after, named_found}
use Rattle.bank_lines.specs.Finding.{Numbered, report_in}
use Rattle.bank_lines.specs.Texts.{found_text}
use Rattle.bank_lines.specs.Trace.{trace_found}

-- the findings in lines, the first of which has this number, after errors with these counts
abbrev pub founds_from : ℕ → KeyCounts → ℕ → List (List ℕ) → List Numbered
founds_from boot counts number [] = []
founds_from boot counts number (line ∷ lines) =
    record { number = number; found = named_found counts (trace_found boot line) }
    ∷ founds_from boot (counts_after counts (trace_found boot line)) (number + 1) lines

-- the findings in the lines of a trace
abbrev pub trace_founds : ℕ → List (List ℕ) → List Numbered
trace_founds boot lines = founds_from boot [] 1 lines

-- the reports in a trace's lines, as the kernel printed them: some have no counter
abbrev pub traced_reports : ℕ → List (List ℕ) → List BankReport
traced_reports boot lines = flat_map (λ (line : List ℕ). report_in (trace_found boot line)) lines

-- the text of each line; no line is rejected
abbrev pub answers_from : ℕ → KeyCounts → ℕ → List (List ℕ) → List (Result (List ℕ) LineRefused)
answers_from boot counts number [] = []
answers_from boot counts number (line ∷ lines) =
    Ok (found_text number (named_found counts (trace_found boot line)))
    ∷ answers_from boot (counts_after counts (trace_found boot line)) (number + 1) lines

-- the filter of the lines from this number on; it prints nothing after them
abbrev pub filter_from : ℕ → KeyCounts → ℕ → Filter
filter_from boot counts number =
    record { answers = answers_from boot counts number; rest = λ lines. []; last = λ lines. [] }

-- the filter of the trace of a boot
abbrev pub trace_filter : ℕ → Filter
trace_filter boot = filter_from boot [] 1

-- how far a filter has come
pub record Progress : Type 0 where
  pub boot : ℕ
  pub counts : KeyCounts
  pub taken : ℕ

abbrev pub filter_after : Progress → Filter
filter_after trace = filter_from trace.boot trace.counts (trace.taken + 1)
