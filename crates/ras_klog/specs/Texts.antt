-- The lines that are printed for the reports of a kernel log.
use Rattle.std.specs.Prelude.{ℕ, Bool, true, false, List, [], ◌++◌, codes, count_by, decimal}
use Rattle.std.specs.Option.{option_map_or}
use Rattle.ras_base.specs.Text.{line_with}
use Rattle.mca_status.specs.Registers.{valid}
use Rattle.ras_facts.specs.declared.bank.BankReport.{BankReport}
use Rattle.ras_facts.specs.Facts.{status_in}
use Rattle.ras_facts.specs.Reports.{bank_report}
use Rattle.ras_texts.specs.Reports.{report_lines}
use Rattle.ras_klog.specs.declared.state.KlogOut.{KlogOut}
use Rattle.ras_klog.specs.declared.state.KlogOut.TheVariants.{Nothing, Whole, Partial}

-- the log line of a complete report, with an empty machine description; no line if the bank has no error
abbrev pub bank_text : BankReport → List ℕ
bank_text bank = option_map_or (λ report. report_lines report.fact report.details) (bank_report bank []) []

-- the line of an incomplete report
abbrev pub partial_line : ℕ → ℕ → List ℕ
partial_line cpu bank = line_with (codes "partial cpu=" ++ decimal cpu ++ codes " bank=" ++ decimal bank)

abbrev pub out_text : KlogOut → List ℕ
out_text Nothing = []
out_text (Whole bank) = bank_text bank
out_text (Partial cpu bank) = partial_line cpu bank

-- whether an output is a log line: a complete report whose bank has an error
abbrev pub is_logged : KlogOut → Bool
is_logged (Whole bank) = valid (status_in bank)
is_logged out = false

abbrev pub is_partial : KlogOut → Bool
is_partial (Partial cpu bank) = true
is_partial out = false

-- the last line of a whole log, given how many log lines and how many partial lines it has
abbrev pub klog_counts_line : ℕ → ℕ → List ℕ
klog_counts_line reports partial =
    line_with (codes "end reports=" ++ decimal reports ++ codes " partial=" ++ decimal partial)

-- the last line of a whole log, given its outputs
abbrev pub klog_end_line : List KlogOut → List ℕ
klog_end_line outs = klog_counts_line (count_by is_logged outs) (count_by is_partial outs)
