-- A line without a carriage return, by its head.
use Rattle.std.proofs.Common.{◌≡◌, ℕ, ◌-◌, Bool, false, if◌then◌else◌, List, [], ◌∷◌, length, nat_eq, take, sym, ap, ◌∙◌, Option}
use Rattle.std.specs.List.{ends_with}
use Rattle.bank_lines.specs.LogHeads.{after, up_to}
use Rattle.bank_lines.specs.LogLines.{log_stamp_of}
use Rattle.block_lines.specs.LogLines.{own_after, own_line_of, report_log_line, without_return}
use Rattle.block_lines.specs.declared.log_line.Marking.{Marking}
use Rattle.block_lines.specs.declared.log_line.ReportLogLine.{ReportLogLine}

abbrev line_with : Option ℕ → Marking → ReportLogLine
line_with stamp marking = record { stamp = stamp; marking = marking }

pub plain_line : (line : List ℕ) (r : ReportLogLine) → ends_with nat_eq line (13 ∷ []) ≡ false → r.stamp ≡ log_stamp_of (up_to 123 line)
    → r.marking ≡ own_after (up_to 123 line) (after 123 line) → r ≡ report_log_line line
plain_line line r other stamp marking =
    let same : without_return line ≡ line = ap (λ (ends : Bool). if ends then take (length line - 1) line else line) other in
    ap (λ (s : Option ℕ). line_with s r.marking) stamp
    ∙ ap (line_with (log_stamp_of (up_to 123 line))) (marking ∙ ap own_line_of (sym same))
