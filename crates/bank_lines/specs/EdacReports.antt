-- EDAC's reports, converted to the lines that the kernel itself prints of the same registers.
use Rattle.std.specs.Prelude.{ℕ, true, List, [], ◌∷◌}
use Rattle.ras_klog.specs.declared.line.KlogLine.TheVariants as Klog
use Rattle.bank_lines.specs.LogLines.{log_line_of}
use Rattle.bank_lines.specs.declared.edac_line.EdacLine.{EdacLine}
use Rattle.bank_lines.specs.declared.edac_line.EdacLine.TheVariants.{Start, Tsc, Addr, Misc, Processor}
use Rattle.bank_lines.specs.declared.edac_report.EdacReport.{EdacReport}
use Rattle.bank_lines.specs.declared.edac_report.EdacReport.TheVariants.{Idle, Begun, Counted, Placed, Told}
use Rattle.bank_lines.specs.declared.log_line.LogLine.{LogLine}
use Rattle.bank_lines.specs.declared.log_line.LogLine.TheVariants.{Nothing, Unread, Part}
use Rattle.bank_lines.specs.declared.log_line.MarkedLine.{MarkedLine}
use Rattle.bank_lines.specs.declared.log_line.MarkedLine.TheVariants.{Plain, Edac}
use Rattle.bank_lines.specs.declared.log_line.Print.{Print}

-- Before a log's first line EDAC has begun no report.
abbrev pub no_edac : EdacReport
no_edac = Idle

abbrev pub printed_by_edac : Print
printed_by_edac = record { by_edac = true }

-- What a line of EDAC's says, given how far EDAC's current report has come. A report begins; its counter, its address
-- and its other register follow in this order, and give one line once the last has come; then comes its time. A line
-- out of this order can't be read.
abbrev pub edac_told : EdacReport → EdacLine → LogLine
edac_told report (Start cpu mcg bank status) = Part (Klog.Start cpu mcg bank status) printed_by_edac 0
edac_told Begun (Tsc tsc) = Nothing
edac_told (Counted tsc) (Addr addr) = Nothing
edac_told (Placed tsc addr) (Misc misc) = Part (Klog.Tsc tsc addr misc) printed_by_edac 0
edac_told Told (Processor vendor seconds) = Part (Klog.Processor seconds) printed_by_edac vendor
edac_told report line = Unread

abbrev pub edac_next : EdacReport → EdacLine → EdacReport
edac_next report (Start cpu mcg bank status) = Begun
edac_next Begun (Tsc tsc) = Counted tsc
edac_next (Counted tsc) (Addr addr) = Placed tsc addr
edac_next (Placed tsc addr) (Misc misc) = Told
edac_next Told (Processor vendor seconds) = Idle
edac_next report line = report

-- A line of the kernel's own text never continues a report of EDAC's. It may begin a report.
abbrev pub plain_told : EdacReport → LogLine → LogLine
plain_told report (Part (Klog.Start cpu mcg bank status) print vendor) = Part (Klog.Start cpu mcg bank status) print vendor
plain_told Idle (Part line print vendor) = Part line print vendor
plain_told report (Part line print vendor) = Unread
plain_told report line = line

abbrev pub plain_next : EdacReport → LogLine → EdacReport
plain_next report (Part (Klog.Start cpu mcg bank status) print vendor) = Idle
plain_next report line = report

-- what a line says, and EDAC's current report after it
abbrev pub marked_told : EdacReport → MarkedLine → LogLine
marked_told report (Plain line) = plain_told report line
marked_told report (Edac line) = edac_told report line

abbrev pub edac_after : EdacReport → MarkedLine → EdacReport
edac_after report (Plain line) = plain_next report line
edac_after report (Edac line) = edac_next report line

-- what a log's lines say, in order, and EDAC's current report after them
abbrev pub told_lines : EdacReport → List (List ℕ) → List LogLine
told_lines report [] = []
told_lines report (line ∷ lines) =
    marked_told report (log_line_of line) ∷ told_lines (edac_after report (log_line_of line)) lines

abbrev pub edac_over : EdacReport → List (List ℕ) → EdacReport
edac_over report [] = report
edac_over report (line ∷ lines) = edac_over (edac_after report (log_line_of line)) lines
