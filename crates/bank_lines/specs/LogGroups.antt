-- The reports of a kernel log: the groups that `klog` makes of the kernel's own lines.
use Rattle.std.specs.Prelude.{ℕ, ◌==◌, Bool, true, false, not, List, [], ◌∷◌, ◌++◌, map, if◌then◌else◌}
use Rattle.ras_facts.specs.declared.bank.BankReport.{BankReport}
use Rattle.ras_klog.specs.Groups.{told_of}
use Rattle.ras_klog.specs.declared.line.KlogLine.{KlogLine}
use Rattle.ras_klog.specs.declared.line.KlogLine.TheVariants.{Start, Tsc, Processor, Other}
use Rattle.ras_klog.specs.declared.state.Head.{Head}
use Rattle.ras_klog.specs.declared.state.KlogOut.{KlogOut}
use Rattle.ras_klog.specs.declared.state.KlogOut.TheVariants as Told
use Rattle.bank_lines.specs.Counts.{KeyCounts, counted_with, named_found}
use Rattle.bank_lines.specs.Finding.{log_found_of, report_in}
use Rattle.bank_lines.specs.declared.found.Finding.{Finding}
use Rattle.bank_lines.specs.declared.found.Finding.TheVariants.{Nothing, Whole, Torn, Partial, Foreign}
use Rattle.bank_lines.specs.declared.log_line.LogLine.{LogLine}
use Rattle.bank_lines.specs.declared.log_line.LogLine.TheVariants.{Part}
use Rattle.bank_lines.specs.declared.log_line.Print.{Print}
use Rattle.bank_lines.specs.declared.log_state.Printers.{Printers}

-- ---- groups

-- what a line is for `klog`: `Other`, if it isn't a line of a report
abbrev pub klog_part : LogLine → KlogLine
klog_part (Part line print vendor) = line
klog_part line = Other

-- what the first line of a report says, how it was printed, and the lines up to the next report's first line
pub record LogGroup : Type 0 where
  pub head : Head
  pub print : Print
  pub rest : List LogLine

-- the lines up to the first that begins a report
abbrev pub log_up_to_start : List LogLine → List LogLine
log_up_to_start [] = []
log_up_to_start (Part (Start cpu mcg bank status) print vendor ∷ lines) = []
log_up_to_start (line ∷ lines) = line ∷ log_up_to_start lines

-- the groups of lines, without the lines before the first group
abbrev pub log_groups : List LogLine → List LogGroup
log_groups [] = []
log_groups (Part (Start cpu mcg bank status) print vendor ∷ lines) =
    record {
      head = record { cpu = cpu; mcg = mcg; bank = bank; status = status };
      print = print;
      rest = log_up_to_start lines;
    } ∷ log_groups lines
log_groups (line ∷ lines) = log_groups lines

-- what `klog` finds in a group: its report, or that the report isn't whole
abbrev pub told_in : ℕ → ℕ → LogGroup → KlogOut
told_in boot cap group = told_of boot cap group.head (map klog_part group.rest)

-- the vendor in the first line of a time, and the vendor in the first such line after the first counter
abbrev pub timed_vendor : List LogLine → ℕ
timed_vendor [] = 0
timed_vendor (Part (Processor seconds) print vendor ∷ lines) = vendor
timed_vendor (line ∷ lines) = timed_vendor lines

abbrev pub group_vendor : List LogLine → ℕ
group_vendor [] = 0
group_vendor (Part (Tsc tsc addr misc) print vendor ∷ lines) = timed_vendor lines
group_vendor (line ∷ lines) = group_vendor lines

-- ---- what is found

-- the finding of what `klog` finds, given the vendor; its report isn't named yet
abbrev pub judged : ℕ → KlogOut → Finding
judged vendor Told.Nothing = Nothing
judged vendor (Told.Partial cpu bank) = Partial cpu bank
judged vendor (Told.Whole report) =
    if vendor == 0 then log_found_of report else Foreign vendor report.cpu report.bank

-- ---- names

-- The printers are EDAC and the kernel. Each counts its errors without a counter by itself, so an error that both
-- print has one name.
abbrev pub no_names : Printers
no_names = record { kernel = []; edac = [] }

-- the counts of a printer's errors
abbrev pub counts_by : Printers → Print → KeyCounts
counts_by before print = if print.by_edac then before.edac else before.kernel

-- the counts with one more report of this printer
abbrev pub counting : Printers → Print → BankReport → Printers
counting before print report =
    if print.by_edac then record before { edac = counted_with before.edac report }
    else record before { kernel = counted_with before.kernel report }

-- a finding of this printer, with its report named
abbrev pub named_by : Printers → Print → Finding → Finding
named_by before print found = named_found (counts_by before print) found

-- the counts after a finding of this printer
abbrev pub printers_with : Printers → Print → Finding → Printers
printers_with before print (Whole report) = counting before print report
printers_with before print (Torn report) = counting before print report
printers_with before print found = before

-- the finding of a group, given its printer, its vendor and what `klog` finds in it; and the counts after it
abbrev pub found_told : Printers → Print → ℕ → KlogOut → Finding
found_told before print vendor told = named_by before print (judged vendor told)

abbrev pub printers_after : Printers → Print → ℕ → KlogOut → Printers
printers_after before print vendor told = printers_with before print (judged vendor told)

abbrev pub group_founds_from : ℕ → ℕ → Printers → List LogGroup → List Finding
group_founds_from boot cap before [] = []
group_founds_from boot cap before (group ∷ groups) =
    let told = told_in boot cap group in
    found_told before group.print (group_vendor group.rest) told
    ∷ group_founds_from boot cap (printers_after before group.print (group_vendor group.rest) told) groups

-- the findings of a log's groups, in order
abbrev pub log_founds : ℕ → ℕ → List LogLine → List Finding
log_founds boot cap lines = group_founds_from boot cap no_names (log_groups lines)

-- ---- the reports of one printer

-- the finding of each group, not named yet
abbrev pub groups_judged : ℕ → ℕ → List LogGroup → List Finding
groups_judged boot cap groups =
    map (λ (group : LogGroup). judged (group_vendor group.rest) (told_in boot cap group)) groups

-- whether a group is of the wanted printer: EDAC (`true`) or the kernel (`false`)
abbrev pub is_by : Bool → Bool → Bool
is_by true by_edac = by_edac
is_by false by_edac = not by_edac

-- the reports found in the groups of one printer
abbrev pub printed_by : Bool → List LogGroup → List Finding → List BankReport
printed_by by_edac [] founds = []
printed_by by_edac (group ∷ groups) [] = []
printed_by by_edac (group ∷ groups) (found ∷ founds) =
    (if is_by by_edac group.print.by_edac then report_in found else []) ++ printed_by by_edac groups founds

-- ---- before the end

-- the findings that are printed before the log is known to have ended: all, except a last one that is partial
abbrev pub before_end : List Finding → List Finding
before_end [] = []
before_end (Partial cpu bank ∷ []) = []
before_end (found ∷ founds) = found ∷ before_end founds
