-- A report of memory errors as the kernel prints it, line by line, and what is known after reading it.
use Rattle.std.specs.Prelude.{◌≡◌, ℕ, ◌==◌, true, false, List, [], ◌∷◌, codes, nat_eq, Some, if◌then◌else◌, ⊤}
use Rattle.std.specs.List.{ends_with}
use Rattle.ras_script.specs.SplittingLaws.{Lacks}
use Rattle.bank_lines.specs.LogHeads.{is_own}
use Rattle.block_lines.specs.Kernel.{PrintedError, errors_texts, event_text, printed_line}
use Rattle.block_lines.specs.ReadBack.{report_errors}
use Rattle.block_lines.specs.Reports.{Reporting}
use Rattle.block_lines.specs.declared.memory.MemoryError.{MemoryError}
use Rattle.block_lines.specs.declared.report.OpenReport.{OpenReport}

-- the texts after the first one: if the error was corrected the kernel says so
abbrev pub severity_texts : ℕ → List PrintedError → List (List ℕ)
severity_texts severity printed =
    if severity == 2
    then codes "It has been corrected by h/w and requires no further action" ∷ event_text severity ∷ errors_texts 0 printed
    else event_text severity ∷ errors_texts 0 printed

-- A head, before a line of the report with this number, that shows the line as the kernel's own. The line
-- doesn't end in a carriage return.
pub record IsHead (head : List ℕ) (number : ℕ) (text : List ℕ) : Type 0 where
  pub own : is_own head ≡ true
  pub lacks : Lacks 123 head
  pub whole : ends_with nat_eq (printed_line head number text) (13 ∷ []) ≡ false

-- each text has such a head, in order
abbrev pub AreHeaded : ℕ → List (List ℕ) → List (List ℕ) → Type 0
AreHeaded number [] [] = ⊤
AreHeaded number (head ∷ heads) (text ∷ texts) = IsHead head number text × AreHeaded number heads texts
AreHeaded number heads texts = ⊥

-- the lines of these heads and texts
abbrev pub printed_lines : ℕ → List (List ℕ) → List (List ℕ) → List (List ℕ)
printed_lines number (head ∷ heads) (text ∷ texts) = printed_line head number text ∷ printed_lines number heads texts
printed_lines number heads texts = []

-- The open report has this source, began at this time stamp, and has this severity and these errors.
pub record HasReport (r : Reporting) (source begun severity : ℕ) (errors : List MemoryError) : Type 0 where
  pub report : OpenReport
  pub work : r.work ≡ Some report
  pub source_is : report.source ≡ source
  pub begun_is : report.begun ≡ begun
  pub severity_is : report.severity ≡ severity
  pub errors_are : report_errors r report ≡ errors
