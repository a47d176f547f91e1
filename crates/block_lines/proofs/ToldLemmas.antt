-- Foreign lines and cut reports get their comments.
use Rattle.std.proofs.Common.{◌≡◌, ℕ, ◌==◌, ◌||◌, Bool, true, false, List, [], ◌∷◌, ◌++◌, refl, sym, ap, ◌∙◌, append-nil, arith, Option, Some, None}
use Rattle.std.specs.Prelude.{length, not, if◌then◌else◌}
use Rattle.std.specs.Option.{option_map_or}
use Rattle.std.proofs.lemmas.Bool.Decides.{nat_tests}
use Rattle.block_lines.specs.Reports.{Reporting, after_report, begun_remark, ended_at, ends_early, errors_after, going_remark, gone_on, is_end, is_ended_by, is_start, line_remark, reporting_after}
use Rattle.block_lines.specs.Texts.{block_text, blocks_text_at, cut_report_line, end_text, remark_text, report_text, rest_text, unread_report_line}
use Rattle.block_lines.specs.declared.log_line.Marking.TheVariants.{Foreign, Own, Unmarked}
use Rattle.block_lines.specs.declared.log_line.ReportLogLine.{ReportLogLine}
use Rattle.block_lines.specs.declared.memory.MemoryError.{MemoryError}
use Rattle.block_lines.specs.declared.report.OpenReport.{OpenReport}
use Rattle.block_lines.specs.declared.report.OpenSection.{OpenSection}
use Rattle.block_lines.specs.declared.report.OpenSection.TheVariants.{Begun, Memory}
use Rattle.block_lines.specs.declared.report_line.ReportLine.{ReportLine}
use Rattle.block_lines.specs.declared.report_line.ReportLine.TheVariants as lines

-- ---- a foreign line

abbrev at : Option ℕ → Bool → ReportLogLine
at stamp foreign = record { stamp = stamp; marking = if foreign then Foreign else Unmarked }

-- a line that isn't the kernel's own ends a report only by its time
ends_alike : (r : Reporting) (stamp : Option ℕ) → is_end r (at stamp true) ≡ is_end r (at stamp false)
ends_alike r stamp = by r.work
  where
    by : (work : Option OpenReport) → option_map_or (λ report. is_ended_by report stamp Foreign) work false ≡ option_map_or (λ report. is_ended_by report stamp Unmarked) work false
    by None = refl
    by (Some report) = refl

pub foreign_told : (r : Reporting) (number : ℕ) (stamp : Option ℕ)
    → blocks_text_at r number (at stamp true) ≡ blocks_text_at r number (at stamp false) ++ (unread_report_line number ++ 10 ∷ [])
foreign_told r number stamp =
    let told : List ℕ = unread_report_line number ++ 10 ∷ [] in
    ap (λ (ends : Bool). (if ends then end_text r else []) ++ told) (ends_alike r stamp)
    ∙ ap (λ (text : List ℕ). text ++ told) (sym (append-nil (if is_end r (at stamp false) then end_text r else [])))

pub foreign_changes : (r : Reporting) (stamp : Option ℕ) → reporting_after r (at stamp true) ≡ reporting_after r (at stamp false)
foreign_changes r stamp = ap (λ (ends : Bool). if ends then after_report r r.work else r) (ends_alike r stamp)

-- ---- a report that is cut

pub ended_told : (r : Reporting) (report : OpenReport) (number : ℕ) (line : ReportLogLine)
    → r.work ≡ Some report → ends_early report.section ≡ true → is_ended_by report line.stamp line.marking ≡ true
    → blocks_text_at r number line
    ≡ block_text r report ++ (cut_report_line report.source report.begun ++ 10 ∷ []) ++ remark_text number (line_remark (ended_at r line) line)
ended_told r report number line work early ended =
    let ends : is_end r line ≡ true =
    ap (λ (o : Option OpenReport). option_map_or (λ (p : OpenReport). is_ended_by p line.stamp line.marking) o false) work ∙ ended in
    let text : (if is_end r line then end_text r else []) ≡ block_text r report ++ (cut_report_line report.source report.begun ++ 10 ∷ []) =
    ap (λ (b : Bool). if b then end_text r else []) ends
    ∙ ap (λ (o : Option OpenReport). option_map_or (report_text r) o []) work
    ∙ ap (λ (b : Bool). block_text r report ++ (if b then cut_report_line report.source report.begun ++ 10 ∷ [] else [])) early in
    ap (λ (t : List ℕ). t ++ remark_text number (line_remark (ended_at r line) line)) text

-- a line of a report that begins a section
abbrev begins : OpenReport → Option ℕ → ℕ → ReportLogLine
begins report stamp next = record { stamp = stamp; marking = Own (record { report = report.number; line = lines.Error next }) }

pub section_told : (r : Reporting) (report : OpenReport) (number severity next : ℕ) (stamp : Option ℕ)
    → r.work ≡ Some report → report.section ≡ Begun severity
    → blocks_text_at r number (begins report stamp next) ≡ cut_report_line report.source report.begun ++ 10 ∷ []
section_told r report number severity next stamp work begun =
    let same : (report.number == report.number) ≡ true = grind (arith, nat_tests) in
    let stays : is_end r (begins report stamp next) ≡ false =
    ap (λ (o : Option OpenReport). option_map_or (λ (p : OpenReport). is_ended_by p stamp (begins report stamp next).marking) o false) work
    ∙ (λ i. not (same i) || false) in
    ap (λ (b : Bool). (if b then end_text r else []) ++ remark_text number (line_remark (if b then after_report r r.work else r) (begins report stamp next))) stays
    ∙ ap (λ (o : Option OpenReport). remark_text number (going_remark (length r.errors) o (lines.Error next))) work
    ∙ ap (λ (s : OpenSection). remark_text number (begun_remark report.source report.begun s)) begun

pub open_told : (r : Reporting) (report : OpenReport) → r.work ≡ Some report → rest_text r ≡ cut_report_line report.source report.begun ++ 10 ∷ []
open_told r report work =
    ap (λ (o : Option OpenReport). option_map_or (λ (p : OpenReport). cut_report_line p.source p.begun ++ 10 ∷ []) o []) work

-- ---- a type whose line ` Error` got lost

abbrev own : OpenReport → Option ℕ → ReportLine → ReportLogLine
own report stamp line = record { stamp = stamp; marking = Own (record { report = report.number; line = line }) }

module _ (r : Reporting) (report : OpenReport) (error : MemoryError) (stamp : Option ℕ) (line : ReportLine)
    (work : r.work ≡ Some report) (section : report.section ≡ Memory error) (goes_on : is_start line ≡ false)
    (ends : (es : List MemoryError) → errors_after es (Memory error) line ≡ es ++ error ∷ []) where
  stays : is_end r (own report stamp line) ≡ false
  stays =
      let same : (report.number == report.number) ≡ true = grind (arith, nat_tests) in
      ap (λ (o : Option OpenReport). option_map_or (λ (p : OpenReport). is_ended_by p stamp (own report stamp line).marking) o false) work
      ∙ (λ i. not (same i) || goes_on i)

  pub type_ends : (gone_on r r.work stamp line).errors ≡ r.errors ++ error ∷ []
  type_ends =
      ap (λ (o : Option OpenReport). (gone_on r o stamp line).errors) work
      ∙ ap (λ (s : OpenSection). errors_after r.errors s line) section
      ∙ ends r.errors

  pub kept_is : ended_at r (own report stamp line) ≡ r
  kept_is = ap (λ (b : Bool). if b then after_report r r.work else r) stays

pub memory_type_ends : (r : Reporting) (report : OpenReport) (error : MemoryError) (stamp : Option ℕ) → r.work ≡ Some report → report.section ≡ Memory error
    → (reporting_after r (own report stamp lines.MemoryType)).errors ≡ r.errors ++ error ∷ []
memory_type_ends r report error stamp work section =
    ap (λ (s : Reporting). (gone_on s s.work stamp lines.MemoryType).errors) (kept_is r report error stamp lines.MemoryType work section refl (λ es. refl))
    ∙ type_ends r report error stamp lines.MemoryType work section refl (λ es. refl)

pub other_type_ends : (r : Reporting) (report : OpenReport) (error : MemoryError) (stamp : Option ℕ) → r.work ≡ Some report → report.section ≡ Memory error
    → (reporting_after r (own report stamp lines.OtherType)).errors ≡ r.errors ++ error ∷ []
other_type_ends r report error stamp work section =
    ap (λ (s : Reporting). (gone_on s s.work stamp lines.OtherType).errors) (kept_is r report error stamp lines.OtherType work section refl (λ es. refl))
    ∙ type_ends r report error stamp lines.OtherType work section refl (λ es. refl)
