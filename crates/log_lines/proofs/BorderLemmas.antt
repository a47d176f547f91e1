-- What a log leaves to a trace.
use Rattle.std.proofs.Common.{◌≡◌, ℕ, ◌+◌, Bool, true, false, List, [], ◌∷◌, ◌++◌, ◌&&◌, refl, sym, ap, ◌∙◌, append_assoc, append-nil, Option, None, Some, if◌then◌else◌}
use Rattle.std.specs.Option.{option_map_or}
use Rattle.bank_lines.specs.LogAlong.{error_in}
use Rattle.bank_lines.specs.LogLines.{marked_stamp_of}
use Rattle.bank_lines.specs.Texts.{asking_line, found_text, torn_line}
use Rattle.bank_lines.specs.declared.found.Finding.{Finding}
use Rattle.bank_lines.specs.declared.found.Finding.TheVariants.{Firmware, Foreign, Full, Nothing, Partial, Torn, Unread, Whole}
use Rattle.ras_facts.specs.declared.bank.BankReport.{BankReport}
use Rattle.block_lines.specs.LogLines.{report_log_line}
use Rattle.block_lines.specs.Reports.{Reporting, ended_at, is_end, left_to_trace, line_remark, without_sources}
use Rattle.block_lines.specs.Texts.{block_text, blocks_text_at, blocks_text_beside, cut_text, end_text, end_text_beside, remark_text, report_text, report_text_beside}
use Rattle.block_lines.specs.declared.report.OpenReport.{OpenReport}
use Rattle.log_lines.specs.declared.borders.Borders.{Borders}
use Rattle.log_lines.specs.Borders.{LeavesCheck, LeavesReport, check_said, has_made_counter, is_behind, no_borders, torn_comment}
use Rattle.log_lines.specs.LogFeed.{LogFeedState, log_found, log_said}
use Rattle.log_lines.proofs.CheckLemmas.{all_said}

-- ---- a machine check

torn_left : (border : Option ℕ) (number : ℕ) (bytes : List ℕ) (report : BankReport)
    → ¬ (check_said border number bytes (Torn report) ≡ found_text number (Torn report)) → LeavesCheck border number bytes (Torn report)
torn_left border number bytes report left = by (is_behind border (marked_stamp_of bytes)) (has_made_counter report) refl refl left
  where
    Said : Bool → List ℕ
    Said leaves = if leaves then torn_comment number else found_text number (Torn report)

    by : (behind made : Bool) → is_behind border (marked_stamp_of bytes) ≡ behind → has_made_counter report ≡ made
        → ¬ (Said (behind && made) ≡ found_text number (Torn report)) → LeavesCheck border number bytes (Torn report)
    by false made is counted left = absurd (left refl)
    by true false is counted left = absurd (left refl)
    by true true is counted left = record {
      report = report;
      torn = refl;
      made = counted;
      behind = is;
      all =
          ap (λ (line : List ℕ). (torn_line number ++ 10 ∷ []) ++ line) (append-nil (asking_line report ++ 10 ∷ []))
          ∙ sym (append_assoc (torn_line number ++ 10 ∷ []) (asking_line report) (10 ∷ []))
          ∙ ap (λ (leaves : Bool). Said leaves ++ asking_line report ++ 10 ∷ [])
          (sym (ap (λ (b : Bool). b && has_made_counter report) is ∙ counted));
    }

pub check_left : (border : Option ℕ) (number : ℕ) (bytes : List ℕ) (found : Finding)
    → ¬ (check_said border number bytes found ≡ found_text number found) → LeavesCheck border number bytes found
check_left border number bytes Nothing left = absurd (left refl)
check_left border number bytes (Whole report) left = absurd (left refl)
check_left border number bytes (Torn report) left = torn_left border number bytes report left
check_left border number bytes (Full report) left = absurd (left refl)
check_left border number bytes (Partial cpu bank) left = absurd (left refl)
check_left border number bytes (Foreign vendor cpu bank) left = absurd (left refl)
check_left border number bytes (Firmware cpu) left = absurd (left refl)
check_left border number bytes Unread left = absurd (left refl)

-- ---- a firmware's report

pub report_left : (border : Option ℕ) (r : Reporting) (number : ℕ) (bytes : List ℕ)
    → ¬ (blocks_text_beside border r number (report_log_line bytes) ≡ blocks_text_at r number (report_log_line bytes))
    → LeavesReport border r number bytes
report_left border r number bytes left = by (is_end r (report_log_line bytes)) refl left
  where
    remark : List ℕ
    remark = remark_text number (line_remark (ended_at r (report_log_line bytes)) (report_log_line bytes))

    Ended : Bool → List ℕ → List ℕ
    Ended is text = (if is then text else []) ++ remark

    Left : Type 0
    Left = LeavesReport border r number bytes

    split : (report : OpenReport) → is_end r (report_log_line bytes) ≡ true → r.work ≡ Some report → (left : Bool) → left_to_trace border report ≡ left
        → ¬ ((if left then cut_text report else report_text r report) ++ remark ≡ report_text r report ++ remark) → Left
    split report ends opens false is left = absurd (left refl)
    split report ends opens true is left = record {
      report = report;
      work = opens;
      ends = ends;
      left = is;
      all =
          ap (λ (end : Bool). Ended end (end_text r)) ends
          ∙ ap (λ (work : Option OpenReport). option_map_or (report_text r) work [] ++ remark) opens
          ∙ append_assoc (block_text r report) (cut_text report) remark
          ∙ ap (λ (cut : Bool). block_text r report ++ ((if cut then cut_text report else report_text r report) ++ remark)) (sym is)
          ∙ ap (λ (work : Option OpenReport). block_text r report ++ (option_map_or (report_text_beside border r) work [] ++ remark)) (sym opens)
          ∙ ap (λ (end : Bool). block_text r report ++ Ended end (end_text_beside border r)) (sym ends);
    }

    opened : (work : Option OpenReport) → is_end r (report_log_line bytes) ≡ true → r.work ≡ work
        → ¬ (option_map_or (report_text_beside border r) work [] ++ remark ≡ option_map_or (report_text r) work [] ++ remark) → Left
    opened None ends opens left = absurd (left refl)
    opened (Some report) ends opens left = split report ends opens (left_to_trace border report) refl left

    by : (end : Bool) → is_end r (report_log_line bytes) ≡ end → ¬ (Ended end (end_text_beside border r) ≡ Ended end (end_text r)) → Left
    by false is left = absurd (left refl)
    by true is left = opened r.work is refl left

-- ---- without borders

pub nothing_left : (state : LogFeedState) (bytes : List ℕ) → state.borders ≡ no_borders → log_said state bytes ≡ log_found state bytes
nothing_left state bytes none =
    let number : ℕ = state.taken + 1 in
    let found : Finding = error_in state.errors bytes in
    let r : Reporting = without_sources state.reports in
    ap (λ (borders : Borders). check_said borders.checks number bytes found ++ blocks_text_beside borders.reports r number (report_log_line bytes)) none
    ∙ ap (λ (text : List ℕ). text ++ blocks_text_at r number (report_log_line bytes)) (all_said number bytes found)
