-- The numbers of a log's findings fit their types.
use Rattle.std.proofs.Common.{ℕ, ◌+◌, ◌-◌, ◌^◌, ◌<◌, ◌==◌, Bool, true, false, List, [], ◌∷◌, length, arith, if◌then◌else◌}
use Rattle.std.specs.Prelude.{⊤}
use Rattle.std.specs.List.{AllByRecursion}
use Rattle.mca_status.specs.Registers.{valid}
use Rattle.ras_facts.specs.Facts.{status_in}
use Rattle.ras_facts.specs.declared.bank.BankReport.{BankReport}
use Rattle.ras_klog.specs.declared.line.KlogLine.{KlogLine}
use Rattle.ras_klog.specs.declared.line.KlogLine.TheVariants.{Start, Tsc, Processor, Other}
use Rattle.ras_klog.specs.declared.state.KlogOut.{KlogOut}
use Rattle.ras_klog.specs.declared.state.KlogOut.TheVariants as Told
use Rattle.ras_klog.specs.declared.state.Stage.{Stage}
use Rattle.ras_klog.specs.declared.state.Stage.TheVariants.{Idle, Begun, Timed}
use Rattle.ras_klog.specs.Stages.{has_place, out_at, out_at_end, stage_after}
use Rattle.ras_script.specs.LineLaws.{IsBankInRange}
use Rattle.bank_lines.specs.Finding.{IsFoundInRange, IsInTypes, Numbered, lacks_address, log_found_of, without_address}
use Rattle.bank_lines.specs.LogAlong.{log_found_at, found_at_end, state_after}
use Rattle.bank_lines.specs.LogGroups.{counts_by, found_told, judged}
use Rattle.bank_lines.specs.declared.found.Finding.{Finding}
use Rattle.bank_lines.specs.declared.log_line.LogLine.{LogLine}
use Rattle.bank_lines.specs.declared.log_line.LogLine.TheVariants.{Nothing, Unread, Part}
use Rattle.bank_lines.specs.declared.log_line.Print.{Print}
use Rattle.bank_lines.specs.declared.log_state.LogState.{LogState}
use Rattle.bank_lines.specs.declared.log_state.Printers.{Printers}
use Rattle.bank_lines.proofs.LogRangeLemmas.{IsLineInRange, IsLogLineInRange}
use Rattle.bank_lines.proofs.CountLemmas.{named_in}

abbrev IsStageInRange : Stage → Type 0
IsStageInRange Idle = ⊤
IsStageInRange (Begun head) = (head.cpu < 2 ^ 16) × (head.mcg < 2 ^ 64) × (head.bank < 2 ^ 8) × (head.status < 2 ^ 64)
IsStageInRange (Timed head tsc addr misc) =
    ((head.cpu < 2 ^ 16) × (head.mcg < 2 ^ 64) × (head.bank < 2 ^ 8) × (head.status < 2 ^ 64))
    × (tsc < 2 ^ 64) × (addr < 2 ^ 64) × (misc < 2 ^ 64)

abbrev pub IsStateInRange : LogState → Type 0
IsStateInRange state = IsStageInRange state.work

-- the numbers of what `klog` finds fit their types
abbrev IsToldInRange : KlogOut → Type 0
IsToldInRange Told.Nothing = ⊤
IsToldInRange (Told.Partial cpu bank) = (cpu < 2 ^ 16) × (bank < 2 ^ 8)
IsToldInRange (Told.Whole report) = IsBankInRange report

-- ---- reports

log_found_in : (report : BankReport) → IsBankInRange report → IsInTypes (log_found_of report)
log_found_in report h = by (valid (status_in report)) (report.bank == 255) (lacks_address report)
  where
    by : (is_valid firmware lacks : Bool)
        → IsInTypes (if is_valid then (if firmware then Finding.Firmware report.cpu else (if lacks then Finding.Torn (without_address report) else Finding.Whole report)) else Finding.Nothing)
    by true true lacks = h.1
    by true false true =
        let n = h.0 in
        let status : report.status - 2 ^ 58 < 2 ^ 64 = omega (arith, n.1.1.1.1.1.0) in
        ((n.0, (n.1.0, (n.1.1.0, (n.1.1.1.0, (n.1.1.1.1.0, (status, n.1.1.1.1.1.1)))))), h.1, h.2)
    by true false false = h
    by false firmware lacks = tt

judged_in : (vendor : ℕ) (out : KlogOut) → vendor < 2 ^ 64 → IsToldInRange out → IsInTypes (judged vendor out)
judged_in vendor Told.Nothing v h = tt
judged_in vendor (Told.Partial cpu bank) v h = h
judged_in vendor (Told.Whole report) v h = by (vendor == 0)
  where
    by : (intel : Bool) → IsInTypes (if intel then log_found_of report else Finding.Foreign vendor report.cpu report.bank)
    by true = log_found_in report h
    by false = (v, h.1, h.2)

told_found_in : (before : Printers) (print : Print) (vendor : ℕ) (out : KlogOut) → vendor < 2 ^ 64 → IsToldInRange out
    → IsInTypes (found_told before print vendor out)
told_found_in before print vendor out v h = named_in (counts_by before print) (judged vendor out) (judged_in vendor out v h)

-- ---- steps

-- the finding at each line after `taken` lines, with the line's number, and the finding at the end
abbrev pub numbered : ℕ → ℕ → LogState → ℕ → List LogLine → List Numbered
numbered boot cap state taken [] = record { number = 0; found = found_at_end state } ∷ []
numbered boot cap state taken (line ∷ lines) =
    record { number = taken + 1; found = log_found_at boot cap state line }
    ∷ numbered boot cap (state_after boot cap state line) (taken + 1) lines

module _ (boot cap : ℕ) (b : boot < 2 ^ 64) (c : cap < 2 ^ 64) where
  out_in : (stage : Stage) (line : KlogLine) → IsStageInRange stage → IsLineInRange line → IsToldInRange (out_at boot cap stage line)
  out_in Idle (Start cpu mcg bank status) h l = tt
  out_in (Begun head) (Start cpu mcg bank status) h l = (h.0, h.2)
  out_in (Timed head tsc addr misc) (Start cpu mcg bank status) h l = (h.0.0, h.0.2)
  out_in (Timed head tsc addr misc) (Processor seconds) h l =
      ((b, (l, (h.1, (c, (h.0.1, (h.0.3, (h.2, (h.3, tt)))))))), h.0.0, h.0.2)
  out_in Idle (Tsc t a m) h l = tt
  out_in Idle (Processor seconds) h l = tt
  out_in Idle Other h l = tt
  out_in (Begun head) (Tsc t a m) h l = tt
  out_in (Begun head) (Processor seconds) h l = tt
  out_in (Begun head) Other h l = tt
  out_in (Timed head tsc addr misc) (Tsc t a m) h l = tt
  out_in (Timed head tsc addr misc) Other h l = tt

  end_in : (stage : Stage) → IsStageInRange stage → IsToldInRange (out_at_end stage)
  end_in Idle h = tt
  end_in (Begun head) h = (h.0, h.2)
  end_in (Timed head tsc addr misc) h = (h.0.0, h.0.2)

  stage_in : (stage : Stage) (line : KlogLine) → IsStageInRange stage → IsLineInRange line → IsStageInRange (stage_after stage line)
  stage_in Idle (Start cpu mcg bank status) h l = l
  stage_in (Begun head) (Start cpu mcg bank status) h l = l
  stage_in (Timed head tsc addr misc) (Start cpu mcg bank status) h l = l
  stage_in (Begun head) (Tsc t a m) h l = (h, l.0, l.1, l.2)
  stage_in (Timed head tsc addr misc) (Processor seconds) h l = tt
  stage_in Idle (Tsc t a m) h l = tt
  stage_in Idle (Processor seconds) h l = tt
  stage_in Idle Other h l = tt
  stage_in (Begun head) (Processor seconds) h l = h
  stage_in (Begun head) Other h l = h
  stage_in (Timed head tsc addr misc) (Tsc t a m) h l = h
  stage_in (Timed head tsc addr misc) Other h l = h

  found_in : (state : LogState) (line : LogLine) → IsStateInRange state → IsLogLineInRange line → IsInTypes (log_found_at boot cap state line)
  found_in state Nothing h l = tt
  found_in state Unread h l = tt
  found_in state (Part line print vendor) h l = by (has_place state.work line)
    where
      by : (place : Bool) → IsInTypes (if place then found_told state.printers state.print vendor (out_at boot cap state.work line) else Finding.Unread)
      by true = told_found_in state.printers state.print vendor (out_at boot cap state.work line) l.1 (out_in state.work line h l.0)
      by false = tt

  state_in : (state : LogState) (line : LogLine) → IsStateInRange state → IsLogLineInRange line → IsStateInRange (state_after boot cap state line)
  state_in state Nothing h l = h
  state_in state Unread h l = h
  state_in state (Part line print vendor) h l = stage_in state.work line h l.0

  pub numbered_in : (state : LogState) (taken : ℕ) (lines : List LogLine) → AllByRecursion IsLogLineInRange lines → IsStateInRange state → taken + length lines < 2 ^ 64
      → AllByRecursion IsFoundInRange (numbered boot cap state taken lines)
  numbered_in state taken [] all h few = ((omega arith, judged_in 0 (out_at_end state.work) (omega arith) (end_in state.work h)), tt)
  numbered_in state taken (line ∷ lines) all h few = (
    (omega (arith, few), found_in state line h all.0),
    numbered_in (state_after boot cap state line) (taken + 1) lines all.1 (state_in state line h all.0) (omega (arith, few)),
  )
