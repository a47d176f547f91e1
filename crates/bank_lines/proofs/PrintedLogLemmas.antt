-- The texts of machine checks in a log are read as their reports.
use Rattle.std.proofs.Common.{◌≡◌, ℕ, ◌^◌, ◌<◌, Bool, List, [], ◌∷◌, ◌++◌, codes, refl, ap, ◌∙◌}
use Rattle.std.specs.List.{join_with_byte}
use Rattle.ras_facts.specs.declared.bank.BankReport.{BankReport}
use Rattle.ras_klog.specs.Groups.{bank_of_group}
use Rattle.ras_klog.specs.declared.line.KlogLine.TheVariants as Klog
use Rattle.ras_klog.specs.declared.state.KlogOut.TheVariants as Told
use Rattle.bank_lines.specs.EdacReports.{edac_after, no_edac, printed_by_edac, marked_told, told_lines}
use Rattle.bank_lines.specs.Kernel.{IsPrinted, Printed}
use Rattle.bank_lines.specs.LogFilter.{founds_of}
use Rattle.bank_lines.specs.LogGroups.{found_told, log_founds, no_names, printers_after}
use Rattle.bank_lines.specs.LogKernel.{AreHeads, Driver, Heads, status_words, check_words, driver_prefix, edac_hex, edac_kind, edac_log, edac_status, log_report, plain_log, plain_registers, plain_start, plain_time, time_words}
use Rattle.bank_lines.specs.LogLines.{log_line_of, log_mark, printed_plain}
use Rattle.bank_lines.specs.declared.edac_line.EdacLine.TheVariants as Edac
use Rattle.bank_lines.specs.declared.edac_report.EdacReport.{EdacReport}
use Rattle.bank_lines.specs.declared.edac_report.EdacReport.TheVariants as Stage
use Rattle.bank_lines.specs.declared.found.Finding.{Finding}
use Rattle.bank_lines.specs.declared.log_line.LogLine.{LogLine}
use Rattle.bank_lines.specs.declared.log_line.LogLine.TheVariants.{Nothing, Part}
use Rattle.bank_lines.specs.declared.log_line.MarkedLine.{MarkedLine}
use Rattle.bank_lines.specs.declared.log_line.MarkedLine.TheVariants as Marked
use Rattle.bank_lines.specs.declared.log_line.Print.{Print}
use Rattle.bank_lines.proofs.EdacTextLemmas as edac
use Rattle.bank_lines.proofs.PlainTextLemmas as plain
use Rattle.bank_lines.proofs.TwiceLemmas.{found_again}

-- ---- what lines tell, by what each is

step : (report : EdacReport) (line : List ℕ) (marked : MarkedLine) (lines : List (List ℕ)) → log_line_of line ≡ marked → told_lines report (line ∷ lines) ≡ marked_told report marked ∷ told_lines (edac_after report marked) lines
step report line marked lines is = ap (λ (m : MarkedLine). marked_told report m ∷ told_lines (edac_after report m) lines) is

module _ (cpu mcg bank status tsc addr misc vendor seconds : ℕ) where
  -- the lines of EDAC's report, and of the kernel's own, as they are read
  abbrev edac_told : Print → Print → Print → List LogLine → List LogLine
  edac_told first second third more =
      Part (Klog.Start cpu mcg bank status) first 0 ∷ Nothing ∷ Nothing ∷ Part (Klog.Tsc tsc addr misc) second 0 ∷ Part (Klog.Processor seconds) third vendor ∷ more

  abbrev plain_told : Print → Print → Print → List LogLine
  plain_told first second third = Part (Klog.Start cpu mcg bank status) first 0 ∷ Part (Klog.Tsc tsc addr misc) second 0 ∷ Part (Klog.Processor seconds) third vendor ∷ []

  edac_lines : (l0 l1 l2 l3 l4 : List ℕ) (more : List (List ℕ))
      → log_line_of l0 ≡ Marked.Edac (Edac.Start cpu mcg bank status) → log_line_of l1 ≡ Marked.Edac (Edac.Tsc tsc) → log_line_of l2 ≡ Marked.Edac (Edac.Addr addr) → log_line_of l3 ≡ Marked.Edac (Edac.Misc misc)
      → log_line_of l4 ≡ Marked.Edac (Edac.Processor vendor seconds)
      → told_lines no_edac (l0 ∷ l1 ∷ l2 ∷ l3 ∷ l4 ∷ more) ≡ edac_told printed_by_edac printed_by_edac printed_by_edac (told_lines no_edac more)
  edac_lines l0 l1 l2 l3 l4 more e0 e1 e2 e3 e4 =
      step Stage.Idle l0 _ (l1 ∷ l2 ∷ l3 ∷ l4 ∷ more) e0
      ∙ ap (λ (t : List LogLine). Part (Klog.Start cpu mcg bank status) printed_by_edac 0 ∷ t) (
      step Stage.Begun l1 _ (l2 ∷ l3 ∷ l4 ∷ more) e1
      ∙ ap (λ (t : List LogLine). Nothing ∷ t) (
      step (Stage.Counted tsc) l2 _ (l3 ∷ l4 ∷ more) e2
      ∙ ap (λ (t : List LogLine). Nothing ∷ t) (
      step (Stage.Placed tsc addr) l3 _ (l4 ∷ more) e3
      ∙ ap (λ (t : List LogLine). Part (Klog.Tsc tsc addr misc) printed_by_edac 0 ∷ t) (
      step Stage.Told l4 _ more e4))))

  plain_lines : (l0 l1 l2 : List ℕ)
      → log_line_of l0 ≡ Marked.Plain (Part (Klog.Start cpu mcg bank status) printed_plain 0) → log_line_of l1 ≡ Marked.Plain (Part (Klog.Tsc tsc addr misc) printed_plain 0)
      → log_line_of l2 ≡ Marked.Plain (Part (Klog.Processor seconds) printed_plain vendor)
      → told_lines no_edac (l0 ∷ l1 ∷ l2 ∷ []) ≡ plain_told printed_plain printed_plain printed_plain
  plain_lines l0 l1 l2 e0 e1 e2 =
      step Stage.Idle l0 _ (l1 ∷ l2 ∷ []) e0
      ∙ ap (λ (t : List LogLine). Part (Klog.Start cpu mcg bank status) printed_plain 0 ∷ t) (
      step Stage.Idle l1 _ (l2 ∷ []) e1
      ∙ ap (λ (t : List LogLine). Part (Klog.Tsc tsc addr misc) printed_plain 0 ∷ t) (step Stage.Idle l2 _ [] e2))

  -- the report that these lines give
  module _ (boot cap : ℕ) where
    abbrev report : BankReport
    report = bank_of_group boot cap (record { cpu = cpu; mcg = mcg; bank = bank; status = status }) tsc addr misc seconds

    one_edac : (first second third : Print) → log_founds boot cap (edac_told first second third []) ≡ found_told no_names first vendor (Told.Whole report) ∷ []
    one_edac first second third = refl

    one_plain : (first second third : Print) → log_founds boot cap (plain_told first second third) ≡ found_told no_names first vendor (Told.Whole report) ∷ []
    one_plain first second third = refl

    two : (first second third again later last : Print) → log_founds boot cap (edac_told first second third (plain_told again later last))
        ≡ found_told no_names first vendor (Told.Whole report) ∷ found_told (printers_after no_names first vendor (Told.Whole report)) again vendor (Told.Whole report) ∷ []
    two first second third again later last = refl

-- ---- the texts

module _ (boot cap : ℕ) (p : Printed) (h : IsPrinted p) (exception : Bool) where
  plain_is : (heads : Heads) → AreHeads heads
      → told_lines no_edac (plain_log heads exception p)
      ≡ plain_told p.event.cpu p.event.mcg p.event.bank p.event.status p.event.tsc p.event.addr p.event.misc p.event.vendor p.event.seconds
      printed_plain printed_plain printed_plain
  plain_is heads are =
      plain_lines p.event.cpu p.event.mcg p.event.bank p.event.status p.event.tsc p.event.addr p.event.misc p.event.vendor p.event.seconds
      (heads 0 ++ (log_mark ++ join_with_byte 32 (plain_start exception p))) (heads 1 ++ (log_mark ++ join_with_byte 32 (plain_registers p))) (heads 2 ++ (log_mark ++ join_with_byte 32 (plain_time p)))
      (plain.start_line p h exception (heads 0) (are.own 0) (are.plain 0))
      (plain.registers_line p h exception (heads 1) (are.own 1) (are.plain 1))
      (plain.time_line p h exception (heads 2) (are.own 2) (are.plain 2))

  pub plain_read : (heads : Heads) → AreHeads heads
      → founds_of boot cap (plain_log heads exception p) ≡ found_told no_names printed_plain p.event.vendor (Told.Whole (log_report boot cap p.event)) ∷ []
  plain_read heads are =
      ap (log_founds boot cap) (plain_is heads are)
      ∙ one_plain p.event.cpu p.event.mcg p.event.bank p.event.status p.event.tsc p.event.addr p.event.misc p.event.vendor p.event.seconds boot cap
      printed_plain printed_plain printed_plain

  module _ (driver : Driver) (controller : ℕ) (few : controller < 2 ^ 64) (heads : Heads) (are : AreHeads heads) where
    abbrev behind : ℕ → List (List ℕ) → List ℕ
    behind place words = heads place ++ (driver_prefix driver controller ++ join_with_byte 32 words)

    edac_is : (more : List (List ℕ))
        → told_lines no_edac (edac_log heads driver controller exception p ++ more)
        ≡ edac_told p.event.cpu p.event.mcg p.event.bank p.event.status p.event.tsc p.event.addr p.event.misc p.event.vendor p.event.seconds
        printed_by_edac printed_by_edac printed_by_edac (told_lines no_edac more)
    edac_is more =
        edac_lines p.event.cpu p.event.mcg p.event.bank p.event.status p.event.tsc p.event.addr p.event.misc p.event.vendor p.event.seconds
        (behind 0 (check_words p (codes "Check" ∷ edac_kind exception ∷ status_words p (edac_hex driver p.event.mcg) (edac_status driver p.event.status))))
        (behind 1 (codes "TSC" ∷ edac_hex driver p.event.tsc ∷ [] ∷ []))
        (behind 2 (codes "ADDR" ∷ edac_hex driver p.event.addr ∷ [] ∷ []))
        (behind 3 (codes "MISC" ∷ edac_hex driver p.event.misc ∷ [] ∷ []))
        (behind 4 (time_words (edac_hex driver) p [])) more
        (edac.start_line p h driver exception controller few (heads 0) (are.own 0) (are.plain 0) (are.edac 0))
        (edac.tsc_line p h driver exception controller few (heads 1) (are.own 1) (are.plain 1) (are.edac 1))
        (edac.addr_line p h driver exception controller few (heads 2) (are.own 2) (are.plain 2) (are.edac 2))
        (edac.misc_line p h driver exception controller few (heads 3) (are.own 3) (are.plain 3) (are.edac 3))
        (edac.last_line p h driver exception controller few (heads 4) (are.own 4) (are.plain 4) (are.edac 4))

    pub edac_read : founds_of boot cap (edac_log heads driver controller exception p) ≡ found_told no_names printed_by_edac p.event.vendor (Told.Whole (log_report boot cap p.event)) ∷ []
    edac_read =
        ap (log_founds boot cap) (edac_is [])
        ∙ one_edac p.event.cpu p.event.mcg p.event.bank p.event.status p.event.tsc p.event.addr p.event.misc p.event.vendor p.event.seconds boot cap
        printed_by_edac printed_by_edac printed_by_edac

    pub both_read : (others : Heads) → AreHeads others
        → founds_of boot cap (edac_log heads driver controller exception p ++ plain_log others exception p)
        ≡ found_told no_names printed_by_edac p.event.vendor (Told.Whole (log_report boot cap p.event))
        ∷ found_told no_names printed_by_edac p.event.vendor (Told.Whole (log_report boot cap p.event)) ∷ []
    both_read others other =
        let first : Print = printed_by_edac in
        let again : Print = printed_plain in
        ap (log_founds boot cap) (edac_is (plain_log others exception p))
        ∙ ap (λ (more : List LogLine). log_founds boot cap (
        edac_told p.event.cpu p.event.mcg p.event.bank p.event.status p.event.tsc p.event.addr p.event.misc p.event.vendor p.event.seconds
        first printed_by_edac printed_by_edac more)) (plain_is others other)
        ∙ two p.event.cpu p.event.mcg p.event.bank p.event.status p.event.tsc p.event.addr p.event.misc p.event.vendor p.event.seconds boot cap
        first printed_by_edac printed_by_edac again printed_plain printed_plain
        ∙ ap (λ (found : Finding). found_told no_names first p.event.vendor (Told.Whole (log_report boot cap p.event)) ∷ found ∷ [])
        (found_again no_names first again p.event.vendor (log_report boot cap p.event) refl refl refl)
