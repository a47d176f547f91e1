-- A report that the kernel prints is read, line by line.
use Rattle.std.proofs.Common.{◌≡◌, ℕ, ◌+◌, ◌^◌, ◌<◌, ◌≤◌, ◌==◌, ◌||◌, nat_eq, Bool, true, false, List, [], ◌∷◌, ◌++◌, codes, length, map, refl, sym, ap, subst, ◌∙◌, arith, Option, Some, None}
use Rattle.std.specs.Prelude.{not, unwrap_or, IfSome, if◌then◌else◌}
use Rattle.std.specs.List.{AllByRecursion, ends_with}
use Rattle.std.specs.Option.{option_map}
use Rattle.std.proofs.lemmas.Bool.Decides.{nat_tests}
use Rattle.bank_lines.specs.Kernel.{register}
use Rattle.bank_lines.specs.LogHeads.{up_to}
use Rattle.bank_lines.specs.LogLines.{log_stamp_of}
use Rattle.block_lines.specs.Filter.{reporting_over}
use Rattle.block_lines.specs.Kernel.{IsPrinted, PrintedError, error_of, error_text, error_texts, errors_texts, event_text, field_texts, kind_text, location_text, optional, printed_line, start_text, time_name, unless_empty}
use Rattle.block_lines.specs.Lines.{location_of, report_line_of, section_said}
use Rattle.block_lines.specs.LogLines.{own_line_of, report_log_line, without_return}
use Rattle.block_lines.specs.Printed.{AreHeaded, HasReport, IsHead, printed_lines, severity_texts}
use Rattle.block_lines.specs.Reading.{ErrorsRead, line_read, texts_read}
use Rattle.block_lines.specs.Reports.{Reporting, ended_at, is_end, is_start, own_taken, reporting_after, severity_after}
use Rattle.block_lines.specs.declared.log_line.Marking.TheVariants.{Own}
use Rattle.block_lines.specs.declared.log_line.ReportLogLine.{ReportLogLine}
use Rattle.block_lines.specs.declared.memory.MemoryField.TheVariants.{Physical, Mask, At, Kind}
use Rattle.block_lines.specs.declared.report.OpenSection.TheVariants.{Absent}
use Rattle.block_lines.specs.declared.report_line.ReportLine.{ReportLine}
use Rattle.block_lines.specs.declared.report_line.ReportLine.TheVariants as lines
use Rattle.block_lines.proofs.KernelLemmas.{error_read, errors_all_read, event_read, front_is, kind_read, line_is_own, mask_read, physical_read, start_read, time_passed}

-- ---- a line

unchanged : (line : List ℕ) → ends_with nat_eq line (13 ∷ []) ≡ false → without_return line ≡ line
unchanged line whole = rw whole refl

log_line_is : (head : List ℕ) (number : ℕ) (text : List ℕ) → IsHead head number text → number < 2 ^ 64
    → report_log_line (printed_line head number text) ≡ record { stamp = log_stamp_of head; marking = Own (record { report = number; line = report_line_of text }) }
log_line_is head number text h small =
    let line : List ℕ = printed_line head number text in
    let stamp : log_stamp_of (up_to 123 line) ≡ log_stamp_of head = ap log_stamp_of (front_is 123 head _ h.lacks) in
    let own : own_line_of (without_return line) ≡ Own (record { report = number; line = report_line_of text }) =
    ap own_line_of (unchanged line h.whole) ∙ line_is_own head number text h.own h.lacks small in
    λ i. record { stamp = stamp i; marking = own i }

-- ---- the open report

-- a report's number and source, the time stamp of its first line, the boot, and the sources before the report
record Report : Type 0 where
  pub boot : ℕ
  pub began : ℕ
  pub number : ℕ
  pub source : ℕ
  pub begun : ℕ
  pub sources : List ℕ

abbrev going : Report → ℕ → ℕ → ErrorsRead → Reporting
going p last severity read = record {
  boot = p.boot;
  began = p.began;
  work = Some (record { number = p.number; source = p.source; begun = p.begun; last = last; severity = severity; section = read.section });
  errors = read.ended;
  sources = p.sources;
}

abbrev stamped : Option ℕ → ℕ → ReportLine → ReportLogLine
stamped stamp number line = record { stamp = stamp; marking = Own (record { report = number; line = line }) }

goes_on : (p : Report) (last severity : ℕ) (read : ErrorsRead) (stamp : Option ℕ) (line : ReportLine) → is_start line ≡ false
    → own_taken (going p last severity read) p.number stamp line ≡ going p (unwrap_or stamp last) (severity_after severity line) (line_read severity read line)
goes_on p last severity read stamp (lines.Start source) other = absurd cc
goes_on p last severity read stamp (lines.Event told) other = refl
goes_on p last severity read stamp (lines.Error told) other = refl
goes_on p last severity read stamp lines.MemoryType other = refl
goes_on p last severity read stamp lines.OtherType other = refl
goes_on p last severity read stamp (lines.Field field) other = refl
goes_on p last severity read stamp lines.Unread other = refl
goes_on p last severity read stamp lines.Other other = refl

not_ended : (p : Report) (last severity : ℕ) (read : ErrorsRead) (stamp : Option ℕ) (line : ReportLine) → is_start line ≡ false
    → is_end (going p last severity read) (stamped stamp p.number line) ≡ false
not_ended p last severity read stamp line other =
    let same : (p.number == p.number) ≡ true = grind (arith, nat_tests) in
    (λ i. not (same i) || other i)

line_goes_on : (p : Report) (last severity : ℕ) (read : ErrorsRead) (stamp : Option ℕ) (line : ReportLine) → is_start line ≡ false
    → reporting_after (going p last severity read) (stamped stamp p.number line) ≡ going p (unwrap_or stamp last) (severity_after severity line) (line_read severity read line)
line_goes_on p last severity read stamp line other =
    let r : Reporting = going p last severity read in
    let stays : ended_at r (stamped stamp p.number line) ≡ r = rw (not_ended p last severity read stamp line other) refl in
    ap (λ (s : Reporting). own_taken s p.number stamp line) stays ∙ goes_on p last severity read stamp line other

-- ---- texts that begin no report, and tell no severity of a report

record IsQuiet (text : List ℕ) : Type 0 where
  pub other : is_start (report_line_of text) ≡ false
  pub still : (severity : ℕ) → severity_after severity (report_line_of text) ≡ severity

quiet : (text : List ℕ) (line : ReportLine) → report_line_of text ≡ line → is_start line ≡ false → ((severity : ℕ) → severity_after severity line ≡ severity) → IsQuiet text
quiet text line is other still = record {
  other = ap (λ (l : ReportLine). is_start l) is ∙ other;
  still = λ severity. ap (λ (l : ReportLine). severity_after severity l) is ∙ still severity;
}

abbrev AllQuiet : List (List ℕ) → Type 0
AllQuiet texts = AllByRecursion IsQuiet texts

quiet_optional : (name : List ℕ) (o : Option (List ℕ)) (more : List (List ℕ)) → ((t : List ℕ) → IsQuiet (name ++ t)) → AllQuiet more → AllQuiet (optional name o more)
quiet_optional name None more each all = all
quiet_optional name (Some t) more each all = (each t, all)

passes : (name : List ℕ) → ((t : List ℕ) → report_line_of (name ++ t) ≡ lines.Other) → (t : List ℕ) → IsQuiet (name ++ t)
passes name other t = quiet (name ++ t) lines.Other (other t) refl (λ severity. refl)

-- a text with a number after its name is quiet
quiet_number : (name : List ℕ) (text_of : ℕ → List ℕ) (o : Option ℕ) (more : List (List ℕ)) → IfSome o (λ n. IsQuiet (name ++ text_of n)) → AllQuiet more
    → AllQuiet (optional name (option_map text_of o) more)
quiet_number name text_of None more each all = all
quiet_number name text_of (Some n) more each all = (each, all)

quiet_physical : (o : Option ℕ) → IfSome o (λ n. n < 2 ^ 64) → IfSome o (λ n. IsQuiet (codes "  physical_address: 0x" ++ register n))
quiet_physical None small = tt
quiet_physical (Some n) small = quiet (codes "  physical_address: 0x" ++ register n) (lines.Field (Some (Physical n))) (physical_read n small) refl (λ severity. refl)

quiet_mask : (o : Option ℕ) → IfSome o (λ n. n < 2 ^ 64) → IfSome o (λ n. IsQuiet (codes "  physical_address_mask: 0x" ++ register n))
quiet_mask None small = tt
quiet_mask (Some n) small = quiet (codes "  physical_address_mask: 0x" ++ register n) (lines.Field (Some (Mask n))) (mask_read n small) refl (λ severity. refl)

quiet_kind : (name : List ℕ) (o : Option ℕ) → IfSome o (λ n. n < 2 ^ 8) → IfSome o (λ n. IsQuiet (codes "  error_type: " ++ kind_text name n))
quiet_kind name None small = tt
quiet_kind name (Some n) small = quiet (codes "  error_type: " ++ kind_text name n) (lines.Field (Some (Kind n))) (kind_read name n small) refl (λ severity. refl)

quiet_place : (node card number : Option ℕ) (others : List ℕ) (more : List (List ℕ)) → section_said others ≡ lines.Other → AllQuiet more
    → AllQuiet (unless_empty (location_text node card number others) more)
quiet_place (Some n) card number others more silent all =
    (quiet (codes "  " ++ location_text (Some n) card number others) (lines.Field (Some (At (location_of (location_text (Some n) card number others))))) refl refl (λ severity. refl), all)
quiet_place None (Some c) number others more silent all =
    (quiet (codes "  " ++ location_text None (Some c) number others) (lines.Field (Some (At (location_of (location_text None (Some c) number others))))) refl refl (λ severity. refl), all)
quiet_place None None (Some m) others more silent all =
    (quiet (codes "  " ++ location_text None None (Some m) others) (lines.Field (Some (At (location_of (location_text None None (Some m) others))))) refl refl (λ severity. refl), all)
quiet_place None None None [] more silent all = all
quiet_place None None None (b ∷ others) more silent all = (quiet (codes "  " ++ b ∷ others) lines.Other silent refl (λ severity. refl), all)

quiet_fields : (p : PrintedError) (more : List (List ℕ)) → IsPrinted p → AllQuiet more → AllQuiet (field_texts p more)
quiet_fields p more h all =
    quiet_optional (codes "   error_status: ") p.status _ (passes (codes "   error_status: ") (λ t. refl))
    (quiet_number (codes "  physical_address: 0x") register p.physical _ (quiet_physical p.physical h.physical)
    (quiet_number (codes "  physical_address_mask: 0x") register p.mask _ (quiet_mask p.mask h.mask)
    (quiet_place p.node p.card p.«module» p.others _ h.others.silent
    (quiet_number (codes "  error_type: ") (kind_text p.kind_name) p.kind _ (quiet_kind p.kind_name p.kind h.kind)
    (quiet_optional (codes "  DIMM location: ") p.slot more (passes (codes "  DIMM location: ") (λ t. refl)) all)))))

quiet_error : (number : ℕ) (p : PrintedError) (more : List (List ℕ)) → IsPrinted p → number < 2 ^ 64 → AllQuiet more → AllQuiet (error_texts number p more)
quiet_error number p more h small all =
    quiet_optional (time_name p.is_precise) p.time _ (passes (time_name p.is_precise) (time_passed p.is_precise)) (
      quiet (error_text number p.severity) (lines.Error p.severity) (error_read number p.severity small h.severity) refl (λ severity. refl),
      quiet_optional (codes " fru_id: ") p.unit_id _ (passes (codes " fru_id: ") (λ t. refl))
          (quiet_optional (codes " fru_text: ") p.unit_text _ (passes (codes " fru_text: ") (λ t. refl)) (
            quiet (codes "  section_type: memory error") lines.MemoryType refl refl (λ severity. refl),
            quiet_fields p more h all,
          )),
    )

quiet_errors : (number : ℕ) (ps : List PrintedError) → AllByRecursion IsPrinted ps → number + length ps < 2 ^ 64 → AllQuiet (errors_texts number ps)
quiet_errors number [] all fits = tt
quiet_errors number (p ∷ ps) all fits =
    quiet_error number p (errors_texts (number + 1) ps) all.0 (omega (arith, fits)) (quiet_errors (number + 1) ps all.1 (omega (arith, fits)))

-- ---- lines, one after another

-- after quiet lines the report has the same severity
texts_go_on : (p : Report) (last severity : ℕ) (read : ErrorsRead) (heads texts : List (List ℕ)) → p.number < 2 ^ 64 → AreHeaded p.number heads texts → AllQuiet texts
    → (later : ℕ) × (reporting_over (going p last severity read) (printed_lines p.number heads texts) ≡ going p later severity (texts_read severity read texts))
texts_go_on p last severity read [] [] small headed all = (last, refl)
texts_go_on p last severity read [] (text ∷ texts) small headed all = absurd headed
texts_go_on p last severity read (head ∷ heads) [] small headed all = absurd headed
texts_go_on p last severity read (head ∷ heads) (text ∷ texts) small headed all =
    let line : ReportLine = report_line_of text in
    let next : ℕ = unwrap_or (log_stamp_of head) last in
    let one : reporting_after (going p last severity read) (report_log_line (printed_line head p.number text)) ≡ going p next severity (line_read severity read line) =
    ap (λ (l : ReportLogLine). reporting_after (going p last severity read) l) (log_line_is head p.number text headed.0 small)
    ∙ line_goes_on p last severity read (log_stamp_of head) line all.0.other
    ∙ ap (λ (s : ℕ). going p next s (line_read severity read line)) (all.0.still severity) in
    let (later, rest) = texts_go_on p next severity (line_read severity read line) heads texts small headed.1 all.1 in
    (later, ap (λ (r : Reporting). reporting_over r (printed_lines p.number heads texts)) one ∙ rest)

-- one line says the severity, and the lines after it are quiet
event_goes_on : (p : Report) (last severity : ℕ) (heads : List (List ℕ)) (ps : List PrintedError) → p.number < 2 ^ 64 → severity < 4 → AllByRecursion IsPrinted ps → length ps ≤ 12
    → AreHeaded p.number heads (event_text severity ∷ errors_texts 0 ps)
    → (later : ℕ) × (reporting_over (going p last 3 (record { ended = []; section = Absent })) (printed_lines p.number heads (event_text severity ∷ errors_texts 0 ps))
    ≡ going p later severity (texts_read severity (record { ended = []; section = Absent }) (errors_texts 0 ps)))
event_goes_on p last severity [] ps small fits all few headed = absurd headed
event_goes_on p last severity (head ∷ heads) ps small fits all few headed =
    let none : ErrorsRead = record { ended = []; section = Absent } in
    let next : ℕ = unwrap_or (log_stamp_of head) last in
    let is : report_line_of (event_text severity) ≡ lines.Event severity = event_read severity fits in
    let one : reporting_after (going p last 3 none) (report_log_line (printed_line head p.number (event_text severity))) ≡ going p next severity none =
    ap (λ (l : ReportLogLine). reporting_after (going p last 3 none) l) (log_line_is head p.number (event_text severity) headed.0 small)
    ∙ ap (λ (l : ReportLine). reporting_after (going p last 3 none) (stamped (log_stamp_of head) p.number l)) is
    ∙ line_goes_on p last 3 none (log_stamp_of head) (lines.Event severity) refl in
    let (later, rest) = texts_go_on p next severity none heads (errors_texts 0 ps) small headed.1 (quiet_errors 0 ps all (omega (arith, few))) in
    (later, ap (λ (r : Reporting). reporting_over r (printed_lines p.number heads (errors_texts 0 ps))) one ∙ rest)

corrected_quiet : IsQuiet (codes "It has been corrected by h/w and requires no further action")
corrected_quiet = quiet (codes "It has been corrected by h/w and requires no further action") lines.Other refl refl (λ severity. refl)

severity_goes_on : (p : Report) (last severity : ℕ) (heads : List (List ℕ)) (ps : List PrintedError) → p.number < 2 ^ 64 → severity < 4 → AllByRecursion IsPrinted ps → length ps ≤ 12
    → AreHeaded p.number heads (severity_texts severity ps)
    → (later : ℕ) × (reporting_over (going p last 3 (record { ended = []; section = Absent })) (printed_lines p.number heads (severity_texts severity ps))
    ≡ going p later severity (texts_read severity (record { ended = []; section = Absent }) (errors_texts 0 ps)))
severity_goes_on p last severity heads ps small fits all few = by (severity == 2) heads
  where
    none : ErrorsRead
    none = record { ended = []; section = Absent }

    told : List (List ℕ)
    told = event_text severity ∷ errors_texts 0 ps

    by : (is_corrected : Bool) (heads : List (List ℕ))
        → AreHeaded p.number heads (if is_corrected then codes "It has been corrected by h/w and requires no further action" ∷ told else told)
        → (later : ℕ) × (reporting_over (going p last 3 none) (printed_lines p.number heads (if is_corrected then codes "It has been corrected by h/w and requires no further action" ∷ told else told))
        ≡ going p later severity (texts_read severity none (errors_texts 0 ps)))
    by false heads headed = event_goes_on p last severity heads ps small fits all few headed
    by true [] headed = absurd headed
    by true (head ∷ heads) headed =
        let text : List ℕ = codes "It has been corrected by h/w and requires no further action" in
        let next : ℕ = unwrap_or (log_stamp_of head) last in
        let one : reporting_after (going p last 3 none) (report_log_line (printed_line head p.number text)) ≡ going p next 3 none =
        ap (λ (l : ReportLogLine). reporting_after (going p last 3 none) l) (log_line_is head p.number text headed.0 small)
        ∙ line_goes_on p last 3 none (log_stamp_of head) lines.Other refl in
        let (later, rest) = event_goes_on p next severity heads ps small fits all few headed.1 in
        (later, ap (λ (r : Reporting). reporting_over r (printed_lines p.number heads told)) one ∙ rest)

-- ---- the report

pub report_is_read : (r : Reporting) (number source severity stamp : ℕ) (head : List ℕ) (heads : List (List ℕ)) (ps : List PrintedError)
    → number < 2 ^ 64 → source < 2 ^ 16 → severity < 4 → AllByRecursion IsPrinted ps → length ps ≤ 12
    → log_stamp_of head ≡ Some stamp → AreHeaded number (head ∷ heads) (start_text source ∷ severity_texts severity ps)
    → HasReport (reporting_over r (printed_lines number (head ∷ heads) (start_text source ∷ severity_texts severity ps))) source stamp severity (map error_of ps)
report_is_read r number source severity stamp head heads ps small fits less all few is headed =
    let line : ReportLogLine = stamped (Some stamp) number (lines.Start source) in
    let before : Reporting = ended_at r line in
    let p : Report = record { boot = before.boot; began = before.began; number = number; source = source; begun = stamp; sources = before.sources } in
    let none : ErrorsRead = record { ended = []; section = Absent } in
    let first : reporting_after r (report_log_line (printed_line head number (start_text source))) ≡ going p stamp 3 none =
    ap (λ (l : ReportLogLine). reporting_after r l)
    (log_line_is head number (start_text source) headed.0 small ∙ (λ i. stamped (is i) number (start_read source fits i))) in
    let (later, rest) = severity_goes_on p stamp severity heads ps small less all few headed.1 in
    let done : reporting_over r (printed_lines number (head ∷ heads) (start_text source ∷ severity_texts severity ps)) ≡ going p later severity (texts_read severity none (errors_texts 0 ps)) =
    ap (λ (s : Reporting). reporting_over s (printed_lines number heads (severity_texts severity ps))) first ∙ rest in
    subst (λ (s : Reporting). HasReport s source stamp severity (map error_of ps)) (sym done) (record {
      report = record { number = number; source = source; begun = stamp; last = later; severity = severity; section = (texts_read severity none (errors_texts 0 ps)).section };
      work = refl;
      source_is = refl;
      begun_is = refl;
      severity_is = refl;
      errors_are = errors_all_read severity ps all few;
    })
