-- What is printed of a log, and the reports in it.
use Rattle.std.proofs.Common.{◌≡◌, ℕ, suc, ◌+◌, ◌==◌, ◌⊎◌, inl, inr, Bool, true, false, List, [], ◌∷◌, ◌++◌, length, take, drop, refl, sym, ap, ◌∙◌, append_assoc, Option, None, Some, if◌then◌else◌, Result, Ok}
use Rattle.std.proofs.lemmas.List.{append-nil}
use Rattle.std.specs.List.{flat_map}
use Rattle.std.specs.Option.{option_map_or}
use Rattle.ras_klog.specs.Reading.{klog_line_of, provided}
use Rattle.line_filters.specs.Filter.{Took}
use Rattle.line_filters.specs.Filters.{texts_in}
use Rattle.mca_status.specs.Registers.{valid}
use Rattle.ras_facts.specs.Facts.{status_in}
use Rattle.ras_facts.specs.declared.bank.BankReport.{BankReport}
use Rattle.ras_klog.specs.declared.state.KlogOut.{KlogOut}
use Rattle.ras_klog.specs.declared.state.KlogOut.TheVariants as Told
use Rattle.ras_klog.specs.Stages.{at_start, has_place, out_at}
use Rattle.ras_script.specs.declared.line.LineRefused.{LineRefused}
use Rattle.bank_lines.specs.Counts.{KeyCounts, counted_with, counts_after, named_after, named_found}
use Rattle.bank_lines.specs.Finding.{lacks_address, report_in, reports_in, without_address}
use Rattle.bank_lines.specs.LogAlong.{LogProgress, answers_along, log_found_at, found_at_end, log_at_start, log_makes, rest_along, state_after}
use Rattle.bank_lines.specs.LogFilter.{log_reports, log_rest, log_script}
use Rattle.bank_lines.specs.LogGroups.{LogGroup, found_told, group_founds_from, group_vendor, groups_judged, is_by, judged, log_founds, log_groups, named_by, no_names, printed_by, printers_with, told_in}
use Rattle.bank_lines.specs.EdacLines.{driver_text, edac_line_of, edac_mark, is_of_edac}
use Rattle.bank_lines.specs.EdacReports.{edac_after, no_edac, marked_told, told_lines}
use Rattle.bank_lines.specs.LogHeads.{is_own}
use Rattle.bank_lines.specs.LogLines.{driver_told, edac_told_by, is_of_report, is_own_line, left_unread, line_told_by, log_line_by, log_line_of, log_mark, mark_of, place_in, printed_plain}
use Rattle.bank_lines.specs.Texts.{found_text, printed}
use Rattle.bank_lines.specs.declared.found.Finding.{Finding}
use Rattle.bank_lines.specs.declared.log_line.LogLine.{LogLine}
use Rattle.bank_lines.specs.declared.edac_report.EdacReport.{EdacReport}
use Rattle.bank_lines.specs.declared.log_line.LogLine.TheVariants.{Nothing, Unread, Part}
use Rattle.bank_lines.specs.declared.log_line.MarkedLine.{MarkedLine}
use Rattle.bank_lines.specs.declared.log_line.MarkedLine.TheVariants.{Plain}
use Rattle.bank_lines.specs.declared.mark.LogMark.{LogMark}
use Rattle.bank_lines.specs.declared.mark.LogMark.TheVariants.{AtPlain, AtEdac}
use Rattle.bank_lines.specs.declared.log_line.Print.{Print}
use Rattle.bank_lines.specs.declared.log_state.LogState.{LogState}
use Rattle.bank_lines.specs.declared.log_state.Printers.{Printers}
use Rattle.bank_lines.proofs.CountLemmas.{is_full, names_on}
use Rattle.bank_lines.proofs.LogFilterLemmas.{answers_are, rest_is}
use Rattle.bank_lines.proofs.LogFoundLemmas.{numbered}
use Rattle.bank_lines.proofs.LogGroupLemmas.{ends, group_found, to_end}

-- ---- a step of the filter

pub took : (log : LogProgress) (line : List ℕ) (report : EdacReport) (told : LogLine) (state : LogState) (found : Finding) (old new : List ℕ)
    → told ≡ marked_told log.edac (log_line_of line)
    → report ≡ edac_after log.edac (log_line_of line)
    → found ≡ log_found_at log.boot log.cap log.state told
    → state ≡ state_after log.boot log.cap log.state told
    → new ≡ old ++ found_text (log.taken + 1) found
    → Took line (log_makes log) (log_makes (record { boot = log.boot; cap = log.cap; edac = report; state = state; taken = log.taken + 1 })) old new
took log line report told state found old new told_is report_is found_is state_is adds =
    let next : EdacReport = edac_after log.edac (log_line_of line) in
    record {
      text = found_text (log.taken + 1) found;
      out = adds;
      answers = λ lines.
          ap (λ (t : LogLine). Ok (found_text (log.taken + 1) (log_found_at log.boot log.cap log.state t)) ∷ answers_along log.boot log.cap (state_after log.boot log.cap log.state t) (log.taken + 1) (told_lines next lines)) (sym told_is)
          ∙ ap (λ (f : Finding). Ok (found_text (log.taken + 1) f) ∷ answers_along log.boot log.cap (state_after log.boot log.cap log.state told) (log.taken + 1) (told_lines next lines)) (sym found_is)
          ∙ ap (λ (s : LogState). Ok (found_text (log.taken + 1) found) ∷ answers_along log.boot log.cap s (log.taken + 1) (told_lines next lines)) (sym state_is)
          ∙ ap (λ (r : EdacReport). Ok (found_text (log.taken + 1) found) ∷ answers_along log.boot log.cap state (log.taken + 1) (told_lines r lines)) (sym report_is);
      rest = λ lines.
          ap (λ (t : LogLine). rest_along log.boot log.cap (state_after log.boot log.cap log.state t) (told_lines next lines)) (sym told_is)
          ∙ ap (λ (s : LogState). rest_along log.boot log.cap s (told_lines next lines)) (sym state_is)
          ∙ ap (λ (r : EdacReport). rest_along log.boot log.cap state (told_lines r lines)) (sym report_is);
      last = λ lines. refl;
    }

-- ---- all that is printed

-- as many lines are read as there are
pub as_many : (report : EdacReport) (lines : List (List ℕ)) → length (told_lines report lines) ≡ length lines
as_many report [] = refl
as_many report (line ∷ lines) = ap suc (as_many (edac_after report (log_line_of line)) lines)

abbrev joined : List (List ℕ) → List ℕ
joined texts = flat_map (λ (text : List ℕ). text) texts

module _ (boot cap : ℕ) where
  told_is : (state : LogState) (taken : ℕ) (lines : List LogLine)
      → joined (texts_in (answers_along boot cap state taken lines)) ++ rest_along boot cap state lines
      ≡ printed (numbered boot cap state taken lines)
  told_is state taken [] = sym (append-nil (found_text 0 (found_at_end state)))
  told_is state taken (line ∷ lines) =
      let after : LogState = state_after boot cap state line in
      let text : List ℕ = found_text (taken + 1) (log_found_at boot cap state line) in
      append_assoc text (joined (texts_in (answers_along boot cap after (taken + 1) lines))) (rest_along boot cap after lines)
      ∙ ap (λ (rest : List ℕ). text ++ rest) (told_is after (taken + 1) lines)

  pub script_is : (lines : List (List ℕ)) → log_script boot cap lines ≡ printed (numbered boot cap log_at_start 0 (told_lines no_edac lines))
  script_is lines =
      ap (λ (answers : List (Result (List ℕ) LineRefused)). joined (texts_in answers) ++ log_rest boot cap lines) (sym (answers_are boot cap [] lines))
      ∙ ap (λ (rest : List ℕ). joined (texts_in (answers_along boot cap log_at_start 0 (told_lines no_edac lines))) ++ rest) (sym (rest_is boot cap lines))
      ∙ told_is log_at_start 0 (told_lines no_edac lines)

  -- a line that is skipped has no report
  report_is : (state : LogState) (line : LogLine) → report_in (log_found_at boot cap state line) ≡ report_in (group_found boot cap state line)
  report_is state Nothing = refl
  report_is state Unread = refl
  report_is state (Part line print vendor) = by (has_place state.work line)
    where
      by : (place : Bool)
          → report_in (if place then found_told state.printers state.print vendor (out_at boot cap state.work line) else Finding.Unread)
          ≡ report_in (if place then found_told state.printers state.print vendor (out_at boot cap state.work line) else Finding.Nothing)
      by true = refl
      by false = refl

  numbered_reports : (state : LogState) (taken : ℕ) (lines : List LogLine)
      → reports_in (numbered boot cap state taken lines) ≡ flat_map report_in (to_end boot cap state lines)
  numbered_reports state taken [] = refl
  numbered_reports state taken (line ∷ lines) =
      let after : LogState = state_after boot cap state line in
      ap (λ (front : List BankReport). front ++ reports_in (numbered boot cap after (taken + 1) lines)) (report_is state line)
      ∙ ap (λ (rest : List BankReport). report_in (group_found boot cap state line) ++ rest) (numbered_reports after (taken + 1) lines)

  pub reports_are : (lines : List (List ℕ)) → reports_in (numbered boot cap log_at_start 0 (told_lines no_edac lines)) ≡ log_reports boot cap lines
  reports_are lines =
      numbered_reports log_at_start 0 (told_lines no_edac lines)
      ∙ ends boot cap report_in refl at_start printed_plain no_names (told_lines no_edac lines)

-- ---- lines that aren't the kernel's own

untold_is : (text : List ℕ) → (left_unread text ≡ Nothing) ⊎ (left_unread text ≡ Unread)
untold_is text = by (is_of_report text)
  where
    by : (is : Bool) → ((if is then Unread else Nothing) ≡ Nothing) ⊎ ((if is then Unread else Nothing) ≡ Unread)
    by true = inr refl
    by false = inl refl

plain_is : (line : LogLine) → (line ≡ Nothing) ⊎ (line ≡ Unread) → (Plain line ≡ Plain Nothing) ⊎ (Plain line ≡ Plain Unread)
plain_is line (inl is) = inl (ap (λ (l : LogLine). Plain l) is)
plain_is line (inr is) = inr (ap (λ (l : LogLine). Plain l) is)

-- a line whose head isn't the kernel's own says nothing or is unread, by either prefix
after_plain : (head marked : List ℕ) (own : Bool) → own ≡ false
    → ((if own then line_told_by printed_plain (drop (length log_mark) marked) (klog_line_of marked) else left_unread (drop (length log_mark) marked)) ≡ Nothing)
    ⊎ ((if own then line_told_by printed_plain (drop (length log_mark) marked) (klog_line_of marked) else left_unread (drop (length log_mark) marked)) ≡ Unread)
after_plain head marked true is = absurd cc
after_plain head marked false is = untold_is (drop (length log_mark) marked)

after_driver : (head text : List ℕ) (own of : Bool) → own ≡ false
    → ((if of then edac_told_by (provided own (edac_line_of text)) else Plain Nothing) ≡ Plain Nothing)
    ⊎ ((if of then edac_told_by (provided own (edac_line_of text)) else Plain Nothing) ≡ Plain Unread)
after_driver head text true of is = absurd cc
after_driver head text false true is = inr refl
after_driver head text false false is = inl refl

after_edac : (head : List ℕ) (text : Option (List ℕ)) → is_own head ≡ false
    → (option_map_or (driver_told head) text (Plain Nothing) ≡ Plain Nothing) ⊎ (option_map_or (driver_told head) text (Plain Nothing) ≡ Plain Unread)
after_edac head None is = inl refl
after_edac head (Some text) is = after_driver head text (is_own head) (is_of_edac text) is

pub not_own : (line : List ℕ) → is_own_line line ≡ false → (log_line_of line ≡ Plain Nothing) ⊎ (log_line_of line ≡ Plain Unread)
not_own line = by (mark_of line)
  where
    by : (mark : Option LogMark) → option_map_or (λ mark. is_own (take (place_in mark) line)) mark false ≡ false
        → (log_line_by line mark ≡ Plain Nothing) ⊎ (log_line_by line mark ≡ Plain Unread)
    by None is = inl refl
    by (Some (AtPlain place)) is = plain_is _ (after_plain (take place line) (drop place line) (is_own (take place line)) is)
    by (Some (AtEdac place)) is = after_edac (take place line) (driver_text (drop (length edac_mark) (drop place line))) is

-- ---- without such a line

-- a line that says nothing changes no report
told_without : (report : EdacReport) (line : MarkedLine) → (line ≡ Plain Nothing) ⊎ (line ≡ Plain Unread)
    → ((marked_told report line ≡ Nothing) ⊎ (marked_told report line ≡ Unread)) × (edac_after report line ≡ report)
told_without report line (inl is) = rw is (inl refl, refl)
told_without report line (inr is) = rw is (inr refl, refl)

-- what lines say, with one more line among them that says nothing
more_told : (report : EdacReport) (before after : List (List ℕ)) (line : List ℕ) → (log_line_of line ≡ Plain Nothing) ⊎ (log_line_of line ≡ Plain Unread)
    → (first rest : List LogLine) × (told : LogLine) × ((told ≡ Nothing) ⊎ (told ≡ Unread))
    × (told_lines report (before ++ line ∷ after) ≡ first ++ told ∷ rest) × (told_lines report (before ++ after) ≡ first ++ rest)
more_told report [] after line other =
    let is = told_without report (log_line_of line) other in (
      [],
      told_lines report after,
      marked_told report (log_line_of line),
      is.0,
      ap (λ (r : EdacReport). marked_told report (log_line_of line) ∷ told_lines r after) is.1,
      refl,
    )
more_told report (b ∷ before) after line other =
    let (first, rest, told, none, with, without) = more_told (edac_after report (log_line_of b)) before after line other in
    let told_b : LogLine = marked_told report (log_line_of b) in
    (told_b ∷ first, rest, told, none, ap (λ (lines : List LogLine). told_b ∷ lines) with, ap (λ (lines : List LogLine). told_b ∷ lines) without)

module _ (boot cap : ℕ) where
  without : (state : LogState) (before after : List LogLine) (line : LogLine) → (line ≡ Nothing) ⊎ (line ≡ Unread)
      → flat_map report_in (to_end boot cap state (before ++ line ∷ after)) ≡ flat_map report_in (to_end boot cap state (before ++ after))
  without state [] after line (inl is) =
      ap (λ (l : LogLine). flat_map report_in (group_found boot cap state l ∷ to_end boot cap (state_after boot cap state l) after)) is
  without state [] after line (inr is) =
      ap (λ (l : LogLine). flat_map report_in (group_found boot cap state l ∷ to_end boot cap (state_after boot cap state l) after)) is
  without state (b ∷ before) after line is =
      ap (λ (rest : List BankReport). report_in (group_found boot cap state b) ++ rest) (without (state_after boot cap state b) before after line is)

  all_reports : (lines : List (List ℕ)) → flat_map report_in (to_end boot cap log_at_start (told_lines no_edac lines)) ≡ log_reports boot cap lines
  all_reports lines = ends boot cap report_in refl at_start printed_plain no_names (told_lines no_edac lines)

  pub reports_without : (before after : List (List ℕ)) (line : List ℕ) → is_own_line line ≡ false
      → log_reports boot cap (before ++ line ∷ after) ≡ log_reports boot cap (before ++ after)
  reports_without before after line foreign =
      let (first, rest, told, none, with, fewer) = more_told no_edac before after line (not_own line foreign) in
      sym (all_reports (before ++ line ∷ after))
      ∙ ap (λ (ls : List LogLine). flat_map report_in (to_end boot cap log_at_start ls)) with
      ∙ without log_at_start first rest told none
      ∙ sym (ap (λ (ls : List LogLine). flat_map report_in (to_end boot cap log_at_start ls)) fewer)
      ∙ all_reports (before ++ after)

-- ---- names

never_full : (vendor : ℕ) (out : KlogOut) → is_full (judged vendor out) ≡ false
never_full vendor Told.Nothing = refl
never_full vendor (Told.Partial cpu bank) = refl
never_full vendor (Told.Whole r) = by (vendor == 0) (valid (status_in r)) (r.bank == 255) (lacks_address r)
  where
    by : (intel is_valid firmware lacks : Bool)
        → is_full (if intel then (if is_valid then (if firmware then Finding.Firmware r.cpu else (if lacks then Finding.Torn (without_address r) else Finding.Whole r)) else Finding.Nothing)
        else Finding.Foreign vendor r.cpu r.bank) ≡ false
    by true true true lacks = refl
    by true true false true = refl
    by true true false false = refl
    by true false firmware lacks = refl
    by false is_valid firmware lacks = refl

-- the counts of one printer
abbrev of_printer : Bool → Printers → KeyCounts
of_printer by_edac before = if by_edac then before.edac else before.kernel

one_more : (by_edac : Bool) (before : Printers) (is : Bool) (report : BankReport)
    → of_printer by_edac (if is then record before { edac = counted_with before.edac report } else record before { kernel = counted_with before.kernel report })
    ≡ (if is_by by_edac is then counted_with (of_printer by_edac before) report else of_printer by_edac before)
one_more true before true report = refl
one_more true before false report = refl
one_more false before true report = refl
one_more false before false report = refl

no_more : (by_edac : Bool) (before : Printers) (is : Bool)
    → of_printer by_edac before ≡ (if is_by by_edac is then of_printer by_edac before else of_printer by_edac before)
no_more true before true = refl
no_more true before false = refl
no_more false before true = refl
no_more false before false = refl

-- a finding changes only its own printer's counts
counts_on : (by_edac : Bool) (before : Printers) (print : Print) (found : Finding)
    → of_printer by_edac (printers_with before print found)
    ≡ (if is_by by_edac print.by_edac then counts_after (of_printer by_edac before) found else of_printer by_edac before)
counts_on by_edac before print (Finding.Whole report) = one_more by_edac before print.by_edac report
counts_on by_edac before print (Finding.Torn report) = one_more by_edac before print.by_edac report
counts_on by_edac before print (Finding.Full report) = no_more by_edac before print.by_edac
counts_on by_edac before print Finding.Nothing = no_more by_edac before print.by_edac
counts_on by_edac before print (Finding.Partial cpu bank) = no_more by_edac before print.by_edac
counts_on by_edac before print (Finding.Foreign vendor cpu bank) = no_more by_edac before print.by_edac
counts_on by_edac before print (Finding.Firmware cpu) = no_more by_edac before print.by_edac
counts_on by_edac before print Finding.Unread = no_more by_edac before print.by_edac

module _ (boot cap : ℕ) (by_edac : Bool) where
  names_from : (before : Printers) (groups : List LogGroup)
      → printed_by by_edac groups (group_founds_from boot cap before groups)
      ≡ named_after (of_printer by_edac before) (printed_by by_edac groups (groups_judged boot cap groups))
  names_from before [] = refl
  names_from before (group ∷ groups) =
      let vendor : ℕ = group_vendor group.rest in
      let found : Finding = judged vendor (told_in boot cap group) in
      let after : Printers = printers_with before group.print found in
      let more : List BankReport = printed_by by_edac groups (groups_judged boot cap groups) in
      ap (λ (rest : List BankReport). (if is_by by_edac group.print.by_edac then report_in (named_by before group.print found) else []) ++ rest) (names_from after groups)
      ∙ ap (λ (counts : KeyCounts). (if is_by by_edac group.print.by_edac then report_in (named_by before group.print found) else []) ++ named_after counts more) (counts_on by_edac before group.print found)
      ∙ by found (never_full vendor (told_in boot cap group)) more group.print.by_edac by_edac
    where
      by : (found : Finding) → is_full found ≡ false → (more : List BankReport) → (is other : Bool)
          → (if is_by other is then report_in (named_found (if is then before.edac else before.kernel) found) else [])
          ++ named_after (if is_by other is then counts_after (of_printer other before) found else of_printer other before) more
          ≡ named_after (of_printer other before) ((if is_by other is then report_in found else []) ++ more)
      by found none more true true = names_on before.edac found more none
      by found none more true false = refl
      by found none more false true = refl
      by found none more false false = names_on before.kernel found more none

  pub names_are : (lines : List LogLine)
      → printed_by by_edac (log_groups lines) (log_founds boot cap lines)
      ≡ named_after [] (printed_by by_edac (log_groups lines) (groups_judged boot cap (log_groups lines)))
  names_are lines =
      names_from no_names (log_groups lines)
      ∙ ap (λ (counts : KeyCounts). named_after counts (printed_by by_edac (log_groups lines) (groups_judged boot cap (log_groups lines)))) (none by_edac)
    where
      none : (other : Bool) → of_printer other no_names ≡ []
      none true = refl
      none false = refl
