-- Laws on the lines of a trace.
use Rattle.std.proofs.Common.{◌≡◌, ℕ, ◌+◌, ◌^◌, ◌<◌, ◌≤◌, ◌==◌, ◌⊎◌, inl, inr, Bool, true, false, List, [], ◌∷◌, ◌++◌, length, map, take, drop, refl, sym, ap, ◌∙◌, arith, Option, Some, None, Result, Ok, if◌then◌else◌}
use Rattle.std.specs.List.{AllByRecursion}
use Rattle.std.specs.Option.{option_map_or}
use Rattle.mca_status.specs.Registers.{valid}
use Rattle.ras_facts.specs.Facts.{status_in}
use Rattle.ras_facts.specs.declared.bank.BankReport.{BankReport}
use Rattle.ras_script.specs.declared.line.LineRefused.{LineRefused}
use Rattle.bank_lines.specs.declared.event.TraceEvent.{TraceEvent}
use Rattle.bank_lines.specs.Counts.{KeyCounts, counts_after, named_after, named_found}
use Rattle.bank_lines.specs.declared.found.Finding.{Finding}
use Rattle.bank_lines.specs.declared.found.Finding.TheVariants.{Nothing, Whole, Foreign, Firmware, Unread}
use Rattle.bank_lines.specs.TraceEvent.{event_in}
use Rattle.bank_lines.specs.Filter.{answers_from, founds_from, trace_founds, traced_reports}
use Rattle.bank_lines.specs.Finding.{IsFoundInRange, Numbered, found_of, report_in, reports_in}
use Rattle.bank_lines.specs.Texts.{found_text}
use Rattle.bank_lines.specs.Trace.{event_found, event_report, found_at, is_event_line, is_traced, last_mark, trace_found}
use Rattle.bank_lines.proofs.CountLemmas.{is_full, named_in, names_on}
use Rattle.bank_lines.proofs.RangeLemmas.{trace_in}

in_range_from : (boot : ℕ) (counts : KeyCounts) (number : ℕ) (lines : List (List ℕ)) → boot < 2 ^ 64 → number + length lines ≤ 2 ^ 64 → AllByRecursion IsFoundInRange (founds_from boot counts number lines)
in_range_from boot counts number [] small few = tt
in_range_from boot counts number (line ∷ lines) small few =
    ((omega arith, named_in counts (trace_found boot line) (trace_in boot line small)), in_range_from boot (counts_after counts (trace_found boot line)) (number + 1) lines small (omega arith))

pub founds_in_range : (boot : ℕ) (lines : List (List ℕ)) → boot < 2 ^ 64 → length lines < 2 ^ 64 → AllByRecursion IsFoundInRange (trace_founds boot lines)
founds_in_range boot lines small few = in_range_from boot [] 1 lines small (omega arith)

answers_are : (boot : ℕ) (counts : KeyCounts) (number : ℕ) (lines : List (List ℕ)) → answers_from boot counts number lines ≡ map (λ (n : Numbered). Ok (found_text n.number n.found)) (founds_from boot counts number lines)
answers_are boot counts number [] = refl
answers_are boot counts number (line ∷ lines) =
    ap (λ (answers : List (Result (List ℕ) LineRefused)). Ok (found_text number (named_found counts (trace_found boot line))) ∷ answers) (answers_are boot (counts_after counts (trace_found boot line)) (number + 1) lines)

pub answers_told : (boot : ℕ) (lines : List (List ℕ)) → answers_from boot [] 1 lines ≡ map (λ (n : Numbered). Ok (found_text n.number n.found)) (trace_founds boot lines)
answers_told boot lines = answers_are boot [] 1 lines

-- ---- lines that are no events

pub no_event : (boot : ℕ) (line : List ℕ) → is_event_line line ≡ false → (trace_found boot line ≡ Nothing) ⊎ (trace_found boot line ≡ Unread)
no_event boot line = by (last_mark line)
  where
    at : (place : ℕ) (traced : Bool) → traced ≡ false
        → ((if traced then option_map_or (event_found boot) (event_in (drop (place + 12) line)) Unread else Unread) ≡ Nothing)
        ⊎ ((if traced then option_map_or (event_found boot) (event_in (drop (place + 12) line)) Unread else Unread) ≡ Unread)
    at place true is = absurd cc
    at place false is = inr refl

    by : (place : Option ℕ) → option_map_or (λ place. is_traced (take place line)) place false ≡ false
        → (option_map_or (found_at boot line) place Nothing ≡ Nothing) ⊎ (option_map_or (found_at boot line) place Nothing ≡ Unread)
    by None is = inl refl
    by (Some place) is = at place (is_traced (take place line)) is

no_report : (boot : ℕ) (line : List ℕ) → (trace_found boot line ≡ Nothing) ⊎ (trace_found boot line ≡ Unread) → report_in (trace_found boot line) ≡ []
no_report boot line (inl is) = ap report_in is
no_report boot line (inr is) = ap report_in is

-- ---- names

-- the finding of a line by itself is never `Full`
pub never_full : (boot : ℕ) (line : List ℕ) → is_full (trace_found boot line) ≡ false
never_full boot line = by (last_mark line)
  where
    held : (r : BankReport) (holds firmware : Bool) → is_full (if holds then (if firmware then Firmware r.cpu else Whole r) else Nothing) ≡ false
    held r true true = refl
    held r true false = refl
    held r false firmware = refl

    of : (e : TraceEvent) (intel : Bool) → is_full (if intel then found_of (event_report boot e) else Foreign e.vendor e.cpu e.bank) ≡ false
    of e true = held (event_report boot e) (valid (status_in (event_report boot e))) (e.bank == 255)
    of e false = refl

    told : (event : Option TraceEvent) → is_full (option_map_or (event_found boot) event Unread) ≡ false
    told None = refl
    told (Some e) = of e (e.vendor == 0)

    at : (place : ℕ) (traced : Bool) → is_full (if traced then option_map_or (event_found boot) (event_in (drop (place + 12) line)) Unread else Unread) ≡ false
    at place true = told (event_in (drop (place + 12) line))
    at place false = refl

    by : (place : Option ℕ) → is_full (option_map_or (found_at boot line) place Nothing) ≡ false
    by None = refl
    by (Some place) = at place (is_traced (take place line))

reports_are : (boot : ℕ) (counts : KeyCounts) (number : ℕ) (lines : List (List ℕ)) → reports_in (founds_from boot counts number lines) ≡ named_after counts (traced_reports boot lines)
reports_are boot counts number [] = refl
reports_are boot counts number (line ∷ lines) =
    let found : Finding = trace_found boot line in
    ap (λ (rest : List BankReport). report_in (named_found counts found) ++ rest) (reports_are boot (counts_after counts found) (number + 1) lines)
    ∙ names_on counts found (traced_reports boot lines) (never_full boot line)

pub reports_named : (boot : ℕ) (lines : List (List ℕ)) → reports_in (trace_founds boot lines) ≡ named_after [] (traced_reports boot lines)
reports_named boot lines = reports_are boot [] 1 lines

-- ---- without a line that is no event

without : (boot : ℕ) (before after : List (List ℕ)) (line : List ℕ) → report_in (trace_found boot line) ≡ []
    → traced_reports boot (before ++ line ∷ after) ≡ traced_reports boot (before ++ after)
without boot [] after line none = ap (λ (front : List BankReport). front ++ traced_reports boot after) none
without boot (b ∷ before) after line none = ap (λ (rest : List BankReport). report_in (trace_found boot b) ++ rest) (without boot before after line none)

pub reports_without : (boot : ℕ) (before after : List (List ℕ)) (line : List ℕ) → is_event_line line ≡ false
    → reports_in (trace_founds boot (before ++ line ∷ after)) ≡ reports_in (trace_founds boot (before ++ after))
reports_without boot before after line other =
    reports_named boot (before ++ line ∷ after)
    ∙ ap (named_after []) (without boot before after line (no_report boot line (no_event boot line other)))
    ∙ sym (reports_named boot (before ++ after))
