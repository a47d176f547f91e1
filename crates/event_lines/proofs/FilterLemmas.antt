-- Without events the filter does what the filter of the log does.
use Rattle.std.proofs.Common.{◌≡◌, ℕ, ◌+◌, List, [], ◌∷◌, ◌++◌, refl, sym, ap, ◌∙◌, Ok, Err, Result, OnOk, Option, None, Some}
use Rattle.std.specs.List.{AllByRecursion}
use Rattle.std.specs.Option.{option_map_or}
use Rattle.ras_script.specs.declared.line.LineRefused.{LineRefused}
use Rattle.block_lines.specs.Filter.{BlockProgress, block_answers, rest_after}
use Rattle.block_lines.specs.LogLines.{report_log_line}
use Rattle.block_lines.specs.Reports.{Reporting, reporting_after}
use Rattle.block_lines.specs.Texts.{blocks_text_at}
use Rattle.event_lines.specs.Filter.{after_by, after_event, after_line, report_answers, report_rest, section_block_of, event_text_by}
use Rattle.event_lines.specs.Traced.{line_event_of}
use Rattle.event_lines.specs.declared.traced.LineEvent.{LineEvent}
use Rattle.event_lines.specs.declared.traced.LineEvent.TheVariants.{Absent, Found, Memory, Section, Unread}

pub absent_text : {A E : Type 0} (result : Result A E) (p : BlockProgress) (line old new : List ℕ) (event : LineEvent) → event ≡ Absent
    → OnOk result (new ≡ old ++ blocks_text_at p.reports (p.taken + 1) (report_log_line line)) → OnOk result (new ≡ old ++ event_text_by p line event)
absent_text (Ok done) p line old new event is told = told ∙ ap (λ (event : LineEvent). old ++ event_text_by p line event) (sym is)
absent_text (Err why) p line old new event is told = tt

pub absent_after : {A E : Type 0} (result : Result A E) (p new : BlockProgress) (line : List ℕ) (event : LineEvent) → event ≡ Absent
    → OnOk result (new ≡ record { reports = reporting_after p.reports (report_log_line line); taken = p.taken + 1 }) → OnOk result (new ≡ after_by p line event)
absent_after (Ok done) p new line event is told = told ∙ ap (after_by p line) (sym is)
absent_after (Err why) p new line event is told = tt

abbrev progress : ℕ → Reporting → BlockProgress
progress taken r = record { reports = r; taken = taken }

pub same_answers : (taken : ℕ) (r : Reporting) (lines : List (List ℕ)) → AllByRecursion (λ line. line_event_of line ≡ Absent) lines
    → report_answers (progress taken r) lines ≡ block_answers taken r lines
same_answers taken r [] all = refl
same_answers taken r (line ∷ lines) all =
    ap (λ (event : LineEvent). Ok (event_text_by (progress taken r) line event) ∷ report_answers (after_by (progress taken r) line event) lines) all.0
    ∙ ap (λ (more : List (Result (List ℕ) LineRefused)). Ok (blocks_text_at r (taken + 1) (report_log_line line)) ∷ more)
    (same_answers (taken + 1) (reporting_after r (report_log_line line)) lines all.1)

pub same_rest : (taken : ℕ) (r : Reporting) (lines : List (List ℕ)) → AllByRecursion (λ line. line_event_of line ≡ Absent) lines
    → report_rest (progress taken r) lines ≡ rest_after r lines
same_rest taken r [] all = refl
same_rest taken r (line ∷ lines) all =
    ap (λ (event : LineEvent). report_rest (after_by (progress taken r) line event) lines) all.0
    ∙ same_rest (taken + 1) (reporting_after r (report_log_line line)) lines all.1

-- each line is counted
taken_by : (p : BlockProgress) (line : List ℕ) (event : LineEvent) → (after_by p line event).taken ≡ p.taken + 1
taken_by p line Absent = refl
taken_by p line Unread = refl
taken_by p line (Found found) = refl
taken_by p line (Memory found) = refl
taken_by p line (Section found) = by (section_block_of found line)
  where
    by : (o : Option (List ℕ)) → (option_map_or (λ block. after_event p) o (record p { taken = p.taken + 1 })).taken ≡ p.taken + 1
    by None = refl
    by (Some block) = refl

pub taken_after : (p : BlockProgress) (line : List ℕ) → (after_line p line).taken ≡ p.taken + 1
taken_after p line = taken_by p line (line_event_of line)
