-- Machine checks are named as the commands over a part of a trace or a log name them.
use Rattle.std.proofs.Common.{◌≡◌, ℕ, ◌+◌, List, [], ◌∷◌, ◌++◌, map, refl, sym, ap, ◌∙◌, Option, None, Result, Ok}
use Rattle.std.specs.List.{flat_map}
use Rattle.std.proofs.lemmas.List.{map-append}
use Rattle.ras_facts.specs.declared.bank.BankReport.{BankReport}
use Rattle.ras_script.specs.declared.line.LineRefused.{LineRefused}
use Rattle.bank_lines.proofs.CountLemmas.{is_full, names_on}
use Rattle.bank_lines.proofs.TraceLawLemmas.{never_full}
use Rattle.bank_lines.specs.Counts.{named_after, named_found}
use Rattle.bank_lines.specs.EdacReports.{told_lines}
use Rattle.bank_lines.specs.Filter.{traced_reports}
use Rattle.bank_lines.specs.Finding.{report_in}
use Rattle.bank_lines.specs.LogAlong.{answers_along, error_in}
use Rattle.bank_lines.specs.Texts.{found_text}
use Rattle.bank_lines.specs.Trace.{trace_found}
use Rattle.bank_lines.specs.declared.found.Finding.{Finding}
use Rattle.bank_lines.specs.declared.found.Finding.TheVariants.{Firmware, Foreign, Full, Nothing, Partial, Torn, Unread, Whole}
use Rattle.log_lines.specs.Borders.{check_said}
use Rattle.log_lines.specs.LogFeed.{LogFeedState, answer, log_after_line, log_checks}
use Rattle.log_lines.specs.TraceFeed.{TraceFeedState, finding_with_cap, found_with_cap, trace_after_line, trace_checks, with_cap}

-- ---- a trace

cap_reports : (cap : ℕ) (found : Finding) → report_in (finding_with_cap cap found) ≡ map (with_cap cap) (report_in found)
cap_reports cap Nothing = refl
cap_reports cap (Whole report) = refl
cap_reports cap (Torn report) = refl
cap_reports cap (Full report) = refl
cap_reports cap (Partial cpu bank) = refl
cap_reports cap (Foreign vendor cpu bank) = refl
cap_reports cap (Firmware cpu) = refl
cap_reports cap Unread = refl

cap_full : (cap : ℕ) (found : Finding) → is_full (finding_with_cap cap found) ≡ is_full found
cap_full cap Nothing = refl
cap_full cap (Whole report) = refl
cap_full cap (Torn report) = refl
cap_full cap (Full report) = refl
cap_full cap (Partial cpu bank) = refl
cap_full cap (Foreign vendor cpu bank) = refl
cap_full cap (Firmware cpu) = refl
cap_full cap Unread = refl

pub trace_named : (state : TraceFeedState) (lines : List (List ℕ))
    → flat_map report_in (trace_checks state lines) ≡ named_after state.counts (map (with_cap state.cap) (traced_reports state.boot lines))
trace_named state [] = refl
trace_named state (bytes ∷ lines) =
    let plain : Finding = trace_found state.boot bytes in
    let found : Finding = found_with_cap state.boot state.cap bytes in
    let rest : List BankReport = map (with_cap state.cap) (traced_reports state.boot lines) in
    ap (λ (more : List BankReport). report_in (named_found state.counts found) ++ more) (trace_named (trace_after_line state bytes) lines)
    ∙ names_on state.counts found rest (cap_full state.cap plain ∙ never_full state.boot bytes)
    ∙ ap (λ (first : List BankReport). named_after state.counts (first ++ rest)) (cap_reports state.cap plain)
    ∙ ap (named_after state.counts) (sym (map-append (with_cap state.cap) (report_in plain) (traced_reports state.boot lines)))

-- ---- a log

-- without a border all is said that is found
pub all_said : (number : ℕ) (bytes : List ℕ) (found : Finding) → check_said None number bytes found ≡ found_text number found
all_said number bytes Nothing = refl
all_said number bytes (Whole report) = refl
all_said number bytes (Torn report) = refl
all_said number bytes (Full report) = refl
all_said number bytes (Partial cpu bank) = refl
all_said number bytes (Foreign vendor cpu bank) = refl
all_said number bytes (Firmware cpu) = refl
all_said number bytes Unread = refl

pub log_named : (state : LogFeedState) (lines : List (List ℕ)) → state.borders.checks ≡ None
    → map answer (log_checks state lines) ≡ answers_along state.errors.boot state.errors.cap state.errors.state state.taken (told_lines state.errors.edac lines)
log_named state [] never = refl
log_named state (bytes ∷ lines) never =
    let found : Finding = error_in state.errors bytes in
    ap (λ (border : Option ℕ). Ok (check_said border (state.taken + 1) bytes found) ∷ map answer (log_checks (log_after_line state bytes) lines)) never
    ∙ ap (λ (text : List ℕ). Ok text ∷ map answer (log_checks (log_after_line state bytes) lines)) (all_said (state.taken + 1) bytes found)
    ∙ ap (λ (more : List (Result (List ℕ) LineRefused)). Ok (found_text (state.taken + 1) found) ∷ more)
    (log_named (log_after_line state bytes) lines never)
