-- What holds of all texts of the filters.
use Rattle.std.proofs.Common.{◌≡◌, ℕ, ◌+◌, ◌^◌, ◌<◌, ◌==◌, ◌&&◌, Bool, true, false, List, [], ◌∷◌, ◌++◌, length, codes, decimal, refl, ap, arith, nat_lt, if◌then◌else◌}
use Rattle.block_lines.specs.Reports.{Reporting, has_error, without_sources}
use Rattle.block_lines.specs.Texts.{block_text, ghes_line, hest_line, table_text}
use Rattle.block_lines.specs.declared.report.OpenReport.{OpenReport}
use Rattle.event_lines.specs.Driver.{any_event_of}
use Rattle.event_lines.specs.Events.{tells_any, tells_event}
use Rattle.event_lines.specs.Filter.{event_text_by}
use Rattle.event_lines.specs.Traced.{is_extlog}
use Rattle.event_lines.proofs.EventTextLemmas.{IsSaid, event_said, said_after, said_left, said_right, told_any}
use Rattle.line_filters.specs.declared.feeding.TheConstants.{MOST_AT_ONCE}
use Rattle.line_filters.specs.Pieces.{AreShort}
use Rattle.bank_lines.specs.Counts.{named_found}
use Rattle.bank_lines.specs.Texts.{found_text}
use Rattle.ras_script.specs.Inputs.{Input, line, long}
use Rattle.log_lines.specs.Comments.{comment, commented, exceeds_call, extlog_comment, fitted, gap_comment, left_out_comment, limited, shown_of, with_shown}
use Rattle.log_lines.specs.LogFeed.{LogFeedState, log_after_line, log_said, log_texts}
use Rattle.log_lines.specs.TraceFeed.{TraceFeedState, before_line, found_with_cap, gap_said, is_gap, trace_after_line, trace_said, trace_text, trace_texts, traced_text}
use Rattle.log_lines.proofs.LimitLemmas.{fitted_short, too_long_short}

-- ---- one call can print each

pub trace_short : (state : TraceFeedState) (inputs : List Input) → state.taken + length inputs < 2 ^ 64 → AreShort (trace_texts state inputs)
trace_short state [] few = tt
trace_short state (line bytes ∷ inputs) few =
    (fitted_short (state.taken + 1) bytes (trace_said state bytes) (omega (arith, few)), trace_short (trace_after_line state bytes) inputs (omega (arith, few)))
trace_short state (long ∷ inputs) few =
    (too_long_short (state.taken + 1) (omega (arith, few)), trace_short (record state { taken = state.taken + 1 }) inputs (omega (arith, few)))

pub log_short : (state : LogFeedState) (inputs : List Input) → state.taken + length inputs < 2 ^ 64 → AreShort (log_texts state inputs)
log_short state [] few = tt
log_short state (line bytes ∷ inputs) few =
    (fitted_short (state.taken + 1) bytes (log_said state bytes) (omega (arith, few)), log_short (log_after_line state bytes) inputs (omega (arith, few)))
log_short state (long ∷ inputs) few =
    (too_long_short (state.taken + 1) (omega (arith, few)), log_short (record state { taken = state.taken + 1 }) inputs (omega (arith, few)))

-- ---- no event is left unsaid

comment_said : (name : List ℕ) (number : ℕ) → IsSaid (comment name number)
comment_said name number = said_after (name ++ decimal number) 10 []

traced_said : (state : TraceFeedState) (bytes : List ℕ) → tells_any state.drivers bytes ≡ true → IsSaid (traced_text state bytes)
traced_said state bytes some = by (is_extlog bytes)
  where
    by : (extlog : Bool)
        → IsSaid (if extlog then extlog_comment (state.taken + 1) else event_text_by (before_line state.reports state.taken) bytes (any_event_of state.drivers bytes))
    by true = comment_said (codes "# extlog ") (state.taken + 1)
    by false = event_said (before_line state.reports state.taken) bytes (any_event_of state.drivers bytes) some

shown_said : (shown text : List ℕ) → IsSaid text → IsSaid (with_shown shown text)
shown_said shown [] said = absurd (said refl)
shown_said shown (b ∷ text) said =
    said_after (if b == 10 && (b == 35) then 32 ∷ shown else []) b (commented shown (b == 10) (b == 35) text)

limited_said : (most number : ℕ) (shown text : List ℕ) → IsSaid text → IsSaid (limited most number shown text)
limited_said most number shown text said = by (nat_lt most (length text))
  where
    by : (long : Bool) → IsSaid (if long then left_out_comment number shown else text)
    by true = said_after (codes "# left out " ++ decimal number ++ 32 ∷ shown) 10 []
    by false = said

fitted_said : (number : ℕ) (bytes text : List ℕ) → IsSaid text → IsSaid (fitted number bytes text)
fitted_said number bytes text said = by (exceeds_call (with_shown (shown_of bytes) text))
  where
    by : (long : Bool) → IsSaid (if long then limited MOST_AT_ONCE number (shown_of bytes) text else with_shown (shown_of bytes) text)
    by true = limited_said MOST_AT_ONCE number (shown_of bytes) text said
    by false = shown_said (shown_of bytes) text said

pub any_is_said : (state : TraceFeedState) (bytes : List ℕ) → tells_any state.drivers bytes ≡ true → IsSaid (trace_text state (line bytes))
any_is_said state bytes some =
    let found : List ℕ = found_text (state.taken + 1) (named_found state.counts (found_with_cap state.boot state.cap bytes)) in
    fitted_said (state.taken + 1) bytes (trace_said state bytes)
    (said_right (gap_said (state.taken + 1) bytes ++ found) (traced_text state bytes) (traced_said state bytes some))

pub event_is_said : (state : TraceFeedState) (bytes : List ℕ) → tells_event bytes ≡ true → IsSaid (trace_text state (line bytes))
event_is_said state bytes some = any_is_said state bytes (told_any state.drivers bytes some)

pub gap_is_said : (state : TraceFeedState) (bytes : List ℕ) → is_gap bytes ≡ true → IsSaid (trace_text state (line bytes))
gap_is_said state bytes gap = fitted_said (state.taken + 1) bytes (trace_said state bytes) (by (is_gap bytes) gap)
  where
    found : List ℕ
    found = found_text (state.taken + 1) (named_found state.counts (found_with_cap state.boot state.cap bytes))

    by : (is : Bool) → is ≡ true → IsSaid ((if is then gap_comment (state.taken + 1) else []) ++ found ++ traced_text state bytes)
    by true gap =
        said_left (gap_comment (state.taken + 1) ++ found) (traced_text state bytes) (said_left (gap_comment (state.taken + 1)) found (comment_said (codes "# gap ") (state.taken + 1)))
    by false gap = absurd cc

-- ---- tables

pub report_behind_table : (r : Reporting) (report : OpenReport) → has_error r.errors report.section ≡ true
    → block_text (without_sources r) report ≡ (hest_line (report.source ∷ []) ++ 10 ∷ []) ++ ghes_line r report ++ 10 ∷ []
report_behind_table r report some =
    ap (λ (has : Bool). if has then table_text [] report.source ++ ghes_line r report ++ 10 ∷ [] else []) some
