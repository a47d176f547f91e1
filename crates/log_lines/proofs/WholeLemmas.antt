-- Each text is whole lines.
use Rattle.std.proofs.Common.{◌≡◌, ℕ, ◌+◌, ◌==◌, ◌&&◌, Bool, true, false, List, [], ◌∷◌, ◌++◌, codes, decimal, refl, sym, ap, ◌∙◌, append_assoc, inl, inr, length, nat_lt, Option, if◌then◌else◌}
use Rattle.std.specs.List.{AllByRecursion}
use Rattle.line_filters.specs.declared.feeding.TheConstants.{MOST_AT_ONCE}
use Rattle.log_lines.specs.declared.comments.TheConstants.{MOST_LAST}
use Rattle.ras_script.specs.Inputs.{Input, line, long}
use Rattle.ras_script.specs.SplittingLaws.{script_of}
use Rattle.bank_lines.specs.Counts.{named_found}
use Rattle.bank_lines.specs.LogAlong.{error_in, found_at_end}
use Rattle.bank_lines.specs.Texts.{found_text, lines_at}
use Rattle.bank_lines.specs.declared.found.Finding.{Finding}
use Rattle.block_lines.specs.Reports.{without_sources}
use Rattle.block_lines.specs.Texts.{rest_text}
use Rattle.block_lines.specs.Whole.{AreWholeLines}
use Rattle.block_lines.proofs.WholeLemmas.{blocks_whole, both, ends, rest_whole}
use Rattle.event_lines.specs.Driver.{any_event_of}
use Rattle.event_lines.specs.Filter.{event_text_by}
use Rattle.event_lines.specs.Traced.{is_extlog}
use Rattle.event_lines.proofs.EventTextLemmas.{event_whole}
use Rattle.log_lines.specs.Borders.{check_said, leaves_check, torn_comment}
use Rattle.log_lines.specs.Comments.{comment, commented, cut_said, exceeds_call, extlog_comment, fitted, gap_comment, left_out_comment, limited, shown_of, with_shown}
use Rattle.log_lines.specs.LogFeed.{LogFeedState, log_after_line, log_last, log_said, log_texts}
use Rattle.log_lines.specs.TraceFeed.{TraceFeedState, before_line, found_with_cap, gap_said, is_gap, trace_after_line, trace_last, trace_said, trace_texts, traced_text}

script_whole : (lines : List (List ℕ)) → AreWholeLines (script_of lines)
script_whole [] = inl refl
script_whole (text ∷ lines) = both (text ++ 10 ∷ []) (script_of lines) (ends text) (script_whole lines)

comment_whole : (name : List ℕ) (number : ℕ) → AreWholeLines (comment name number)
comment_whole name number = ends (name ++ decimal number)

-- ---- with what comments show

shown_ends : (shown : List ℕ) (begins inside : Bool) (text : List ℕ)
    → (front : List ℕ) × (commented shown begins inside (text ++ 10 ∷ []) ≡ front ++ 10 ∷ [])
shown_ends shown begins inside [] = (_, refl)
shown_ends shown begins inside (b ∷ text) =
    let remark : Bool = if begins then b == 35 else inside in
    let before : List ℕ = if b == 10 && remark then 32 ∷ shown else [] in
    let rest = shown_ends shown (b == 10) remark text in
    (before ++ b ∷ rest.0, ap (λ (more : List ℕ). before ++ b ∷ more) rest.1 ∙ sym (append_assoc before (b ∷ rest.0) (10 ∷ [])))

shown_whole : (shown text : List ℕ) → AreWholeLines text → AreWholeLines (with_shown shown text)
shown_whole shown text (inl none) = inl (ap (with_shown shown) none)
shown_whole shown text (inr (front, is)) =
    let made = shown_ends shown true false front in inr (made.0, ap (with_shown shown) is ∙ made.1)

limited_whole : (most number : ℕ) (shown text : List ℕ) → AreWholeLines text → AreWholeLines (limited most number shown text)
limited_whole most number shown text whole = by (nat_lt most (length text))
  where
    by : (long : Bool) → AreWholeLines (if long then left_out_comment number shown else text)
    by true = ends (codes "# left out " ++ decimal number ++ 32 ∷ shown)
    by false = whole

fitted_whole : (number : ℕ) (bytes text : List ℕ) → AreWholeLines text → AreWholeLines (fitted number bytes text)
fitted_whole number bytes text whole = by (exceeds_call (with_shown (shown_of bytes) text))
  where
    by : (long : Bool) → AreWholeLines (if long then limited MOST_AT_ONCE number (shown_of bytes) text else with_shown (shown_of bytes) text)
    by true = limited_whole MOST_AT_ONCE number (shown_of bytes) text whole
    by false = shown_whole (shown_of bytes) text whole

-- ---- a trace

traced_whole : (state : TraceFeedState) (bytes : List ℕ) → AreWholeLines (traced_text state bytes)
traced_whole state bytes = by (is_extlog bytes)
  where
    by : (extlog : Bool)
        → AreWholeLines (if extlog then extlog_comment (state.taken + 1) else event_text_by (before_line state.reports state.taken) bytes (any_event_of state.drivers bytes))
    by true = comment_whole (codes "# extlog ") (state.taken + 1)
    by false = event_whole (before_line state.reports state.taken) bytes (any_event_of state.drivers bytes)

found_whole : (number : ℕ) (found : Finding) → AreWholeLines (found_text number found)
found_whole number found = script_whole (lines_at number found)

trace_said_whole : (state : TraceFeedState) (bytes : List ℕ) → AreWholeLines (trace_said state bytes)
trace_said_whole state bytes =
    let found : Finding = named_found state.counts (found_with_cap state.boot state.cap bytes) in
    both (gap_said (state.taken + 1) bytes ++ found_text (state.taken + 1) found) (traced_text state bytes)
    (both (gap_said (state.taken + 1) bytes) (found_text (state.taken + 1) found) (by (is_gap bytes)) (found_whole (state.taken + 1) found))
    (traced_whole state bytes)
  where
    by : (gap : Bool) → AreWholeLines (if gap then gap_comment (state.taken + 1) else [])
    by true = comment_whole (codes "# gap ") (state.taken + 1)
    by false = inl refl

pub trace_whole : (state : TraceFeedState) (inputs : List Input) → AllByRecursion AreWholeLines (trace_texts state inputs)
trace_whole state [] = tt
trace_whole state (line bytes ∷ inputs) =
    (fitted_whole (state.taken + 1) bytes (trace_said state bytes) (trace_said_whole state bytes), trace_whole (trace_after_line state bytes) inputs)
trace_whole state (long ∷ inputs) = (comment_whole (codes "# too long ") (state.taken + 1), trace_whole (record state { taken = state.taken + 1 }) inputs)

cut_whole_said : (number : ℕ) (cut : Bool) → AreWholeLines (cut_said number cut)
cut_whole_said number true = comment_whole (codes "# cut ") number
cut_whole_said number false = inl refl

pub trace_end_whole : (state : TraceFeedState) (cut : Bool) → AreWholeLines (trace_last state cut)
trace_end_whole state cut =
    limited_whole MOST_LAST (state.taken + 1) [] _ (both (rest_text state.reports) _ (rest_whole state.reports) (cut_whole_said (state.taken + 1) cut))

-- ---- a log

check_whole : (border : Option ℕ) (number : ℕ) (bytes : List ℕ) (found : Finding) → AreWholeLines (check_said border number bytes found)
check_whole border number bytes found = by (leaves_check border bytes found)
  where
    by : (leaves : Bool) → AreWholeLines (if leaves then torn_comment number else found_text number found)
    by true = comment_whole (codes "# torn ") number
    by false = found_whole number found

log_said_whole : (state : LogFeedState) (bytes : List ℕ) → AreWholeLines (log_said state bytes)
log_said_whole state bytes =
    let found : Finding = error_in state.errors bytes in
    both (check_said state.borders.checks (state.taken + 1) bytes found) _ (check_whole state.borders.checks (state.taken + 1) bytes found)
    (blocks_whole state.borders.reports (without_sources state.reports) (state.taken + 1) bytes)

pub log_whole : (state : LogFeedState) (inputs : List Input) → AllByRecursion AreWholeLines (log_texts state inputs)
log_whole state [] = tt
log_whole state (line bytes ∷ inputs) =
    (fitted_whole (state.taken + 1) bytes (log_said state bytes) (log_said_whole state bytes), log_whole (log_after_line state bytes) inputs)
log_whole state (long ∷ inputs) = (comment_whole (codes "# too long ") (state.taken + 1), log_whole (record state { taken = state.taken + 1 }) inputs)

pub log_end_whole : (state : LogFeedState) (cut : Bool) → AreWholeLines (log_last state cut)
log_end_whole state cut =
    limited_whole MOST_LAST (state.taken + 1) [] _ (both (found_text 0 (found_at_end state.errors.state) ++ rest_text state.reports) _
    (both (found_text 0 (found_at_end state.errors.state)) (rest_text state.reports) (found_whole 0 (found_at_end state.errors.state)) (rest_whole state.reports))
    (cut_whole_said (state.taken + 1) cut))
