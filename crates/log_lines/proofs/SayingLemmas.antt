-- The inputs of a filter as sayings: what holds of ranges and texts holds of the filters.
use Rattle.std.proofs.Common.{◌≡◌, ℕ, ◌+◌, ◌<◌, ◌≤◌, Bool, true, false, List, [], ◌∷◌, ◌++◌, length, map, ◌^◌, refl, sym, ap, inl, subst, ◌∙◌, arith, Option, None, Some, if◌then◌else◌}
use Rattle.std.specs.Option.{option_map_or}
use Rattle.std.specs.List.{AllByRecursion}
use Rattle.bank_lines.specs.Counts.{named_found}
use Rattle.bank_lines.specs.LogAlong.{error_in}
use Rattle.bank_lines.specs.Texts.{found_text}
use Rattle.block_lines.specs.LogLines.{report_log_line}
use Rattle.block_lines.specs.Reports.{Reporting, after_report, is_ended_by, line_remark, without_sources}
use Rattle.block_lines.specs.Texts.{blocks_text_at, blocks_text_beside, end_text, end_text_beside, remark_text}
use Rattle.block_lines.specs.declared.report.OpenReport.{OpenReport}
use Rattle.event_lines.specs.Driver.{any_event_of}
use Rattle.event_lines.specs.Filter.{event_text_by}
use Rattle.log_lines.specs.Borders.{check_said}
use Rattle.event_lines.specs.DimmTold.{traced_dimm_of}
use Rattle.block_lines.specs.Whole.{AreWholeLines}
use Rattle.line_filters.specs.Pieces.{AreShort}
use Rattle.line_filters.specs.declared.feeding.TheConstants.{MOST_INPUTS}
use Rattle.ras_script.specs.Inputs.{Input, line, long}
use Rattle.log_lines.specs.Comments.{exceeds_call, fitted}
use Rattle.log_lines.specs.DimmLaws.{ChangesNoError, HasNoSlot, PrintsTexts, plain_part}
use Rattle.log_lines.specs.Dimms.{DimmsState, Saying, dimm_parts, dimms_after, dimms_begun, dimms_last, dimms_over, heard, part_text}
use Rattle.log_lines.specs.LogDimm.{told_if}
use Rattle.log_lines.specs.LogFeed.{LogFeedState, log_after_line, log_last, log_over, log_text, log_texts, log_waits}
use Rattle.log_lines.specs.LogWithDimms.{LogDimmsState, listens_to, log_dimms_after, log_saying, log_sayings}
use Rattle.log_lines.specs.Slots.{SlotLine}
use Rattle.log_lines.specs.TraceFeed.{TraceFeedState, before_line, found_with_cap, gap_said, trace_after_line, trace_last, trace_over, trace_text, trace_texts, trace_waits}
use Rattle.log_lines.specs.TraceWithDimms.{TraceDimmsState, trace_dimms_after, trace_saying, trace_sayings, trace_told}
use Rattle.log_lines.specs.declared.log_dimm.ToldInLog.{ToldInLog}
use Rattle.log_lines.specs.declared.dimms.TheConstants.{MOST_HELD}
use Rattle.log_lines.proofs.DimmTextLemmas.{end_whole, held_short, is_long, heard_held, last_alone, last_is, parts_short, parts_whole, prints_each, quiet_from_start, sum_is}
use Rattle.log_lines.proofs.LawLemmas.{log_short, trace_short}
use Rattle.log_lines.proofs.WholeLemmas.{log_end_whole, log_whole, trace_end_whole, trace_whole}
use Rattle.log_lines.proofs.TookLemmas.{log_last_short, trace_last_short}

-- ---- a trace

pub trace_said_are : (state : TraceFeedState) (inputs : List Input) → map (λ (s : Saying). s.said) (trace_sayings state inputs) ≡ trace_texts state inputs
trace_said_are state [] = refl
trace_said_are state (line bytes ∷ inputs) = ap (λ (texts : List (List ℕ)). trace_text state (line bytes) ∷ texts) (trace_said_are (trace_after_line state bytes) inputs)
trace_said_are state (long ∷ inputs) = ap (λ (texts : List (List ℕ)). trace_text state long ∷ texts) (trace_said_are (record state { taken = state.taken + 1 }) inputs)

trace_taken : (state : TraceFeedState) (inputs : List Input) → (trace_over state inputs).taken ≡ state.taken + length inputs
trace_taken state [] = omega arith
trace_taken state (line bytes ∷ inputs) = omega (arith, trace_taken (trace_after_line state bytes) inputs)
trace_taken state (long ∷ inputs) = omega (arith, trace_taken (record state { taken = state.taken + 1 }) inputs)

trace_no_slots : (state : TraceFeedState) (inputs : List Input) → AllByRecursion HasNoSlot inputs → AllByRecursion (λ (s : Saying). s.slot ≡ None) (trace_sayings state inputs)
trace_no_slots state [] none = tt
trace_no_slots state (line bytes ∷ inputs) none = (none.0, trace_no_slots (trace_after_line state bytes) inputs none.1)
trace_no_slots state (long ∷ inputs) none = (refl, trace_no_slots (record state { taken = state.taken + 1 }) inputs none.1)

pub trace_changes : (state : TraceFeedState) (inputs : List Input) (cut : Bool) → state.taken + length inputs < MOST_INPUTS
    → ChangesNoError (trace_texts state inputs) (trace_last (trace_over state inputs) cut) (dimm_parts dimms_begun (trace_sayings state inputs))
    (map part_text (dimm_parts dimms_begun (trace_sayings state inputs))) (dimms_last (dimms_over dimms_begun (trace_sayings state inputs)) (trace_last (trace_over state inputs) cut))
trace_changes state inputs cut few =
    let sayings : List Saying = trace_sayings state inputs in
    record {
      rest = (dimms_over dimms_begun sayings).held;
      parts_are = refl;
      each = subst (λ (texts : List (List ℕ)). PrintsTexts [] texts (map plain_part (dimm_parts dimms_begun sayings)) (dimms_over dimms_begun sayings).held) (trace_said_are state inputs) (prints_each sayings dimms_begun);
      end_is = last_is (dimms_over dimms_begun sayings) (trace_last (trace_over state inputs) cut) (held_short sayings dimms_begun (omega arith))
          (trace_last_short (trace_over state inputs) cut (omega (arith, trace_taken state inputs, few)));
    }

pub trace_unchanged : (state : TraceFeedState) (inputs : List Input) → AllByRecursion HasNoSlot inputs
    → map part_text (dimm_parts dimms_begun (trace_sayings state inputs)) ≡ trace_texts state inputs
trace_unchanged state inputs none =
    (quiet_from_start (trace_sayings state inputs) (trace_no_slots state inputs none)).texts ∙ trace_said_are state inputs

pub trace_end_unchanged : (state : TraceFeedState) (inputs : List Input) (cut : Bool) → AllByRecursion HasNoSlot inputs
    → dimms_last (dimms_over dimms_begun (trace_sayings state inputs)) (trace_last (trace_over state inputs) cut) ≡ trace_last (trace_over state inputs) cut
trace_end_unchanged state inputs cut none =
    last_alone (dimms_over dimms_begun (trace_sayings state inputs)) (trace_last (trace_over state inputs) cut)
    (quiet_from_start (trace_sayings state inputs) (trace_no_slots state inputs none)).held

-- ---- a log

pub log_said_are : (state : LogDimmsState) (inputs : List Input) → map (λ (s : Saying). s.said) (log_sayings state inputs) ≡ log_texts state.feed inputs
log_said_are state [] = refl
log_said_are state (line bytes ∷ inputs) = ap (λ (texts : List (List ℕ)). log_text state.feed (line bytes) ∷ texts) (log_said_are (log_dimms_after state (line bytes)) inputs)
log_said_are state (long ∷ inputs) = ap (λ (texts : List (List ℕ)). log_text state.feed long ∷ texts) (log_said_are (log_dimms_after state long) inputs)

log_taken : (state : LogFeedState) (inputs : List Input) → (log_over state inputs).taken ≡ state.taken + length inputs
log_taken state [] = omega arith
log_taken state (line bytes ∷ inputs) = omega (arith, log_taken (log_after_line state bytes) inputs)
log_taken state (long ∷ inputs) = omega (arith, log_taken (record state { taken = state.taken + 1 }) inputs)

log_no_slots : (state : LogDimmsState) (inputs : List Input) → AllByRecursion HasNoSlot inputs → AllByRecursion (λ (s : Saying). s.slot ≡ None) (log_sayings state inputs)
log_no_slots state [] none = tt
log_no_slots state (line bytes ∷ inputs) none = (none.0, log_no_slots (log_dimms_after state (line bytes)) inputs none.1)
log_no_slots state (long ∷ inputs) none = (refl, log_no_slots (log_dimms_after state long) inputs none.1)

pub log_changes : (state : LogDimmsState) (inputs : List Input) (cut : Bool) → state.feed.taken + length inputs < MOST_INPUTS
    → ChangesNoError (log_texts state.feed inputs) (log_last (log_over state.feed inputs) cut) (dimm_parts dimms_begun (log_sayings state inputs))
    (map part_text (dimm_parts dimms_begun (log_sayings state inputs))) (dimms_last (dimms_over dimms_begun (log_sayings state inputs)) (log_last (log_over state.feed inputs) cut))
log_changes state inputs cut few =
    let sayings : List Saying = log_sayings state inputs in
    record {
      rest = (dimms_over dimms_begun sayings).held;
      parts_are = refl;
      each = subst (λ (texts : List (List ℕ)). PrintsTexts [] texts (map plain_part (dimm_parts dimms_begun sayings)) (dimms_over dimms_begun sayings).held) (log_said_are state inputs) (prints_each sayings dimms_begun);
      end_is = last_is (dimms_over dimms_begun sayings) (log_last (log_over state.feed inputs) cut) (held_short sayings dimms_begun (omega arith))
          (log_last_short (log_over state.feed inputs) cut (omega (arith, log_taken state.feed inputs, few)));
    }

pub log_unchanged : (state : LogDimmsState) (inputs : List Input) → AllByRecursion HasNoSlot inputs
    → map part_text (dimm_parts dimms_begun (log_sayings state inputs)) ≡ log_texts state.feed inputs
log_unchanged state inputs none =
    (quiet_from_start (log_sayings state inputs) (log_no_slots state inputs none)).texts ∙ log_said_are state inputs

pub log_end_unchanged : (state : LogDimmsState) (inputs : List Input) (cut : Bool) → AllByRecursion HasNoSlot inputs
    → dimms_last (dimms_over dimms_begun (log_sayings state inputs)) (log_last (log_over state.feed inputs) cut) ≡ log_last (log_over state.feed inputs) cut
log_end_unchanged state inputs cut none =
    last_alone (dimms_over dimms_begun (log_sayings state inputs)) (log_last (log_over state.feed inputs) cut)
    (quiet_from_start (log_sayings state inputs) (log_no_slots state inputs none)).held

-- ---- short, and whole lines

pub trace_dimms_short : (state : TraceFeedState) (inputs : List Input) → state.taken + length inputs < 2 ^ 64 → AreShort (map part_text (dimm_parts dimms_begun (trace_sayings state inputs)))
trace_dimms_short state inputs few =
    parts_short (trace_sayings state inputs) dimms_begun (subst (λ (texts : List (List ℕ)). AreShort texts) (sym (trace_said_are state inputs)) (trace_short state inputs few))

trace_said_whole : (state : TraceFeedState) (inputs : List Input) → AllByRecursion AreWholeLines (map (λ (s : Saying). s.said) (trace_sayings state inputs))
trace_said_whole state inputs = subst (λ (texts : List (List ℕ)). AllByRecursion AreWholeLines texts) (sym (trace_said_are state inputs)) (trace_whole state inputs)

pub trace_dimms_whole : (state : TraceFeedState) (inputs : List Input) → AllByRecursion AreWholeLines (map part_text (dimm_parts dimms_begun (trace_sayings state inputs)))
trace_dimms_whole state inputs = parts_whole (trace_sayings state inputs) dimms_begun (inl refl) (trace_said_whole state inputs)

pub trace_dimms_end_whole : (state : TraceFeedState) (inputs : List Input) (cut : Bool)
    → AreWholeLines (dimms_last (dimms_over dimms_begun (trace_sayings state inputs)) (trace_last (trace_over state inputs) cut))
trace_dimms_end_whole state inputs cut =
    end_whole (trace_sayings state inputs) dimms_begun (trace_last (trace_over state inputs) cut) (inl refl) (trace_said_whole state inputs) (trace_end_whole (trace_over state inputs) cut)

pub log_dimms_short : (state : LogDimmsState) (inputs : List Input) → state.feed.taken + length inputs < 2 ^ 64 → AreShort (map part_text (dimm_parts dimms_begun (log_sayings state inputs)))
log_dimms_short state inputs few =
    parts_short (log_sayings state inputs) dimms_begun (subst (λ (texts : List (List ℕ)). AreShort texts) (sym (log_said_are state inputs)) (log_short state.feed inputs few))

log_said_whole : (state : LogDimmsState) (inputs : List Input) → AllByRecursion AreWholeLines (map (λ (s : Saying). s.said) (log_sayings state inputs))
log_said_whole state inputs = subst (λ (texts : List (List ℕ)). AllByRecursion AreWholeLines texts) (sym (log_said_are state inputs)) (log_whole state.feed inputs)

pub log_dimms_whole : (state : LogDimmsState) (inputs : List Input) → AllByRecursion AreWholeLines (map part_text (dimm_parts dimms_begun (log_sayings state inputs)))
log_dimms_whole state inputs = parts_whole (log_sayings state inputs) dimms_begun (inl refl) (log_said_whole state inputs)

pub log_dimms_end_whole : (state : LogDimmsState) (inputs : List Input) (cut : Bool)
    → AreWholeLines (dimms_last (dimms_over dimms_begun (log_sayings state inputs)) (log_last (log_over state.feed inputs) cut))
log_dimms_end_whole state inputs cut =
    end_whole (log_sayings state inputs) dimms_begun (log_last (log_over state.feed inputs) cut) (inl refl) (log_said_whole state inputs) (log_end_whole (log_over state.feed inputs) cut)

-- ---- an empty line

-- behind a line that tells nothing and has no text, nothing waits
released : (d : DimmsState) (slot : Option SlotLine) → length d.held ≤ MOST_HELD
    → (dimms_after d (record { slot = slot; told = None; said = []; waits = false })).held ≡ []
released d slot few = by (heard d slot) (heard_held d slot)
  where
    by : (h : DimmsState) → h.held ≡ d.held → (if exceeds_call ([] ++ h.held ++ []) then h else record h { held = [] }).held ≡ []
    by h same = fits (exceeds_call ([] ++ h.held ++ [])) refl
      where
        fits : (long : Bool) → exceeds_call ([] ++ h.held ++ []) ≡ long → (if long then h else record h { held = [] }).held ≡ []
        fits false is = refl
        fits true is = absurd (omega (arith, is_long ([] ++ h.held ++ []) is, sum_is [] h.held [], ap (λ (held : List ℕ). length held) same, few))

released_by : (d : DimmsState) (s : Saying) → s.told ≡ None → s.said ≡ [] → s.waits ≡ false → length d.held ≤ MOST_HELD → (dimms_after d s).held ≡ []
released_by d s told said waits few =
    ap (λ (t : Option (ℕ × List ℕ)). (dimms_after d (record { slot = s.slot; told = t; said = s.said; waits = s.waits })).held) told
    ∙ ap (λ (text : List ℕ). (dimms_after d (record { slot = s.slot; told = None; said = text; waits = s.waits })).held) said
    ∙ ap (λ (w : Bool). (dimms_after d (record { slot = s.slot; told = None; said = []; waits = w })).held) waits
    ∙ released d s.slot few

empty_told : (state : TraceFeedState) → trace_told state [] ≡ None
empty_told state = by state.drivers
  where
    by : (drivers : Bool) → (if drivers then None else traced_dimm_of []) ≡ None
    by true = refl
    by false = refl

empty_log_told : (listening : Bool) (told : ToldInLog) → told_if listening told [] ≡ None
empty_log_told true told = refl
empty_log_told false told = refl

-- an empty line ends no report
no_end : (work : Option OpenReport) → option_map_or (λ report. is_ended_by report (report_log_line []).stamp (report_log_line []).marking) work false ≡ false
no_end None = refl
no_end (Some report) = refl

no_blocks : (r : Reporting) (number : ℕ) → blocks_text_at r number (report_log_line []) ≡ []
no_blocks r number =
    ap (λ (ends : Bool). (if ends then end_text r else []) ++ remark_text number (line_remark (if ends then after_report r r.work else r) (report_log_line []))) (no_end r.work)

no_blocks_beside : (border : Option ℕ) (r : Reporting) (number : ℕ) → blocks_text_beside border r number (report_log_line []) ≡ []
no_blocks_beside border r number =
    ap (λ (ends : Bool). (if ends then end_text_beside border r else []) ++ remark_text number (line_remark (if ends then after_report r r.work else r) (report_log_line []))) (no_end r.work)

empty_trace_text : (state : TraceFeedState) → trace_text state (line []) ≡ []
empty_trace_text state =
    by state.drivers
  where
    before : List ℕ
    before = gap_said (state.taken + 1) [] ++ found_text (state.taken + 1) (named_found state.counts (found_with_cap state.boot state.cap []))

    by : (drivers : Bool) → fitted (state.taken + 1) [] (before ++ event_text_by (before_line state.reports state.taken) [] (any_event_of drivers [])) ≡ []
    by true = ap (λ (text : List ℕ). fitted (state.taken + 1) [] (before ++ text)) (no_blocks (without_sources state.reports) (state.taken + 1))
    by false = ap (λ (text : List ℕ). fitted (state.taken + 1) [] (before ++ text)) (no_blocks (without_sources state.reports) (state.taken + 1))

empty_trace_waits : (state : TraceFeedState) → trace_waits state [] ≡ false
empty_trace_waits state = refl

empty_log_text : (state : LogFeedState) → log_text state (line []) ≡ []
empty_log_text state =
    ap (λ (text : List ℕ). fitted (state.taken + 1) [] (check_said state.borders.checks (state.taken + 1) [] (error_in state.errors []) ++ text))
    (no_blocks_beside state.borders.reports (without_sources state.reports) (state.taken + 1))

empty_log_waits : (state : LogFeedState) → log_waits state [] ≡ false
empty_log_waits state = refl

pub trace_released : (state : TraceDimmsState) → length state.dimms.held ≤ MOST_HELD → (trace_dimms_after state (line [])).dimms.held ≡ []
trace_released state few =
    released_by state.dimms (trace_saying state.feed (line [])) (empty_told state.feed) (empty_trace_text state.feed) (empty_trace_waits state.feed) few

pub log_released : (state : LogDimmsState) → length state.dimms.held ≤ MOST_HELD → (log_dimms_after state (line [])).dimms.held ≡ []
log_released state few =
    released_by state.dimms (log_saying state (line [])) (empty_log_told (listens_to state.dimms []) state.told) (empty_log_text state.feed) (empty_log_waits state.feed) few
