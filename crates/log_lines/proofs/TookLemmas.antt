-- A filter took an input, if the input's text is appended and the filter goes on after it.
use Rattle.std.proofs.Common.{◌≡◌, ℕ, ◌+◌, ◌<◌, ◌≤◌, Bool, false, List, [], ◌++◌, None, length, refl, arith}
use Rattle.line_filters.specs.Feed.{TookInput}
use Rattle.line_filters.specs.declared.feeding.TheConstants.{MOST_AT_ONCE, MOST_INPUTS}
use Rattle.ras_script.specs.Inputs.{Input, line, long}
use Rattle.bank_lines.specs.LogAlong.{found_at_end}
use Rattle.bank_lines.specs.Texts.{found_text}
use Rattle.block_lines.specs.Texts.{rest_text}
use Rattle.log_lines.specs.Comments.{cut_said}
use Rattle.log_lines.specs.Dimms.{heard, part_at, part_text, slot_line}
use Rattle.log_lines.specs.LogDimm.{told_if}
use Rattle.log_lines.specs.LogFeed.{LogFeedState, log_last, log_said, log_text, log_waits}
use Rattle.log_lines.specs.LogWithDimms.{LogDimmsState, listens_to, log_dimms_after, log_dimms_makes, log_saying}
use Rattle.log_lines.specs.TraceFeed.{TraceFeedState, trace_last, trace_said, trace_text, trace_waits}
use Rattle.log_lines.specs.TraceWithDimms.{TraceDimmsState, trace_dimms_after, trace_dimms_makes, trace_saying, trace_told}
use Rattle.log_lines.specs.declared.comments.TheConstants.{MOST_LAST}
use Rattle.log_lines.proofs.DimmLemmas.{part_short}
use Rattle.log_lines.proofs.LimitLemmas.{fitted_short, limited_short, too_long_short}

-- ---- one call can print the text of an input

pub log_text_short : (state : LogFeedState) (input : Input) → state.taken < MOST_INPUTS → length (log_text state input) ≤ MOST_AT_ONCE
log_text_short state (line bytes) few = fitted_short (state.taken + 1) bytes (log_said state bytes) (omega (arith, few))
log_text_short state long few = too_long_short (state.taken + 1) (omega (arith, few))

pub trace_text_short : (state : TraceFeedState) (input : Input) → state.taken < MOST_INPUTS → length (trace_text state input) ≤ MOST_AT_ONCE
trace_text_short state (line bytes) few = fitted_short (state.taken + 1) bytes (trace_said state bytes) (omega (arith, few))
trace_text_short state long few = too_long_short (state.taken + 1) (omega (arith, few))

trace_part_short : (state : TraceDimmsState) (input : Input) → state.feed.taken < MOST_INPUTS
    → length (part_text (part_at state.dimms (trace_saying state.feed input))) ≤ MOST_AT_ONCE
trace_part_short state (line bytes) few =
    part_short (heard state.dimms (slot_line bytes)) (trace_told state.feed bytes) (trace_text state.feed (line bytes)) (trace_waits state.feed bytes) (trace_text_short state.feed (line bytes) few)
trace_part_short state long few = part_short (heard state.dimms None) None (trace_text state.feed long) false (trace_text_short state.feed long few)

log_part_short : (state : LogDimmsState) (input : Input) → state.feed.taken < MOST_INPUTS
    → length (part_text (part_at state.dimms (log_saying state input))) ≤ MOST_AT_ONCE
log_part_short state (line bytes) few =
    part_short (heard state.dimms (slot_line bytes)) (told_if (listens_to state.dimms bytes) state.told bytes) (log_text state.feed (line bytes)) (log_waits state.feed bytes) (log_text_short state.feed (line bytes) few)
log_part_short state long few = part_short (heard state.dimms None) None (log_text state.feed long) false (log_text_short state.feed long few)

-- ---- one call can print the text at the end

pub trace_last_short : (state : TraceFeedState) (cut : Bool) → state.taken < MOST_INPUTS → length (trace_last state cut) ≤ MOST_LAST
trace_last_short state cut few =
    limited_short MOST_LAST (state.taken + 1) [] (rest_text state.reports ++ cut_said (state.taken + 1) cut) (omega arith) (omega (arith, few)) (omega arith)

pub log_last_short : (state : LogFeedState) (cut : Bool) → state.taken < MOST_INPUTS → length (log_last state cut) ≤ MOST_LAST
log_last_short state cut few =
    limited_short MOST_LAST (state.taken + 1) [] (found_text 0 (found_at_end state.errors.state) ++ rest_text state.reports ++ cut_said (state.taken + 1) cut)
    (omega arith) (omega (arith, few)) (omega arith)

-- ---- an input was taken

pub trace_took : (state : TraceDimmsState) (input : Input) (old new : List ℕ) → state.feed.taken < MOST_INPUTS
    → new ≡ old ++ part_text (part_at state.dimms (trace_saying state.feed input))
    → TookInput input (trace_dimms_makes state) (trace_dimms_makes (trace_dimms_after state input)) old new
trace_took state input old new few out = record {
  text = part_text (part_at state.dimms (trace_saying state.feed input));
  out = out;
  short = trace_part_short state input few;
  texts = λ inputs. refl;
  last = λ inputs cut. refl;
}

pub log_took : (state : LogDimmsState) (input : Input) (old new : List ℕ) → state.feed.taken < MOST_INPUTS
    → new ≡ old ++ part_text (part_at state.dimms (log_saying state input))
    → TookInput input (log_dimms_makes state) (log_dimms_makes (log_dimms_after state input)) old new
log_took state input old new few out = record {
  text = part_text (part_at state.dimms (log_saying state input));
  out = out;
  short = log_part_short state input few;
  texts = λ inputs. refl;
  last = λ inputs cut. refl;
}
