-- What `lines trace` prints: the texts of a trace, and before an error the range of the DIMM that the kernel names.
use Rattle.std.specs.Prelude.{ℕ, Bool, false, List, [], ◌∷◌, map, Option, None, if◌then◌else◌}
use Rattle.ras_script.specs.Inputs.{Input, line, long}
use Rattle.line_filters.specs.Feed.{Feed}
use Rattle.event_lines.specs.DimmTold.{traced_dimm_of}
use Rattle.log_lines.specs.Dimms.{DimmsState, Saying, dimm_parts, dimms_after, dimms_begun, dimms_last, dimms_over, part_text, slot_line}
use Rattle.log_lines.specs.TraceFeed.{TraceFeedState, trace_after, trace_begun, trace_last, trace_over, trace_text, trace_waits}

-- how far a filter has come in a trace, and what it knows of DIMMs
pub record TraceDimmsState : Type 0 where
  pub feed : TraceFeedState
  pub dimms : DimmsState

-- If every driver's event is an error with a row of its own, none tells of another error.
abbrev pub trace_told : TraceFeedState → List ℕ → Option (ℕ × List ℕ)
trace_told state bytes = if state.drivers then None else traced_dimm_of bytes

-- an input as the DIMMs see it
abbrev pub trace_saying : TraceFeedState → Input → Saying
trace_saying state (line bytes) = record {
  slot = slot_line bytes;
  told = trace_told state bytes;
  said = trace_text state (line bytes);
  waits = trace_waits state bytes;
}
trace_saying state long = record { slot = None; told = None; said = trace_text state long; waits = false }

abbrev pub trace_sayings : TraceFeedState → List Input → List Saying
trace_sayings state [] = []
trace_sayings state (input ∷ inputs) = trace_saying state input ∷ trace_sayings (trace_after state input) inputs

abbrev pub trace_dimms_after : TraceDimmsState → Input → TraceDimmsState
trace_dimms_after state input = record {
  feed = trace_after state.feed input;
  dimms = dimms_after state.dimms (trace_saying state.feed input);
}

abbrev pub trace_dimms_last : TraceDimmsState → List Input → Bool → List ℕ
trace_dimms_last state inputs cut =
    dimms_last (dimms_over state.dimms (trace_sayings state.feed inputs))
    (trace_last (trace_over state.feed inputs) cut)

abbrev pub trace_dimms_makes : TraceDimmsState → Feed
trace_dimms_makes state = record {
  texts = λ inputs. map part_text (dimm_parts state.dimms (trace_sayings state.feed inputs));
  last = trace_dimms_last state;
}

abbrev pub trace_dimms_begun : ℕ → ℕ → ℕ → Bool → TraceDimmsState
trace_dimms_begun boot cap began drivers = record { feed = trace_begun boot cap began drivers; dimms = dimms_begun }

-- what is printed of the trace of a boot, with the arguments of `trace_feed`
abbrev pub trace_with_dimms : ℕ → ℕ → ℕ → Bool → Feed
trace_with_dimms boot cap began drivers = trace_dimms_makes (trace_dimms_begun boot cap began drivers)
