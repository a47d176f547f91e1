-- What `lines log` prints: the texts of a log, and before an error the range of the DIMM that the kernel names.
use Rattle.std.specs.Prelude.{ℕ, Bool, false, List, [], ◌∷◌, map, None}
use Rattle.ras_script.specs.Inputs.{Input, line, long}
use Rattle.line_filters.specs.Feed.{Feed}
use Rattle.log_lines.specs.Dimms.{DimmsState, Saying, dimm_parts, dimms_after, dimms_begun, dimms_last, dimms_over, heard, listens, part_text, slot_line}
use Rattle.log_lines.specs.LogDimm.{told_after_if, told_if}
use Rattle.log_lines.specs.LogFeed.{LogFeedState, log_after, log_last, log_over, log_start, log_text, log_waits}
use Rattle.log_lines.specs.declared.borders.Borders.{Borders}
use Rattle.log_lines.specs.declared.log_dimm.ToldInLog.{ToldInLog}

-- how far a filter has come in a log: what it said last of where an error is, and what the filter knows of DIMMs
pub record LogDimmsState : Type 0 where
  pub feed : LogFeedState
  pub told : ToldInLog
  pub dimms : DimmsState

-- whether somebody listens to a line: what the kernel calls its DIMMs matters only behind a heading with slots
abbrev pub listens_to : DimmsState → List ℕ → Bool
listens_to dimms bytes = listens (heard dimms (slot_line bytes))

-- an input as the DIMMs see it
abbrev pub log_saying : LogDimmsState → Input → Saying
log_saying state (line bytes) = record {
  slot = slot_line bytes;
  told = told_if (listens_to state.dimms bytes) state.told bytes;
  said = log_text state.feed (line bytes);
  waits = log_waits state.feed bytes;
}
log_saying state long = record { slot = None; told = None; said = log_text state.feed long; waits = false }

abbrev pub told_after_input : LogDimmsState → Input → ToldInLog
told_after_input state (line bytes) = told_after_if (listens_to state.dimms bytes) state.told bytes
told_after_input state long = state.told

abbrev pub log_dimms_after : LogDimmsState → Input → LogDimmsState
log_dimms_after state input = record {
  feed = log_after state.feed input;
  told = told_after_input state input;
  dimms = dimms_after state.dimms (log_saying state input);
}

abbrev pub log_sayings : LogDimmsState → List Input → List Saying
log_sayings state [] = []
log_sayings state (input ∷ inputs) = log_saying state input ∷ log_sayings (log_dimms_after state input) inputs

abbrev pub log_dimms_last : LogDimmsState → List Input → Bool → List ℕ
log_dimms_last state inputs cut =
    dimms_last (dimms_over state.dimms (log_sayings state inputs)) (log_last (log_over state.feed inputs) cut)

abbrev pub log_dimms_makes : LogDimmsState → Feed
log_dimms_makes state = record {
  texts = λ inputs. map part_text (dimm_parts state.dimms (log_sayings state inputs));
  last = log_dimms_last state;
}

abbrev pub log_dimms_begun : ℕ → ℕ → ℕ → Borders → LogDimmsState
log_dimms_begun boot cap began borders =
    record { feed = log_start boot cap began borders; told = record { place = None }; dimms = dimms_begun }

-- what is printed of the log of a boot, with the arguments of `log_feed`
abbrev pub log_with_dimms : ℕ → ℕ → ℕ → Borders → Feed
log_with_dimms boot cap began borders = log_dimms_makes (log_dimms_begun boot cap began borders)
