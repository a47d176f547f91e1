-- What `lines trace` makes of all that the kernel's trace has.
use Rattle.std.specs.Prelude.{ℕ, ◌+◌, ◌==◌, ◌||◌, Bool, false, List, [], ◌∷◌, ◌++◌, codes, if◌then◌else◌}
use Rattle.std.specs.Option.{option_map_or}
use Rattle.ras_facts.specs.declared.bank.BankReport.{BankReport}
use Rattle.ras_script.specs.Inputs.{Input, line, long}
use Rattle.line_filters.specs.Feed.{Feed}
use Rattle.bank_lines.specs.Counts.{KeyCounts, counts_after, named_found}
use Rattle.bank_lines.specs.LogHeads.{after, begins}
use Rattle.bank_lines.specs.Parts.{value_after}
use Rattle.bank_lines.specs.Texts.{found_text}
use Rattle.bank_lines.specs.Trace.{trace_found}
use Rattle.bank_lines.specs.declared.found.Finding.{Finding}
use Rattle.bank_lines.specs.declared.found.Finding.TheVariants.{Full, Torn, Whole}
use Rattle.block_lines.specs.Filter.{BlockProgress}
use Rattle.block_lines.specs.Reports.{Reporting, no_reports, without_sources}
use Rattle.block_lines.specs.Texts.{rest_text}
use Rattle.event_lines.specs.Driver.{any_event_of}
use Rattle.event_lines.specs.Filter.{after_by, event_text_by}
use Rattle.event_lines.specs.Traced.{is_extlog}
use Rattle.log_lines.specs.Comments.{cut_said, extlog_comment, fitted, gap_comment, limited, too_long_comment}
use Rattle.log_lines.specs.Waits.{waits}
use Rattle.log_lines.specs.declared.comments.TheConstants.{MOST_LAST}

-- how far a filter has come in a trace: whether every driver's event of a memory controller is a memory error, the
-- errors without a counter so far, and how many inputs it took
pub record TraceFeedState : Type 0 where
  pub boot : ℕ
  pub cap : ℕ
  pub drivers : Bool
  pub counts : KeyCounts
  pub reports : Reporting
  pub taken : ℕ

-- ---- what is found in a line

-- An event that lacks IA32_MCG_CAP has the boot's.
abbrev pub with_cap : ℕ → BankReport → BankReport
with_cap cap report = if report.cap == 0 then record report { cap = cap } else report

abbrev pub finding_with_cap : ℕ → Finding → Finding
finding_with_cap cap (Whole report) = Whole (with_cap cap report)
finding_with_cap cap (Torn report) = Torn (with_cap cap report)
finding_with_cap cap (Full report) = Full (with_cap cap report)
finding_with_cap cap found = found

abbrev pub found_with_cap : ℕ → ℕ → List ℕ → Finding
found_with_cap boot cap bytes = finding_with_cap cap (trace_found boot bytes)

-- `CPU:<number> [LOST`, as the kernel says that it lost events
abbrev pub tells_lost : List ℕ → Bool
tells_lost bytes =
    option_map_or (λ rest. begins (after 32 rest) (codes "[LOST")) (value_after (codes "CPU:") bytes) false

-- what stands for an event that is too long for the kernel, and what the script says that keeps the trace
abbrev pub tells_missing : List ℕ → Bool
tells_missing bytes = begins bytes (codes "[LINE TOO BIG]") || begins bytes (codes "# keep-trace was killed")

-- whether a line says that events are missing here
abbrev pub is_gap : List ℕ → Bool
is_gap bytes = tells_lost bytes || tells_missing bytes

abbrev pub gap_said : ℕ → List ℕ → List ℕ
gap_said number bytes = if is_gap bytes then gap_comment number else []

-- ---- the text of a line

-- the reports before a line, without the last table: each block brings a table of its own source
abbrev pub before_line : Reporting → ℕ → BlockProgress
before_line reports taken = record { reports = without_sources reports; taken = taken }

-- An extended log's event is a comment: a machine check of the same error comes before it.
abbrev pub traced_text : TraceFeedState → List ℕ → List ℕ
traced_text state bytes =
    if is_extlog bytes then extlog_comment (state.taken + 1)
    else event_text_by (before_line state.reports state.taken) bytes (any_event_of state.drivers bytes)

abbrev pub traced_after : TraceFeedState → List ℕ → Reporting
traced_after state bytes =
    if is_extlog bytes then state.reports
    else (after_by (before_line state.reports state.taken) bytes (any_event_of state.drivers bytes)).reports

-- what all readers say of a line: of a gap, of a machine check, and of another event
abbrev pub trace_said : TraceFeedState → List ℕ → List ℕ
trace_said state bytes =
    gap_said (state.taken + 1) bytes
    ++ found_text (state.taken + 1) (named_found state.counts (found_with_cap state.boot state.cap bytes))
    ++ traced_text state bytes

-- whether a line's machine check waits for the name of a DIMM
abbrev pub trace_waits : TraceFeedState → List ℕ → Bool
trace_waits state bytes = waits (named_found state.counts (found_with_cap state.boot state.cap bytes))

abbrev pub trace_after_line : TraceFeedState → List ℕ → TraceFeedState
trace_after_line state bytes = record {
  boot = state.boot;
  cap = state.cap;
  drivers = state.drivers;
  counts = counts_after state.counts (found_with_cap state.boot state.cap bytes);
  reports = traced_after state bytes;
  taken = state.taken + 1;
}

-- what is found of machine checks in lines, by their names
abbrev pub trace_checks : TraceFeedState → List (List ℕ) → List Finding
trace_checks state [] = []
trace_checks state (bytes ∷ lines) =
    named_found state.counts (found_with_cap state.boot state.cap bytes)
    ∷ trace_checks (trace_after_line state bytes) lines

-- ---- the filter

-- the text of an input
abbrev pub trace_text : TraceFeedState → Input → List ℕ
trace_text state (line bytes) = fitted (state.taken + 1) bytes (trace_said state bytes)
trace_text state long = too_long_comment (state.taken + 1)

abbrev pub trace_after : TraceFeedState → Input → TraceFeedState
trace_after state (line bytes) = trace_after_line state bytes
trace_after state long = record state { taken = state.taken + 1 }

abbrev pub trace_texts : TraceFeedState → List Input → List (List ℕ)
trace_texts state [] = []
trace_texts state (input ∷ inputs) = trace_text state input ∷ trace_texts (trace_after state input) inputs

abbrev pub trace_over : TraceFeedState → List Input → TraceFeedState
trace_over state [] = state
trace_over state (input ∷ inputs) = trace_over (trace_after state input) inputs

-- the text at the end: of a report that is open, and of bytes after the last line feed
abbrev pub trace_last : TraceFeedState → Bool → List ℕ
trace_last state cut =
    limited MOST_LAST (state.taken + 1) [] (rest_text state.reports ++ cut_said (state.taken + 1) cut)

abbrev pub trace_feed_makes : TraceFeedState → Feed
trace_feed_makes state = record {
  texts = trace_texts state;
  last = λ inputs cut. trace_last (trace_over state inputs) cut;
}

-- what is made of the trace of a boot that began at this second, on processors with this IA32_MCG_CAP, with the events
-- of all drivers or without
abbrev pub trace_begun : ℕ → ℕ → ℕ → Bool → TraceFeedState
trace_begun boot cap began drivers = record {
  boot = boot;
  cap = cap;
  drivers = drivers;
  counts = [];
  reports = no_reports boot began;
  taken = 0;
}

abbrev pub trace_feed : ℕ → ℕ → ℕ → Bool → Feed
trace_feed boot cap began drivers = trace_feed_makes (trace_begun boot cap began drivers)
