-- The lines of script that `lines ghes` makes of the lines of a kernel log and of a trace.
use Rattle.std.specs.Prelude.{ℕ, ◌+◌, List, [], ◌∷◌, ◌++◌, Option, Some, Result, Ok}
use Rattle.std.specs.Option.{option_map_or}
use Rattle.std.specs.Result.{is_ok}
use Rattle.apei_sources.specs.Blocks.{block_of}
use Rattle.ras_klog.specs.Reading.{provided, read_then}
use Rattle.line_filters.specs.Filter.{Filter}
use Rattle.ras_script.specs.declared.line.LineRefused.{LineRefused}
use Rattle.block_lines.specs.Blocks.{block_bytes, section_block_bytes}
use Rattle.block_lines.specs.Filter.{BlockProgress}
use Rattle.block_lines.specs.LogLines.{report_log_line}
use Rattle.block_lines.specs.Reports.{Reporting, no_reports, reporting_after, with_source}
use Rattle.block_lines.specs.declared.memory.MemoryError.{MemoryError}
use Rattle.block_lines.specs.Texts.{blocks_text_at, rest_text, source_block_text, unread_report_line}
use Rattle.event_lines.specs.Aer.{cper_severity}
use Rattle.event_lines.specs.PcieBytes.{pcie_section_bytes, pcie_type}
use Rattle.event_lines.specs.SectionEvent.{section_bytes_of}
use Rattle.event_lines.specs.Traced.{line_event_of}
use Rattle.event_lines.specs.declared.aer.AerEvent.{AerEvent}
use Rattle.event_lines.specs.declared.filter.TheConstants.{TRACE_SOURCE}
use Rattle.event_lines.specs.declared.traced.FoundEvent.{FoundEvent}
use Rattle.event_lines.specs.declared.traced.FoundMemory.{FoundMemory}
use Rattle.event_lines.specs.declared.traced.FoundSection.{FoundSection}
use Rattle.event_lines.specs.declared.traced.LineEvent.{LineEvent}
use Rattle.event_lines.specs.declared.traced.LineEvent.TheVariants.{Absent, Unread, Found, Section, Memory}

-- ---- an event

-- the block of an event
abbrev pub event_block : AerEvent → List ℕ
event_block event = section_block_bytes pcie_type (cper_severity event.severity) (pcie_section_bytes event)

-- the line of an event's block, after a table if one is due
abbrev pub event_text : Reporting → FoundEvent → List ℕ
event_text r found = source_block_text r TRACE_SOURCE found.stamp (event_block found.event)

-- the block of a section's event, if the section's bytes can be read, and a run can read the block
abbrev pub section_block_of : FoundSection → List ℕ → Option (List ℕ)
section_block_of found line =
    read_then (section_bytes_of found.head line) (λ bytes.
    let block = section_block_bytes found.head.kind found.head.severity bytes in
    provided (is_ok (block_of block)) (Some block))

-- the line of a section's block, after a table if one is due
abbrev pub section_event_text : Reporting → FoundSection → List ℕ → List ℕ
section_event_text r found block = source_block_text r TRACE_SOURCE found.stamp block

-- the block of a memory error, as the block of a report in the log with only this error
abbrev pub memory_block : MemoryError → List ℕ
memory_block error = block_bytes error.severity (error ∷ [])

-- the line of a memory error's block, after a table if one is due
abbrev pub memory_event_text : Reporting → FoundMemory → List ℕ
memory_event_text r found = source_block_text r TRACE_SOURCE found.stamp (memory_block found.error)

-- the state after a line with an event: the reports of the log stay as they are
abbrev pub after_event : BlockProgress → BlockProgress
after_event p = record { reports = with_source p.reports TRACE_SOURCE; taken = p.taken + 1 }

-- ---- a line

abbrev pub event_text_by : BlockProgress → List ℕ → LineEvent → List ℕ
event_text_by p line Absent = blocks_text_at p.reports (p.taken + 1) (report_log_line line)
event_text_by p line Unread = unread_report_line (p.taken + 1) ++ 10 ∷ []
event_text_by p line (Found found) = event_text p.reports found
event_text_by p line (Section found) =
    option_map_or (section_event_text p.reports found) (section_block_of found line)
    (unread_report_line (p.taken + 1) ++ 10 ∷ [])
event_text_by p line (Memory found) = memory_event_text p.reports found

abbrev pub after_by : BlockProgress → List ℕ → LineEvent → BlockProgress
after_by p line Absent =
    record { reports = reporting_after p.reports (report_log_line line); taken = p.taken + 1 }
after_by p line Unread = record p { taken = p.taken + 1 }
after_by p line (Found found) = after_event p
after_by p line (Section found) =
    option_map_or (λ block. after_event p) (section_block_of found line) (record p { taken = p.taken + 1 })
after_by p line (Memory found) = after_event p

-- the text of a line, and the state of the filter after it
abbrev pub report_text_at : BlockProgress → List ℕ → List ℕ
report_text_at p line = event_text_by p line (line_event_of line)

abbrev pub after_line : BlockProgress → List ℕ → BlockProgress
after_line p line = after_by p line (line_event_of line)

-- ---- the filter

-- the text of each line; no line is rejected
abbrev pub report_answers : BlockProgress → List (List ℕ) → List (Result (List ℕ) LineRefused)
report_answers p [] = []
report_answers p (line ∷ lines) = Ok (report_text_at p line) ∷ report_answers (after_line p line) lines

-- the text after all lines: about a report of the log that no line ended
abbrev pub report_rest : BlockProgress → List (List ℕ) → List ℕ
report_rest p [] = rest_text p.reports
report_rest p (line ∷ lines) = report_rest (after_line p line) lines

-- the filter that goes on from here
abbrev pub reports_make : BlockProgress → Filter
reports_make p = record { answers = report_answers p; rest = report_rest p; last = λ lines. [] }

-- the filter for the log and the trace of a boot that began at this second
abbrev pub report_filter : ℕ → ℕ → Filter
report_filter boot began = reports_make (record { reports = no_reports boot began; taken = 0 })
