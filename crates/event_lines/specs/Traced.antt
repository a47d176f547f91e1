-- Which event a line has, where tracers print it: after the clock, a colon and spaces, and after `ras:`, as perf
-- prints it. A process may choose text of other events, and its own name, but these are elsewhere. A line with an
-- event's name after a clock elsewhere is never skipped: it is unread.
use Rattle.std.specs.Prelude.{ℕ, ◌+◌, ◌==◌, ◌&&◌, ◌||◌, Bool, true, false, List, [], ◌∷◌, codes, drop, length, take, Option, Some, is_some, unwrap_or, if◌then◌else◌}
use Rattle.std.specs.Option.{option_map_or}
use Rattle.std.specs.Str.{bytes_eq}
use Rattle.ras_klog.specs.Reading.{provided, read_then}
use Rattle.bank_lines.specs.LogHeads.{begins, mark_place, without_spaces}
use Rattle.bank_lines.specs.Parts.{cut_at, value_after}
use Rattle.bank_lines.specs.Stamp.{stamp_of}
use Rattle.bank_lines.specs.Trace.{behind_name, is_count, last_word}
use Rattle.event_lines.specs.Aer.{aer_event_of, before_last}
use Rattle.event_lines.specs.Memory.{behind_controller, controller_error_of, controller_of, detail_in, extlog_error_of, firmware_mark}
use Rattle.event_lines.specs.SectionEvent.{section_head_of}
use Rattle.block_lines.specs.declared.memory.MemoryError.{MemoryError}
use Rattle.event_lines.specs.declared.aer.AerEvent.{AerEvent}
use Rattle.event_lines.specs.declared.section_event.SectionHead.{SectionHead}
use Rattle.event_lines.specs.declared.traced.LineEvent.{LineEvent}
use Rattle.event_lines.specs.declared.traced.LineEvent.TheVariants.{Absent, Unread, Found, Section, Memory}

-- the index of the first colon before a space, if the word before the colon is what a tracer's clock shows
abbrev pub clock_place : List ℕ → Option ℕ
clock_place line =
    read_then (mark_place (codes ": ") line) (λ place.
    provided (is_count (last_word [] (cut_at 32 (take place line)))) (Some place))

-- the time stamp that a clock with its colon at this index shows
abbrev pub stamp_at : ℕ → List ℕ → Option ℕ
stamp_at place line = stamp_of (last_word [] (cut_at 32 (take (place + 1) line)))

-- the text after the clock, from the event's name on
abbrev pub named_text : ℕ → List ℕ → List ℕ
named_text place line =
    let text = without_spaces (drop (place + 1) line) in unwrap_or (value_after (codes "ras:") text) text

-- an event with its time stamp, if both were read
abbrev pub found_event : Option ℕ → Option AerEvent → LineEvent
found_event (Some stamp) (Some event) = Found (record { stamp = stamp; event = event })
found_event stamp event = Unread

-- a section's event with its time stamp, if both were read
abbrev pub found_section : Option ℕ → Option SectionHead → LineEvent
found_section (Some stamp) (Some head) = Section (record { stamp = stamp; head = head })
found_section stamp head = Unread

-- a memory error with its time stamp, if both were read
abbrev pub found_memory : Option ℕ → Option MemoryError → LineEvent
found_memory (Some stamp) (Some error) = Memory (record { stamp = stamp; error = error })
found_memory stamp error = Unread

-- Another driver's event, which is counted by its machine check. Its parentheses hold this text, and the driver's
-- detail doesn't begin with the firmware's name; if this name is elsewhere, the event is unread.
abbrev pub other_event : List ℕ → LineEvent
other_event controller = if is_some (mark_place firmware_mark controller) then Unread else Absent

-- the event of a memory controller, given the text in its parentheses
abbrev pub controller_event : Option ℕ → List ℕ → LineEvent
controller_event stamp text =
    option_map_or (λ controller.
    option_map_or (λ places. found_memory stamp (controller_error_of text controller places))
    (value_after firmware_mark (detail_in controller)) (other_event controller)) (controller_of text) Unread

-- which event a text after a clock has; trace-cmd prints spaces between the name and the event's text
abbrev pub event_behind : Option ℕ → List ℕ → LineEvent
event_behind stamp text =
    option_map_or (λ told. found_event stamp (aer_event_of (without_spaces told))) (value_after (codes "aer_event: ") text) (
    option_map_or (λ told. found_section stamp (section_head_of (without_spaces told)))
    (value_after (codes "non_standard_event: ") text) (
    option_map_or (λ told. controller_event stamp (without_spaces told)) (value_after (codes "mc_event: ") text) (
    option_map_or (λ told. found_memory stamp (extlog_error_of (without_spaces told)))
    (value_after (codes "extlog_mem_event: ") text) Absent)))

-- the event after the first clock of a text
abbrev pub clock_event : List ℕ → LineEvent
clock_event text =
    option_map_or (λ place. event_behind (stamp_at place text) (named_text place text)) (clock_place text) Absent

-- ---- an event's name after another clock

-- whether a word is what a tracer's clock shows, and its colon
abbrev pub shows_clock : List ℕ → Bool
shows_clock word = option_map_or is_count (before_last 58 word) false

-- whether a word is an event's name and its colon; the name of a memory controller's event only if the firmware's
-- driver made the event
abbrev pub is_event_name : Bool → List ℕ → Bool
is_event_name by_firmware word =
    let name = unwrap_or (value_after (codes "ras:") word) word in
    bytes_eq name (codes "aer_event:") || (bytes_eq name (codes "non_standard_event:")
    || (bytes_eq name (codes "extlog_mem_event:") || (by_firmware && bytes_eq name (codes "mc_event:"))))

-- whether one of these words is an event's name after a clock and spaces; `is_behind` says that such a clock comes
-- before the first word
abbrev pub has_name : Bool → Bool → List (List ℕ) → Bool
has_name by_firmware is_behind [] = false
has_name by_firmware is_behind (word ∷ words) =
    (is_behind && is_event_name by_firmware word)
    || has_name by_firmware (shows_clock word || (is_behind && length word == 0)) words

-- whether a text has the name of the firmware's detail after its last ` (mc:`, or no ` (mc:`
abbrev pub is_firmware : List ℕ → Bool
is_firmware text =
    option_map_or (λ behind. is_some (mark_place firmware_mark behind)) (behind_controller text) true

-- whether a text has an event's name after a clock, wherever both are
abbrev pub has_event : List ℕ → Bool
has_event text =
    is_some (mark_place (codes "_event:") text) && has_name (is_firmware text) false (cut_at 32 text)

-- ---- a line

abbrev pub event_or_unread : List ℕ → LineEvent → LineEvent
event_or_unread text Absent = if has_event text then Unread else Absent
event_or_unread text event = event

-- which event a line has
abbrev pub line_event_of : List ℕ → LineEvent
line_event_of line = let text = behind_name line in event_or_unread text (clock_event text)

-- whether a line has an event of an extended log, read or not
abbrev pub is_extlog : List ℕ → Bool
is_extlog line =
    let text = behind_name line in
    option_map_or (λ place. begins (named_text place text) (codes "extlog_mem_event: ")) (clock_place text) false
