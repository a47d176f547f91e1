-- The events of a memory controller that any of the kernel's EDAC drivers made, for a machine whose machine checks rasd
-- doesn't read: there such an event is the only account of an error.
use Rattle.std.specs.Prelude.{ℕ, ◌&&◌, Bool, true, false, List, [], ◌∷◌, codes, take, Option, None, is_some, if◌then◌else◌}
use Rattle.std.specs.List.{list_any}
use Rattle.std.specs.Option.{option_map, option_map_or}
use Rattle.ras_klog.specs.Reading.{read_then}
use Rattle.ras_script.specs.Number.{decimal_of}
use Rattle.bank_lines.specs.LogHeads.{after, begins, mark_place, up_to, without_spaces}
use Rattle.bank_lines.specs.Parts.{cut_at, value_after}
use Rattle.bank_lines.specs.Trace.{behind_name}
use Rattle.block_lines.specs.declared.memory.ErrorLocation.{ErrorLocation}
use Rattle.block_lines.specs.declared.memory.MemoryError.{MemoryError}
use Rattle.event_lines.specs.Memory.{controller_error_of, controller_of}
use Rattle.event_lines.specs.Traced.{clock_event, clock_place, found_memory, has_name, line_event_of, named_text, stamp_at}
use Rattle.event_lines.specs.declared.traced.LineEvent.{LineEvent}
use Rattle.event_lines.specs.declared.traced.LineEvent.TheVariants.{Absent, Unread}

-- ---- the error

-- The memory controller's number, and from `<top>:<middle>:<low>` the numbers of its two upper layers, as node, card
-- and module. The kernel prints -1 for a layer that the driver doesn't know.
abbrev pub driver_place : List ℕ → List ℕ → ErrorLocation
driver_place number layers = record {
  node = decimal_of 65535 number;
  card = decimal_of 65535 (up_to 58 layers);
  «module» = decimal_of 65535 (up_to 58 (after 58 layers));
}

-- How the message of amd64_edac begins for an error whose place it doesn't know. It gives 0 for both layers then:
-- drivers/edac/amd64_edac.c, lines 3192 to 3203 and 3282 to 3292 of version 6.1.192, 2824 to 2832 of 6.12.117.
abbrev pub unplaced_messages : List (List ℕ)
unplaced_messages = codes "Failed to map error addr to a node" ∷ codes "MCA_SYND not valid" ∷ []

abbrev pub lacks_place : List ℕ → Bool
lacks_place message = list_any (begins message) unplaced_messages

-- a text's part before the first ` on `, or all of it if there is none
abbrev pub before_on : List ℕ → List ℕ
before_on text = option_map_or (λ place. take place text) (mark_place (codes " on ") text) text

-- the message of `<n> <severity> error: <message> on <label>`
abbrev pub message_of : List ℕ → List ℕ
message_of text = option_map_or before_on (value_after (codes "error: ") (after 32 (after 32 text))) []

-- the place of an event with this text, controller's number and layers
abbrev pub place_told : List ℕ → List ℕ → List ℕ → ErrorLocation
place_told text number layers =
    if lacks_place (message_of text) then record { node = None; card = None; «module» = None }
    else driver_place number layers

abbrev pub placed_at : ErrorLocation → MemoryError → MemoryError
placed_at location error = record error { location = location }

-- The error of an event with this text, `1 <severity> error:<message> on <label> (mc:<n> location:<layers> ..)`: as in
-- the firmware's events, but for where it is.
abbrev pub driver_error_of : List ℕ → Option MemoryError
driver_error_of text =
    read_then (controller_of text) (λ controller.
    read_then (value_after (codes "location:") (up_to 32 (after 32 controller))) (λ layers.
    option_map (placed_at (place_told text (up_to 32 controller) layers)) (controller_error_of text controller [])))

-- ---- a line

-- a driver's event, given the text from the event's name on
abbrev pub driver_behind : Option ℕ → List ℕ → LineEvent
driver_behind stamp text =
    option_map_or (λ told. found_memory stamp (driver_error_of (without_spaces told)))
    (value_after (codes "mc_event: ") text) Absent

-- a driver's event after the first clock of a text
abbrev pub driver_event : List ℕ → LineEvent
driver_event text =
    option_map_or (λ place. driver_behind (stamp_at place text) (named_text place text)) (clock_place text) Absent

-- whether a text has an event's name after a clock, wherever both are and whoever made the event
abbrev pub has_any_event : List ℕ → Bool
has_any_event text = is_some (mark_place (codes "_event:") text) && has_name true false (cut_at 32 text)

-- an event, or if there is none, another
abbrev pub event_or : LineEvent → LineEvent → LineEvent
event_or Absent other = other
event_or event other = event

abbrev pub named_or_absent : List ℕ → LineEvent
named_or_absent text = if has_any_event text then Unread else Absent

-- Which event a line has, given whether every driver's event of a memory controller is a memory error: then the event
-- after the clock, read as without drivers or as a driver's, or a name elsewhere.
abbrev pub any_event_of : Bool → List ℕ → LineEvent
any_event_of false line = line_event_of line
any_event_of true line =
    let text = behind_name line in
    event_or (clock_event text) (event_or (driver_event text) (named_or_absent text))
