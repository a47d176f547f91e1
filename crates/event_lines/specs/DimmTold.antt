-- The address and the DIMM that an event of a memory controller names, `mc_event`, whoever made it:
-- include/ras/ras_event.h.
use Rattle.std.specs.Prelude.{ℕ, ◌+◌, ◌-◌, List, ◌∷◌, codes, drop, length, take, Option, None, Some, if◌then◌else◌}
use Rattle.std.specs.Option.{option_map}
use Rattle.ras_klog.specs.Reading.{read_then}
use Rattle.ras_script.specs.Number.{hexadecimal_of}
use Rattle.bank_lines.specs.LogHeads.{after, mark_place, up_to, without_spaces}
use Rattle.bank_lines.specs.Parts.{value_after}
use Rattle.bank_lines.specs.Trace.{behind_name}
use Rattle.event_lines.specs.Driver.{lacks_place}
use Rattle.event_lines.specs.DriverKernel.{PrintedDriver}
use Rattle.event_lines.specs.Memory.{address_told, addresses_in, controller_of}
use Rattle.event_lines.specs.Traced.{clock_place, named_text}

-- An event's text is `<n> <severity> error:<message> on <label> (mc:<inside>)`, or `errors:` for more than one. A message
-- begins with a space, and may be empty.

-- the text before the last ` (mc:`, given the text in the parentheses: 6 more bytes open and close them
abbrev pub before_inside : List ℕ → List ℕ → List ℕ
before_inside inside text = take (length text - (length inside + 6)) text

-- The label, given `<message> on <label>`: what is behind the first ` on `, since a message has none. A message by which
-- the driver says that it doesn't know the place has no label.
abbrev pub label_told : List ℕ → Option (List ℕ)
label_told said =
    read_then (mark_place (codes " on ") said) (λ place.
    if lacks_place (after 32 (take place said)) then None else Some (drop (place + 4) said))

-- the address, `address:0x<address>` behind the number of the controller and the layers; the kernel prints 0 for none
abbrev pub address_in : List ℕ → Option ℕ
address_in inside =
    read_then (value_after (codes "address:0x") (up_to 32 (addresses_in inside))) (λ digits.
    read_then (hexadecimal_of digits) address_told)

-- the address and the label of an event with this text
abbrev pub dimm_told : List ℕ → Option (ℕ × List ℕ)
dimm_told text =
    read_then (controller_of text) (λ inside.
    read_then (label_told (after 58 (before_inside inside text))) (λ label.
    option_map (λ address. (address, label)) (address_in inside)))

-- the same, given the text from the event's name on
abbrev pub dimm_behind : List ℕ → Option (ℕ × List ℕ)
dimm_behind text = read_then (value_after (codes "mc_event: ") text) (λ told. dimm_told (without_spaces told))

-- the same, given the line without a process's name
abbrev pub clocked_dimm : List ℕ → Option (ℕ × List ℕ)
clocked_dimm text = read_then (clock_place text) (λ place. dimm_behind (named_text place text))

-- the address of the error of a line's event, and the DIMM's label in it
abbrev pub traced_dimm_of : List ℕ → Option (ℕ × List ℕ)
traced_dimm_of line = clocked_dimm (behind_name line)

-- ---- as the kernel prints it

-- what an event says of its DIMM: nothing without an address, or if the driver doesn't know the place
abbrev pub dimm_of_driver : PrintedDriver → Option (ℕ × List ℕ)
dimm_of_driver p = if lacks_place p.message then None else option_map (λ address. (address, p.label)) p.address

-- A message doesn't begin with `on`: `error: on on A` could be either that message and the label `A`, or an empty message
-- and the label `on A`.
abbrev pub spaced_message : PrintedDriver → List ℕ
spaced_message p = 32 ∷ p.message
