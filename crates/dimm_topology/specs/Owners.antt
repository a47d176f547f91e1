-- Which module an error belongs to, by the rows of a topology: one rule for the errors of banks and for the errors that
-- firmware reports.
use Rattle.std.specs.Prelude.{ℕ, nat_eq, Option, Some, None, List, [], ◌∷◌, if◌then◌else◌, filter}
use Rattle.std.specs.List.{list_all, filter_map, last_or}
use Rattle.std.specs.Option.{option_and_then, option_map, option_or}
use Rattle.mca_codes.specs.declared.codes.Code.{Code}
use Rattle.mca_codes.specs.declared.codes.Code.TheVariants.{Memory}
use Rattle.cper_sections.specs.declared.memory.MemSection.{MemSection}
use Rattle.dimm_topology.specs.Labels.{Bytes, same_label}
use Rattle.dimm_topology.specs.Rows.{socket_of, labels_of_rows, is_at, is_range_over}
use Rattle.dimm_topology.specs.declared.row.Location.{Location}
use Rattle.dimm_topology.specs.declared.row.Location.TheVariants.{Channel, Numbers}
use Rattle.dimm_topology.specs.declared.row.Row.{Row}

-- The only label in a list, maybe several times; None if the list has no label or different ones.
abbrev pub the_one : List Bytes → Option Bytes
the_one [] = None
the_one (label ∷ labels) = if list_all (same_label label) labels then Some label else None

-- the ranges that contain an address: at most one, because no two ranges overlap
abbrev pub ranges_over : List Row → ℕ → List Row
ranges_over rows address = filter (is_range_over address) rows

-- the label of the range that contains an address
abbrev pub owner_of_address : List Row → ℕ → Option Bytes
owner_of_address rows address = the_one (labels_of_rows (ranges_over rows address))

-- the only label in the rows of a location
abbrev pub owner_at : List Row → Location → Option Bytes
owner_at rows location = the_one (labels_of_rows (filter (is_at location) rows))

-- the owner of an error: the owner of its address, else the owner of its location
abbrev pub owner_by_rows : List Row → Option ℕ → Option Location → Option Bytes
owner_by_rows rows address location =
    option_or (option_and_then (owner_of_address rows) address) (option_and_then (owner_at rows) location)

-- the socket of a CPU, by the last row that gives one
abbrev pub socket_by_rows : List Row → ℕ → Option ℕ
socket_by_rows rows cpu = last_or None (filter_map (socket_of cpu) rows)

-- the memory channel in an error code: a memory controller error's, unless it is 15
abbrev pub channel_of : Code → Option ℕ
channel_of (Memory mmm channel filter) = if nat_eq channel 15 then None else Some channel
channel_of _ = None

-- the location of an error in a bank, by the CPU that reports it, the bank, and the error's code
abbrev pub bank_location : List Row → ℕ → ℕ → Code → Option Location
bank_location rows cpu bank code =
    option_and_then (λ channel. option_map (λ socket. Channel socket bank channel) (socket_by_rows rows cpu)) (channel_of code)

-- the location that a memory section names: its node, card and module, if all three are there
abbrev pub section_location : MemSection → Option Location
section_location section =
    option_and_then (λ node. option_and_then (λ card. option_map (λ module'. Numbers node card module') section.«module»)
    section.card) section.node
