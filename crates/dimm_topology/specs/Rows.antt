-- The rows of a topology.
use Rattle.std.specs.Prelude.{ℕ, Bool, true, false, nat_eq, nat_le, ◌&&◌, Option, Some, None, List, if◌then◌else◌}
use Rattle.std.specs.List.{list_any, filter_map}
use Rattle.std.specs.Option.{option_map_or}
use Rattle.dimm_topology.specs.Labels.{Bytes, same_label, is_label_or_none}
use Rattle.dimm_topology.specs.declared.row.Location.{Location}
use Rattle.dimm_topology.specs.declared.row.Location.TheVariants.{Channel, Numbers}
use Rattle.dimm_topology.specs.declared.row.Row.{Row}
use Rattle.dimm_topology.specs.declared.row.Row.TheVariants.{Cpu, Module, Range, Place}

-- the socket that a CPU row gives a CPU
abbrev pub socket_of : ℕ → Row → Option ℕ
socket_of cpu (Cpu cpu' socket) = if nat_eq cpu cpu' then Some socket else None
socket_of cpu _ = None

-- the label of a row
abbrev pub label_in : Row → Option Bytes
label_in (Cpu cpu socket) = None
label_in (Module label socket bank channel) = Some label
label_in (Range label first last) = Some label
label_in (Place label node card module') = Some label

-- Whether the label of a row is valid or empty.
abbrev pub is_labelled : Row → Bool
is_labelled row = option_map_or is_label_or_none (label_in row) true

-- the labels of rows, in order
abbrev pub labels_of_rows : List Row → List Bytes
labels_of_rows rows = filter_map label_in rows

-- Whether a row says which module is at a location: module rows for memory channels, place rows for the places in
-- firmware reports.
abbrev pub is_at : Location → Row → Bool
is_at location (Cpu cpu socket) = false
is_at location (Range label first last) = false
is_at (Channel socket bank channel) (Module label socket' bank' channel') =
    nat_eq socket socket' && nat_eq bank bank' && nat_eq channel channel'
is_at (Channel socket bank channel) (Place label node card module') = false
is_at (Numbers node card module') (Module label socket bank channel) = false
is_at (Numbers node card module') (Place label node' card' module'') =
    nat_eq node node' && nat_eq card card' && nat_eq module' module''

-- whether a row is a range that contains an address; both ends belong to a range
abbrev pub is_range_over : ℕ → Row → Bool
is_range_over address (Range label first last) = nat_le first address && nat_le address last
is_range_over address _ = false

-- whether a row is a module row of this label
abbrev pub is_module_of : Bytes → Row → Bool
is_module_of label (Module label' socket bank channel) = same_label label label'
is_module_of label _ = false

-- whether some module row has this label
abbrev pub is_module_label : List Row → Bytes → Bool
is_module_label rows label = list_any (is_module_of label) rows

-- Whether a row names a module that the rows have, as a range and a place must.
abbrev pub names_module : List Row → Row → Bool
names_module rows (Range label first last) = is_module_label rows label
names_module rows (Place label node card module') = is_module_label rows label
names_module rows _ = true

-- whether two rows are ranges with an address in common
abbrev pub overlap : Row → Row → Bool
overlap (Range label first last) (Range label' first' last') = nat_le first last' && nat_le first' last
overlap _ _ = false
