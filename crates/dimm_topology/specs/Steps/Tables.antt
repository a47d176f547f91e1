-- The tables that a topology stores beside its rows, so that it needn't search them.
use Rattle.std.specs.Prelude.{◌≡◌, ℕ, Bool, false, nat_eq, if◌then◌else◌, Option, None, Some, List, [], ◌∷◌, filter}
use Rattle.std.specs.List.{list_any, find}
use Rattle.std.specs.Option.{option_map}
use Rattle.std.specs.HashMap.{get}
use Rattle.std.specs.HashSet.{contains}
use Rattle.dimm_topology.specs.Labels.{Bytes, same_label}
use Rattle.dimm_topology.specs.Rows.{labels_of_rows, is_at, is_module_label, overlap}
use Rattle.dimm_topology.specs.Owners.{the_one, owner_of_address, socket_by_rows}
use Rattle.dimm_topology.specs.contracts.row.LocationPartialEq.TheImpl.{eq-value as location_eq}
use Rattle.dimm_topology.specs.declared.ranges.HeldRange.{HeldRange}
use Rattle.dimm_topology.specs.declared.row.Location.{Location}
use Rattle.dimm_topology.specs.declared.row.Row.{Row}
use Rattle.dimm_topology.specs.declared.row.Row.TheVariants.{Range}
use Rattle.dimm_topology.specs.declared.tables.Tables.{Tables}
use Rattle.dimm_topology.specs.Steps.Ranges.{meets}

-- Whether a row is a range that has an address in common with one of these.
abbrev pub meets_one : List HeldRange → Row → Bool
meets_one ranges (Range label first last) = list_any (meets first last) ranges
meets_one ranges _ = false

-- the owner by these labels; None if there are no labels
abbrev pub noted : List Bytes → Option (Option Bytes)
noted [] = None
noted (label ∷ labels) = Some (the_one (label ∷ labels))

-- the owner by these labels and one more
abbrev pub joined : Option (Option Bytes) → Bytes → Option Bytes
joined None label = Some label
joined (Some None) label = None
joined (Some (Some held)) label = if same_label held label then Some held else None

-- The tables say what the rows say.
pub record Tells (rows : List Row) (tables : Tables) : Type 0 where
  -- the sockets of CPUs
  pub sockets : (cpu : ℕ) → get nat_eq tables.sockets cpu ≡ socket_by_rows rows cpu
  -- which labels are those of module rows
  pub modules : (label : Bytes) → contains same_label tables.modules label ≡ is_module_label rows label
  -- the owners of the locations in rows
  pub owners : (location : Location) → get location_eq.it tables.owners location ≡ noted (labels_of_rows (filter (is_at location) rows))
  -- which addresses are in ranges
  pub held : (label : Bytes) (first last : ℕ) → list_any (overlap (Range label first last)) rows ≡ list_any (meets first last) tables.ranges
  -- who owns an address
  pub owned : (address : ℕ) → owner_of_address rows address ≡ option_map (λ range. range.label) (find (meets address address) tables.ranges)
