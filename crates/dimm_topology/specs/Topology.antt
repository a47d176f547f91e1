-- What the rows of every topology are.
use Rattle.std.specs.Prelude.{◌≤◌, Bool, true, nat_le, IsTrue, ⊤, List, [], ◌∷◌, length}
use Rattle.std.specs.Bool.{IsFalse}
use Rattle.std.specs.List.{list_any, list_all}
use Rattle.dimm_topology.specs.declared.row.Row.{Row}
use Rattle.dimm_topology.specs.declared.row.Row.TheVariants.{Range}
use Rattle.dimm_topology.specs.declared.topology.TheConstants.{MOST_ROWS}
use Rattle.dimm_topology.specs.Rows.{names_module, is_labelled, overlap}

-- Whether the first address of a range isn't above its last.
abbrev pub is_upright : Row → Bool
is_upright (Range label first last) = nat_le first last
is_upright _ = true

-- No two rows have an address in common.
abbrev pub IsApart : List Row → Type 0
IsApart [] = ⊤
IsApart (row ∷ rows) = IsFalse (list_any (overlap row) rows) × IsApart rows

-- the properties of every topology's rows
pub record IsTopology (rows : List Row) : Type 0 where
  -- no two ranges overlap
  pub apart : IsApart rows
  -- each range begins no later than it ends
  pub upright : IsTrue (list_all is_upright rows)
  -- each range and each place has the label of a module row
  pub named : IsTrue (list_all (names_module rows) rows)
  -- each label of a row is valid or empty
  pub labelled : IsTrue (list_all is_labelled rows)
  pub small : length rows ≤ MOST_ROWS
