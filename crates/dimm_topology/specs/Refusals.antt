-- Which rows a topology accepts.
use Rattle.std.specs.Prelude.{ℕ, ◌≡◌, ◌≤◌, nat_le, not, IsTrue, Option, Some, None, Result, Ok, Err, List, length, if◌then◌else◌}
use Rattle.std.specs.List.{list_any}
use Rattle.dimm_topology.specs.declared.row.Row.{Row}
use Rattle.dimm_topology.specs.declared.topology.TheConstants.{MOST_ROWS}
use Rattle.dimm_topology.specs.declared.topology.TopologyRefused.{TopologyRefused}
use Rattle.dimm_topology.specs.declared.topology.TopologyRefused.TheVariants.{Label, Overlap, Full, NoMemory}
use Rattle.dimm_topology.specs.Rows.{names_module, is_range_over, overlap}

-- The first reason why a topology of these rows rejects another row, if it does.
abbrev pub row_refusal : List Row → Row → Option TopologyRefused
row_refusal rows row =
    if not (names_module rows row) then Some Label
    else (if list_any (overlap row) rows then Some Overlap
    else (if nat_le MOST_ROWS (length rows) then Some Full else None))

-- The number of a refusal. Running out of memory has no number.
abbrev pub topology_number : TopologyRefused → Option ℕ
topology_number Label = Some 1
topology_number Overlap = Some 2
topology_number Full = Some 3
topology_number NoMemory = None

-- A call returns the refusal, if any; otherwise it adds the row or runs out of memory.
abbrev pub AnswersRow : Result (Unit {0}) TopologyRefused → Option TopologyRefused → Type 0
AnswersRow (Ok done) refusal = refusal ≡ None
AnswersRow (Err NoMemory) refusal = refusal ≡ None
AnswersRow (Err refused) refusal = refusal ≡ Some refused

-- Some address is in a range of the rows and also from `first` to `last`.
abbrev pub SharesAddress : List Row → ℕ → ℕ → Type 0
SharesAddress rows first last =
    (address : ℕ) × (first ≤ address) × (address ≤ last) × IsTrue (list_any (is_range_over address) rows)
