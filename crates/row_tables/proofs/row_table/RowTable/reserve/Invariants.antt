use Rattle.std.proofs.Common.{◌≡◌, take}
use Rattle.std.specs.Map.{keys_of}
use Rattle.row_tables.specs.Tables.{added_keys}
use Rattle.row_tables.proofs.row_table.RowTable.reserve.Given as goal

-- The rows are unchanged, and the keys so far are reserved.
abbrev pub invariant-loop-key : goal.invariant-loop-key
invariant-loop-key g l = record {
  rows : l.self.rows ≡ l.initial.self.rows;
  waiting : l.self.waiting ≡ added_keys g.K.PartialEq.eq (keys_of l.initial.self.rows) (take l.key-index l.keys);
}
