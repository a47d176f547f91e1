use Rattle.std.proofs.Common.{◌≡◌, ◌≤◌, take, vec_capacity}
use Rattle.std.specs.List.{flat_map}
use Rattle.std.specs.Map.{keys_of}
use Rattle.entry_format.specs.Spelling.{name_bytes}
use Rattle.ras_account.proofs.spelled.Spelled.spell.Given as goal

abbrev pub invariant-loop-place : goal.invariant-loop-place
invariant-loop-place l = record {
  spelled : l.self.bytes.items ≡ flat_map name_bytes (take l.place (keys_of l.table.rows));
  kept : vec_capacity l.fn.self.bytes ≤ vec_capacity l.self.bytes;
}
