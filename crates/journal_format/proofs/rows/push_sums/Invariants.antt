use Rattle.std.proofs.Common.{◌≡◌, ◌++◌, take}
use Rattle.std.specs.List.{flat_map}
use Rattle.ras_base.specs.LittleEndian.{u64_bytes}
use Rattle.journal_format.proofs.rows.push_sums.Given as goal

abbrev pub invariant-loop-weight : goal.invariant-loop-weight
invariant-loop-weight l = l.bytes.items ≡ l.fn.bytes.items ++ flat_map u64_bytes (take l.weight-index l.sums)
