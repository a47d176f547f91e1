-- The entries so far were appended.
use Rattle.std.proofs.Common.{◌≡◌, ◌++◌, take}
use Rattle.std.specs.List.{flat_map}
use Rattle.block_lines.specs.Blocks.{error_entry_bytes}
use Rattle.block_lines.proofs.blocks.push_entries.Given as goal

abbrev pub invariant-loop-error : goal.invariant-loop-error
invariant-loop-error l = l.bytes.items ≡ l.fn.bytes.items ++ flat_map error_entry_bytes (take l.error-index l.errors)
