use Rattle.std.proofs.Common.{◌≡◌, ◌≤◌, ◌*◌, ◌^◌, length, take}
use Rattle.std.specs.List.{flat_map}
use Rattle.entry_format.specs.Spelling.{entry_bytes}
use Rattle.journal_format.proofs.links.entries_len.Given as goal

abbrev pub invariant-loop-entry : goal.invariant-loop-entry
invariant-loop-entry l = (l.total ≡ length (flat_map entry_bytes (take l.entry-index l.entries))) × (l.total ≤ 2 ^ 22 * l.entry-index)
