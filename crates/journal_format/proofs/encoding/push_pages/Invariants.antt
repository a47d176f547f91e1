use Rattle.std.proofs.Common.{◌≡◌, ◌++◌, length, take}
use Rattle.std.specs.List.{flat_map}
use Rattle.ras_base.specs.LittleEndian.{u64_bytes}
use Rattle.journal_format.specs.Checkpoints.{page_row_bytes}
use Rattle.journal_format.proofs.encoding.push_pages.Given as goal

abbrev pub invariant-loop-i : goal.invariant-loop-i
invariant-loop-i l =
    l.bytes.items ≡ l.fn.bytes.items ++ u64_bytes (length l.fn.account.state.pages) ++ flat_map page_row_bytes (take l.i l.fn.account.state.pages)
