use Rattle.std.proofs.Common.{◌≡◌, ◌++◌, take}
use Rattle.std.specs.List.{flat_map}
use Rattle.entry_format.specs.Spelling.{item_bytes}
use Rattle.entry_format.proofs.writing.push_items.Given as goal

abbrev pub invariant-loop-item : goal.invariant-loop-item
invariant-loop-item l = l.bytes.items ≡ l.fn.bytes.items ++ flat_map item_bytes (take l.item-index l.items)
