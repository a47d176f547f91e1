use Rattle.std.proofs.Common.{◌≡◌, ◌≤◌, ◌*◌, length, take}
use Rattle.std.specs.List.{flat_map}
use Rattle.entry_format.specs.Spelling.{item_bytes}
use Rattle.entry_format.proofs.sizes.items_len.Given as goal

abbrev pub invariant-loop-item : goal.invariant-loop-item
invariant-loop-item l = (l.total ≡ length (flat_map item_bytes (take l.item-index l.items))) × (l.total ≤ 45 * l.item-index)
