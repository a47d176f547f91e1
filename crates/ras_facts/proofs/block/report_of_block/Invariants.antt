-- The items and details so far are those of the entries so far.
use Rattle.std.proofs.Common.{◌≡◌, map, take}
use Rattle.ras_facts.specs.Reported.{entry_item}
use Rattle.ras_facts.proofs.ItemLemmas.{AreItems}
use Rattle.ras_facts.specs.Reports.{entry_detail}
use Rattle.ras_facts.proofs.block.report_of_block.Given as goal

abbrev pub invariant-loop-i : goal.invariant-loop-i
invariant-loop-i l =
    AreItems l.items (map (entry_item l.fn.topology) (take l.i l.fn.block.entries))
    × (l.details ≡ map entry_detail (take l.i l.fn.block.entries))
