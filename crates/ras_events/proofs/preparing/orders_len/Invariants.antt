use Rattle.std.proofs.Common.{◌≡◌, ◌≤◌, ◌*◌, take}
use Rattle.std.specs.List.{sum_by}
use Rattle.ras_facts.specs.Entries.{most_orders}
use Rattle.ras_facts.specs.declared.items.TheConstants.{MOST_ITEMS}
use Rattle.ras_events.proofs.preparing.orders_len.Given as goal

abbrev pub invariant-loop-entry : goal.invariant-loop-entry
invariant-loop-entry l = (l.total ≡ sum_by most_orders (take l.entry-index l.entries)) × (l.total ≤ 2 * MOST_ITEMS * l.entry-index)
