-- Counting the entries left gives the account and the orders that counting all of them gives.
use Rattle.std.specs.Vec.Iter.{into_iter_items, into_iter_len}
use Rattle.ras_events.specs.Steps.Beside.{IsTaking}
use Rattle.ras_events.proofs.preparing.take_all.Given as goal

abbrev pub invariant-loop-entry : goal.invariant-loop-entry
invariant-loop-entry l =
    IsTaking l.fn.account l.account l.fn.orders l.orders l.fn.entries.items (into_iter_items l.entry-iterator) (into_iter_len l.entry-iterator)
