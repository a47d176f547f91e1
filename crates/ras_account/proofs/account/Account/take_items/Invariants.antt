use Rattle.std.proofs.Common.{drop}
use Rattle.ras_account.specs.Steps.Taking.{IsAmid}
use Rattle.ras_account.proofs.account.Account.take_items.Given as goal

-- Counting the items left gives the account and the orders that counting all of them gives.
abbrev pub invariant-loop-item : goal.invariant-loop-item
invariant-loop-item l = IsAmid l.initial.self l.self l.initial.orders l.orders l.seconds l.items (drop l.item-index l.items)
