use Rattle.page_policy.proofs.HistoryLemmas.{page_rows_of-named, page_rows_of-once, ready}
use Rattle.page_policy.proofs.OrderLemmas.{once_in_order, order-at_capacity, empties, state-under}
use Rattle.page_policy.proofs.laws.page_laws.Goals as goal

pub returns-clause-named : goal.returns-clause-named
returns-clause-named c = page_rows_of-named

pub returns-clause-once : goal.returns-clause-once
returns-clause-once c = page_rows_of-once

pub returns-clause-orders : goal.returns-clause-orders
returns-clause-orders c = once_in_order

pub returns-clause-stands : goal.returns-clause-stands
returns-clause-stands c = state-under

pub returns-clause-capacity : goal.returns-clause-capacity
returns-clause-capacity c = order-at_capacity

pub returns-clause-ready : goal.returns-clause-ready
returns-clause-ready c = ready

pub returns-clause-empties : goal.returns-clause-empties
returns-clause-empties c = empties
