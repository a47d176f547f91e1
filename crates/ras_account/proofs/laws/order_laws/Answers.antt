use Rattle.std.proofs.Common.{sym, subst}
use Rattle.page_policy.specs.Histories.{AreOnceInOrder}
use Rattle.page_policy.proofs.OrderLemmas.{once_in_order}
use Rattle.ras_account.specs.Sightings.{sightings, reports_of}
use Rattle.ras_account.proofs.OrderLemmas.{orders_at-account_of}
use Rattle.ras_account.proofs.PageOrderLemmas.{page-orders}
use Rattle.ras_account.proofs.ModuleOrderLemmas.{module-orders, module-orders_at}
use Rattle.ras_account.proofs.laws.order_laws.Goals as goal

pub returns-clause-ordered : goal.returns-clause-ordered
returns-clause-ordered c = λ history entry. sym (orders_at-account_of history entry)

pub returns-clause-page : goal.returns-clause-page
returns-clause-page c = λ history page. page-orders page history

pub returns-clause-page_once : goal.returns-clause-page_once
returns-clause-page_once c = λ history page. subst (AreOnceInOrder page) (sym (page-orders page history)) (once_in_order (reports_of (sightings history)) page)

pub returns-clause-module : goal.returns-clause-module
returns-clause-module c = module-orders

pub returns-clause-module_at : goal.returns-clause-module_at
returns-clause-module_at c = module-orders_at
