use Rattle.std.proofs.Common.{[], ◌∷◌, ◌++◌, ◌∙◌, sym, ap}
use Rattle.ras_account.specs.Continued.{account_after}
use Rattle.ras_account.specs.Orders.{orders_at}
use Rattle.ras_account.specs.View.{then_waits, added_by}
use Rattle.ras_account.proofs.NumberLemmas.{added_by-cons}
use Rattle.ras_account.proofs.EntryLemmas.{left_waits}
use Rattle.ras_account.proofs.AccountLemmas.{account_of-entry}
use Rattle.ras_account.proofs.OrderLemmas.{orders_at-account_of}
use Rattle.ras_account.proofs.account.Account.take.Goals as goal

pub returns-clause-in_turn : goal.returns-clause-in_turn
returns-clause-in_turn c = λ entries waits.
    left_waits (added_by c.args.self.now.state (c.args.entry ∷ [])) c.take_any.new.self.waiting (added_by c.take_any.new.self.state entries)
    (sym c.take_any.ensures.waiting ∙ waits ∙ added_by-cons c.args.self.now.state c.args.entry entries
    ∙ ap (λ a. then_waits (added_by c.args.self.now.state (c.args.entry ∷ [])) (added_by a entries)) (sym c.take_any.ensures.state))

pub returns-clause-history : goal.returns-clause-history
returns-clause-history c = λ history is. c.take_any.ensures.state ∙ ap (λ a. account_after a c.args.entry) is ∙ sym (account_of-entry history c.args.entry)

pub returns-clause-history_orders : goal.returns-clause-history_orders
returns-clause-history_orders c = λ history is.
    c.take_any.ensures.gives.orders ∙ ap (λ more. c.args.orders.now.orders ++ more) (ap (λ a. orders_at a c.args.entry) is ∙ orders_at-account_of history c.args.entry)
