use Rattle.std.proofs.Common.{sym, ◌∙◌}
use Rattle.ras_account.specs.View.{added_by}
use Rattle.ras_account.specs.Continued.{account_after}
use Rattle.ras_account.specs.Numbers.{numbers_of, numbers_with}
use Rattle.ras_account.proofs.NumberLemmas.{added_by-cons, past-within, stays-within, front-within, within-cons}
use Rattle.ras_account.proofs.laws.reserve_laws.Goals as goal

pub returns-clause-in_turn : goal.returns-clause-in_turn
returns-clause-in_turn c = added_by-cons

pub returns-clause-first : goal.returns-clause-first
returns-clause-first c = λ account entry entries waits. (added_by (account_after account.state entry) entries, sym (waits ∙ added_by-cons account.state entry entries))

pub returns-clause-past : goal.returns-clause-past
returns-clause-past c = λ a entries. past-within (numbers_with a entries)

pub returns-clause-now_past : goal.returns-clause-now_past
returns-clause-now_past c = λ a. past-within (numbers_of a)

pub returns-clause-stays : goal.returns-clause-stays
returns-clause-stays c = stays-within

pub returns-clause-front : goal.returns-clause-front
returns-clause-front c = front-within

pub returns-clause-others : goal.returns-clause-others
returns-clause-others c = within-cons
