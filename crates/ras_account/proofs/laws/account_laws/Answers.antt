use Rattle.std.proofs.Common.{ap, sym, ◌∙◌}
use Rattle.ras_account.specs.History.{empty}
use Rattle.ras_account.specs.Continued.{account_after_history}
use Rattle.ras_account.proofs.FreshLemmas.{is_fresh_in-account_of}
use Rattle.ras_account.proofs.AccountLemmas.{account_of-entry, account_of-mark, account_of-entries, account_of-followed, account_of-stale}
use Rattle.ras_account.proofs.LawLemmas.{names-once, labels-once, pages-once, module-row, refreshed, unmarked-entries, held-names, stale-unordered, history-total}
use Rattle.ras_account.proofs.laws.account_laws.Goals as goal

pub returns-clause-entry : goal.returns-clause-entry
returns-clause-entry c = account_of-entry

pub returns-clause-mark : goal.returns-clause-mark
returns-clause-mark c = account_of-mark

pub returns-clause-entries : goal.returns-clause-entries
returns-clause-entries c = account_of-entries

pub returns-clause-followed : goal.returns-clause-followed
returns-clause-followed c = account_of-followed

pub returns-clause-equal : goal.returns-clause-equal
returns-clause-equal c = λ one other more same. account_of-followed one more ∙ ap (λ a. account_after_history a more) same ∙ sym (account_of-followed other more)

pub returns-clause-freshness : goal.returns-clause-freshness
returns-clause-freshness c = is_fresh_in-account_of

pub returns-clause-stale : goal.returns-clause-stale
returns-clause-stale c = account_of-stale

pub returns-clause-stale_orders : goal.returns-clause-stale_orders
returns-clause-stale_orders c = stale-unordered

pub returns-clause-refreshed : goal.returns-clause-refreshed
returns-clause-refreshed c = refreshed

pub returns-clause-unmarked : goal.returns-clause-unmarked
returns-clause-unmarked c = λ entries. unmarked-entries empty entries tt

pub returns-clause-held : goal.returns-clause-held
returns-clause-held c = held-names

pub returns-clause-names_once : goal.returns-clause-names_once
returns-clause-names_once c = names-once

pub returns-clause-labels_once : goal.returns-clause-labels_once
returns-clause-labels_once c = labels-once

pub returns-clause-pages_once : goal.returns-clause-pages_once
returns-clause-pages_once c = pages-once

pub returns-clause-counts : goal.returns-clause-counts
returns-clause-counts c = module-row

pub returns-clause-total : goal.returns-clause-total
returns-clause-total c = history-total
