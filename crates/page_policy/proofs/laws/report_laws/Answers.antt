use Rattle.std.proofs.Common.{ℕ, List, ◌≡◌, ◌∙◌, sym}
use Rattle.ras_base.specs.Steps.ExactLemmas.{nat_apart}
use Rattle.page_policy.specs.Rows.{PageReport, order_between, row_after, state_called_by}
use Rattle.page_policy.specs.Histories.{order_at, rows_after}
use Rattle.page_policy.specs.declared.rows.PageRow.{PageRow}
use Rattle.page_policy.proofs.PageLemmas.{row_for}
use Rattle.page_policy.proofs.HistoryLemmas.{hard-order, lookup-rows_after, never_falls, order-history, page_rows_of-more, soft-order, state_in-after, state_in-before}
use Rattle.page_policy.proofs.laws.report_laws.Goals as goal

-- The order is the order between the states of the page's row before and after.
order_of_rows : (rows : List (ℕ × PageRow)) (r : PageReport)
    → order_at r.page rows (rows_after rows r)
    ≡ order_between r.page (row_for rows r).state (row_after (row_for rows r) r).state
order_of_rows rows r = λ i. order_between r.page (sym (state_in-before rows r) i) (sym (state_in-after rows r) i)

pub returns-clause-history : goal.returns-clause-history
returns-clause-history c = λ history r. sym (page_rows_of-more history r)

pub returns-clause-order : goal.returns-clause-order
returns-clause-order c = order-history

pub returns-clause-soft : goal.returns-clause-soft
returns-clause-soft c = λ rows r is.
    sym (state_in-before rows r)
    ∙ soft-order r.page (row_for rows r).state (state_called_by (row_for rows r) r) (sym (order_of_rows rows r) ∙ is)

pub returns-clause-hard : goal.returns-clause-hard
returns-clause-hard c = λ rows r is. hard-order r.page (row_for rows r) r (sym (order_of_rows rows r) ∙ is)

pub returns-clause-never_falls : goal.returns-clause-never_falls
returns-clause-never_falls c = never_falls

pub returns-clause-others : goal.returns-clause-others
returns-clause-others c = λ rows r other apart. lookup-rows_after rows r other (nat_apart other r.page apart)
