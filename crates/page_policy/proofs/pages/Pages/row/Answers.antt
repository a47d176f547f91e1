use Rattle.std.proofs.Common.{ℕ, ◌∙◌, sym, ap, slice_get}
use Rattle.row_tables.specs.Held.{Held}
use Rattle.row_tables.proofs.HeldLemmas.{slice_get-pair}
use Rattle.page_policy.specs.declared.rows.PageRow.{PageRow}
use Rattle.page_policy.proofs.PageLemmas.{small-at}
use Rattle.page_policy.proofs.pages.Pages.row.Goals as goal

pub returns-clause-row : goal.returns-clause-row
returns-clause-row c =
    ap (λ (v : Held ℕ PageRow). slice_get v.rows c.args.i) (sym c.self.view_is)
    ∙ slice_get-pair c.self.inside.table.rows c.args.i c.key.result.now c.row-row.result.now c.key.ensures c.row-row.ensures

pub returns-clause-count : goal.returns-clause-count
returns-clause-count c = small-at c.self.inside.table.rows c.args.i c.row-row.result.now c.row-row.ensures c.self.invariant
