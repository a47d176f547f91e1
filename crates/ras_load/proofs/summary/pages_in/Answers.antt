use Rattle.std.proofs.Common.{◌∙◌, sym}
use Rattle.page_policy.specs.Pages.{page_entry}
use Rattle.ras_load.specs.Summary.{is_in}
use Rattle.ras_load.proofs.SumLemmas.{counted, uncounted}
use Rattle.ras_load.proofs.summary.pages_in.Goals as goal
use Rattle.ras_load.proofs.summary.pages_in.Goals.{then-is_in, else-is_in}

pub loop-i-preserved : goal.loop-i-preserved
loop-i-preserved c =
    let row = page_entry c.row-of_page.result.0 c.row-of_page.result.1 c.row-of_page.result.2 in
    elim c.if-is_in.branch [
      | then-is_in w ↦ counted (is_in c.args.state) c.args.pages.now.rows c.loop-i.i row c.loop-i.count c.if-is_in.count c.row-of_page.ensures.row (sym c.is_in.ensures ∙ w.if-is_in.true) c.loop-i.invariant w.count-is
      | else-is_in w ↦ uncounted (is_in c.args.state) c.args.pages.now.rows c.loop-i.i row c.loop-i.count c.if-is_in.count c.row-of_page.ensures.row (sym c.is_in.ensures ∙ w.if-is_in.false) c.loop-i.invariant w.count-is
    ]
