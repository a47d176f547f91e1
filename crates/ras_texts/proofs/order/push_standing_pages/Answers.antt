use Rattle.std.proofs.Common.{◌∙◌, ◌++◌, ap, List, ℕ}
use Rattle.ras_texts.specs.Orders.{state_line, page_line}
use Rattle.ras_texts.proofs.TextLemmas.{line_more}
use Rattle.ras_texts.proofs.order.push_standing_pages.Goals as goal

pub loop-i-preserved : goal.loop-i-preserved
loop-i-preserved c =
    c.push_state.ensures.line
    ∙ ap (λ (t : List ℕ). t ++ state_line c.row-page.result.0 c.row-page.result.2) (c.in_ok-reserve.ensures.items ∙ c.loop-i.invariant)
    ∙ line_more page_line c.args.text.now.items c.args.account.now.state.pages c.loop-i.i (c.row-page.result.0, record { bucket = c.row-page.result.1; state = c.row-page.result.2 })
    (rw (← c.pages-pages.ensures) c.row-page.ensures.row)
