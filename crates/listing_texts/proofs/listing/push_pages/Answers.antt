use Rattle.std.proofs.Common.{◌∙◌, ◌++◌, ap, List, ℕ}
use Rattle.page_policy.specs.Pages.{page_entry}
use Rattle.listing_texts.specs.Listing.{page_row_line}
use Rattle.ras_texts.proofs.TextLemmas.{line_more}
use Rattle.listing_texts.proofs.listing.push_pages.Goals as goal

pub loop-i-preserved : goal.loop-i-preserved
loop-i-preserved c =
    let row = page_entry c.row-page.result.0 c.row-page.result.1 c.row-page.result.2 in
    c.in_ok-push_page_row.ensures
    ∙ ap (λ (t : List ℕ). t ++ page_row_line row) c.loop-i.invariant
    ∙ line_more page_row_line c.args.text.now.items c.args.account.now.state.pages c.loop-i.i row (rw (← c.pages-pages.ensures) c.row-page.ensures.row)
