use Rattle.std.proofs.Common.{◌∙◌, ◌++◌, ap, List, ℕ}
use Rattle.ras_account.specs.Rows.{row_of}
use Rattle.listing_texts.specs.Listing.{counts_line}
use Rattle.ras_texts.proofs.TextLemmas.{line_more}
use Rattle.listing_texts.proofs.listing.push_all_counts.Goals as goal

pub loop-i-preserved : goal.loop-i-preserved
loop-i-preserved c =
    let row = row_of c.module.result.now in
    c.in_ok-push_counts.ensures
    ∙ ap (λ (t : List ℕ). t ++ counts_line row) c.loop-i.invariant
    ∙ line_more counts_line c.args.text.now.items c.args.account.now.state.modules c.loop-i.i row c.module.ensures
