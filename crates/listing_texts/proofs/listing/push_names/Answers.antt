use Rattle.std.proofs.Common.{◌∙◌, ◌++◌, ap, List, ℕ}
use Rattle.listing_texts.specs.Listing.{listed_name}
use Rattle.ras_texts.proofs.TextLemmas.{line_more}
use Rattle.listing_texts.proofs.listing.push_names.Goals as goal

pub loop-i-preserved : goal.loop-i-preserved
loop-i-preserved c =
    let row = c.name.result.now in
    c.in_ok-push_name_line.ensures
    ∙ ap (λ (t : List ℕ). t ++ listed_name row) c.loop-i.invariant
    ∙ line_more listed_name c.args.text.now.items c.args.account.now.state.names c.loop-i.i row c.name.ensures
