use Rattle.std.proofs.Common.{◌∙◌, ◌++◌, ap, List, ℕ, arith}
use Rattle.ras_account.specs.Rows.{row_of}
use Rattle.listing_texts.specs.Metrics.{replace_samples}
use Rattle.listing_texts.proofs.MetricsLemmas.{replace_lines, all_rows}
use Rattle.ras_texts.proofs.TextLemmas.{line_more}
use Rattle.listing_texts.proofs.metrics.push_replaces.Goals as goal

pub loop-i-preserved : goal.loop-i-preserved
loop-i-preserved c =
    let row = row_of c.module.result.now in
    c.in_ok-push_replace.ensures
    ∙ ap (λ (t : List ℕ). t ++ replace_lines row) c.loop-i.invariant
    ∙ line_more replace_lines c.args.text.now.items c.args.account.now.state.modules c.loop-i.i row c.module.ensures

pub returns : goal.returns
returns c =
    c.loop-i.invariant
    ∙ all_rows replace_samples c.args.text.now.items c.args.account.now.state.modules c.loop-i.i (omega (arith, c.loop-i-test.false, c.modules_len-i-end.ensures))
