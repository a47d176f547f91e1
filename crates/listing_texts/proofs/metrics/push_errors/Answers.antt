use Rattle.std.proofs.Common.{◌∙◌, ◌++◌, ap, List, ℕ, arith}
use Rattle.ras_account.specs.Rows.{row_of}
use Rattle.listing_texts.specs.Metrics.{error_samples}
use Rattle.listing_texts.proofs.MetricsLemmas.{all_rows, class_lines, error_lines}
use Rattle.ras_texts.proofs.TextLemmas.{line_more}
use Rattle.listing_texts.proofs.metrics.push_errors.Goals as goal

pub loop-i-preserved : goal.loop-i-preserved
loop-i-preserved c =
    let row = row_of c.module-row.result.now in
    c.in_ok-push_class_errors.ensures
    ∙ ap (λ (t : List ℕ). c.loop-i.text.items ++ t) (class_lines row)
    ∙ ap (λ (t : List ℕ). t ++ error_lines row) c.loop-i.invariant
    ∙ line_more error_lines c.args.text.now.items c.args.account.now.state.modules c.loop-i.i row c.module-row.ensures

pub returns : goal.returns
returns c =
    c.loop-i.invariant
    ∙ all_rows error_samples c.args.text.now.items c.args.account.now.state.modules c.loop-i.i (omega (arith, c.loop-i-test.false, c.modules_len-i-end.ensures))
