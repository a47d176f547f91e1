use Rattle.std.proofs.Common.{◌≡◌, arith, ◌∙◌, ap, get_or, ℕ}
use Rattle.mca_status.specs.declared.classes.ItemClass.TheVariants.{Ce}
use Rattle.ras_account.specs.Rows.{row_of}
use Rattle.ras_load.specs.Summary.{weight_of_class}
use Rattle.ras_load.proofs.SumLemmas.{sum_fits, sum_more}
use Rattle.ras_load.proofs.summary.corrected_total.Goals as goal

pub overflow_add-total : goal.overflow_add-total
overflow_add-total c =
    let here : get_or c.module.result.now.sums c.from.result 0 ≡ get_or c.module.result.now.sums 0 0 = ap (λ (k : ℕ). get_or c.module.result.now.sums k 0) (c.from.ensures ∙ c.number.ensures) in
    let fits = sum_fits c.args.account.now.state.modules c.loop-i.i (row_of c.module.result.now) c.loop-i.total c.module.ensures c.loop-i.invariant in
    omega (arith, here, c.requires.total, c.requires.within.total, fits)

pub loop-i-preserved : goal.loop-i-preserved
loop-i-preserved c =
    let here : get_or c.module.result.now.sums c.from.result 0 ≡ get_or c.module.result.now.sums 0 0 = ap (λ (k : ℕ). get_or c.module.result.now.sums k 0) (c.from.ensures ∙ c.number.ensures) in
    let more = sum_more (weight_of_class Ce) c.args.account.now.state.modules c.loop-i.i (row_of c.module.result.now) c.module.ensures in
    omega (arith, here, more, c.loop-i.invariant)
