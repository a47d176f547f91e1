use Rattle.std.proofs.Common.{◌<◌, ◌+◌, ◌^◌, List, Option, sym, ap, subst, ◌∙◌, arith}
use Rattle.std.specs.List.{AllByRecursion}
use Rattle.cper_pcie.specs.Along.{totals_with}
use Rattle.cper_pcie.specs.Steps.Filtering.{IsFew}
use Rattle.cper_pcie.specs.Totals.{Totals}
use Rattle.cper_pcie.specs.declared.counts.ErrorCounts.{ErrorCounts}
use Rattle.cper_pcie.specs.declared.section.PcieDevice.{PcieDevice}
use Rattle.cper_pcie.proofs.TotalLemmas.{rows-summed, rows-few}
use Rattle.cper_pcie.proofs.totals.Totals.add.Goals as goal

pub invariant_of-self-2 : goal.invariant_of-self-2
invariant_of-self-2 c =
    let n = c.self.inside.sections in
    let small : n < 2 ^ 58 = omega (arith, ap (λ (t : Totals). t.sections) c.self.view_is, c.requires) in
    subst (λ (rows : List (Option PcieDevice × ErrorCounts)). AllByRecursion (IsFew (n + 1)) rows)
    (sym (c.in_ok-add.ensures.ok ∙ rows-summed n c.self.inside.counts c.args.section.now c.self.invariant small))
    (rows-few n c.self.inside.counts c.args.section.now c.self.invariant)

pub returns : goal.returns
returns c =
    let n = c.self.inside.sections in
    let small : n < 2 ^ 58 = omega (arith, ap (λ (t : Totals). t.sections) c.self.view_is, c.requires) in
    ap (λ (rows : List (Option PcieDevice × ErrorCounts)). record { rows = rows; sections = n + 1 })
    (c.in_ok-add.ensures.ok ∙ rows-summed n c.self.inside.counts c.args.section.now c.self.invariant small)
    ∙ ap (λ (t : Totals). totals_with t c.args.section.now) c.self.view_is
