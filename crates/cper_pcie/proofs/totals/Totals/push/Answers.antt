use Rattle.std.proofs.Common.{◌∙◌, ◌++◌, ap, sym, List, ℕ, Option}
use Rattle.std.specs.Prelude.{slice_get}
use Rattle.ras_texts.proofs.TextLemmas.{line_more}
use Rattle.cper_pcie.specs.Texts.{device_line}
use Rattle.cper_pcie.specs.Totals.{Totals}
use Rattle.cper_pcie.specs.declared.counts.ErrorCounts.{ErrorCounts}
use Rattle.cper_pcie.specs.declared.section.PcieDevice.{PcieDevice}
use Rattle.cper_pcie.proofs.totals.Totals.push.Goals as goal

pub loop-i-preserved : goal.loop-i-preserved
loop-i-preserved c =
    let row : Option PcieDevice × ErrorCounts = (c.row-device.result.0, record { uncor = c.row-device.result.1; cor = c.row-device.result.2 }) in
    c.in_ok-push_device.ensures
    ∙ ap (λ (t : List ℕ). t ++ device_line row) c.loop-i.invariant
    ∙ line_more device_line c.args.text.now.items c.args.self.now.rows c.loop-i.i row
    (ap (λ (t : Totals). slice_get t.rows c.loop-i.i) (sym c.self.view_is) ∙ c.row-device.ensures)
