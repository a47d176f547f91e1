use Rattle.std.proofs.Common.{◌≡◌, sym, ap, ◌∙◌, unwrap_or, Option}
use Rattle.std.specs.Map.{lookup}
use Rattle.row_tables.specs.Held.{Held}
use Rattle.cper_pcie.specs.declared.section.PcieDevice.{PcieDevice}
use Rattle.cper_pcie.specs.declared.counts.ErrorCounts.{ErrorCounts}
use Rattle.cper_pcie.specs.Devices.{same_device}
use Rattle.cper_pcie.specs.Counts.{pcie_counts_with, errors_with}
use Rattle.cper_pcie.proofs.CountLemmas.{none, row_put, counts_of-more}
use Rattle.cper_pcie.proofs.counts.PcieCounts.add.Goals as goal

pub returns-clause-ok : goal.returns-clause-ok
returns-clause-ok c =
    ap (λ (v : Held (Option PcieDevice) ErrorCounts). v.rows) (c.put.ensures c.args.section.now.device c.find-place.ensures.place)
    ∙ row_put c.let_wait.new.self.rows c.args.section.now c.with.result (c.with.ensures ∙ ap (λ errors. errors_with errors c.args.section.now) before)
    ∙ ap (λ rows. pcie_counts_with rows c.args.section.now) (c.let_wait.ensures.rows ∙ c.self.view_is)
  where
    before : c.unwrap_or-before.result ≡ unwrap_or (lookup (same_device c.args.section.now.device) c.let_wait.new.self.rows) none
    before = c.unwrap_or-before.ensures ∙ ap (λ o. unwrap_or o none) c.find-place.ensures.row

pub returns-clause-counts : goal.returns-clause-counts
returns-clause-counts c = λ sections is.
    returns-clause-ok c ∙ ap (λ rows. pcie_counts_with rows c.args.section.now) is ∙ sym (counts_of-more sections c.args.section.now)
