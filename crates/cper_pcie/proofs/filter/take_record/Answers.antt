use Rattle.std.proofs.Common.{◌≤◌, length, arith}
use Rattle.cper_pcie.specs.Reports.{record_sections}
use Rattle.cper_pcie.proofs.LineLemmas.{few-on-ok}
use Rattle.cper_pcie.proofs.ReportLemmas.{record-count}
use Rattle.cper_pcie.proofs.filter.take_record.Goals as goal

pub take-requires : goal.take-requires
take-requires c =
    let few : length (record_sections c.in-Ok.rec) ≤ 65535 = omega (arith, record-count c.in-Ok.rec, c.count-count.ensures, c.count-count.type_inv) in
    omega (arith, c.requires.few)

pub returns-in-Ok-clause-few : goal.returns-in-Ok-clause-few
returns-in-Ok-clause-few c =
    let few : length (record_sections c.in-Ok.rec) ≤ 65535 = omega (arith, record-count c.in-Ok.rec, c.count-count.ensures, c.count-count.type_inv) in
    few-on-ok c.take.result c.take.new.self.totals.sections c.args.counted.now.totals.sections (length (record_sections c.in-Ok.rec)) c.take.ensures.few (omega arith)
