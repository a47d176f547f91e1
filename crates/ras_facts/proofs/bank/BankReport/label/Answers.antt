use Rattle.std.proofs.Common.{◌≡◌, [], ◌∙◌, ap, unwrap_or}
use Rattle.mca_codes.specs.Codes.{code_of_rows}
use Rattle.mca_status.specs.Registers.{error_code}
use Rattle.dimm_topology.specs.Owners.{owner_by_rows, bank_location}
use Rattle.ras_facts.specs.Facts.{status_in}
use Rattle.ras_facts.proofs.ItemLemmas.{ok_is}
use Rattle.ras_facts.proofs.bank.BankReport.label.Goals as goal

pub returns-in-Some-clause-label : goal.returns-in-Some-clause-label
returns-in-Some-clause-label c =
    let code : c.code_of-code.result ≡ code_of_rows (error_code (status_in c.args.self.now)) = c.code_of-code.ensures.rows ∙ ap code_of_rows c.error_code.ensures.code in
    ok_is c.copy.result _ _ c.copy.ensures
    (ap (λ owner. unwrap_or owner [])
    (c.in-Some.ensures.owner ∙ (λ i. owner_by_rows c.args.topology.now (c.usable_address-address.ensures.address i)
    (bank_location c.args.topology.now c.args.self.now.cpu c.args.self.now.bank (code i)))))
