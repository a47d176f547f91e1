use Rattle.std.proofs.Common.{arith}
use Rattle.ras_account.specs.Accounts.{IsModuleRow}
use Rattle.ras_account.specs.Rows.{row_of}
use Rattle.journal_format.specs.Checkpoints.{module_bytes}
use Rattle.journal_format.specs.CheckpointReading.{module_at}
use Rattle.journal_format.proofs.DecodingLemmas.{read_is}
use Rattle.journal_format.proofs.RowReadLemmas.{IsToldModule, module_read}
use Rattle.journal_format.proofs.row_reading.module_at.Goals as goal

pub returns-clause-row : goal.returns-clause-row
returns-clause-row c =
    let version = c.args.version in
    read_is (module_at version) (module_bytes version) (IsToldModule version) (λ x. IsModuleRow (row_of x.0)) (module_read version) (λ x. (row_of x.0, x.1.now)) (λ x told. told.is_row)
    c.args.bytes.now c.read_module.result (λ i. omega (arith, c.type_inv.bytes i)) c.read_module.ensures
