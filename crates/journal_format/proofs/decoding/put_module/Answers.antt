use Rattle.std.proofs.Common.{refl}
use Rattle.ras_account.specs.Rows.{row_of}
use Rattle.journal_format.proofs.DecodingLemmas.{module_repeated, modules_full}
use Rattle.journal_format.proofs.decoding.put_module.Goals as goal

pub returns-in-Err-Repeated-clause-bad : goal.returns-in-Err-Repeated-clause-bad
returns-in-Err-Repeated-clause-bad c _ later are =
    let told = rw c.in-Err-Repeated.field-0-is at c.in-Err-Repeated.ensures in
    module_repeated c.args.account.now.modules (row_of c.args.row) later (told.repeated.0 refl) are

pub returns-in-Err-Full-clause-bad : goal.returns-in-Err-Full-clause-bad
returns-in-Err-Full-clause-bad c _ later are =
    let told = rw c.in-Err-Full.field-0-is at c.in-Err-Full.ensures in
    modules_full c.args.account.now.modules (row_of c.args.row) later (told.full refl) are
