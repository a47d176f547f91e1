use Rattle.std.proofs.Common.{refl}
use Rattle.journal_format.proofs.DecodingLemmas.{name_repeated, names_full}
use Rattle.journal_format.proofs.decoding.put_name.Goals as goal

pub returns-in-Err-Repeated-clause-bad : goal.returns-in-Err-Repeated-clause-bad
returns-in-Err-Repeated-clause-bad c _ later are =
    let told = rw c.in-Err-Repeated.field-0-is at c.in-Err-Repeated.ensures in
    name_repeated c.args.account.now.names c.args.name later (told.repeated.0 refl) are

pub returns-in-Err-Full-clause-bad : goal.returns-in-Err-Full-clause-bad
returns-in-Err-Full-clause-bad c _ later are =
    let told = rw c.in-Err-Full.field-0-is at c.in-Err-Full.ensures in
    names_full c.args.account.now.names c.args.name later (told.full refl) are
