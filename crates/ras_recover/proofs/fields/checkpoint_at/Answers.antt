use Rattle.std.proofs.Common.{refl, arith}
use Rattle.journal_format.specs.CheckpointReading.{checkpoint_of}
use Rattle.ras_recover.proofs.ReadingLemmas.{field_none, checkpoint_field, checkpoint_bad}
use Rattle.ras_recover.proofs.fields.checkpoint_at.Goals as goal

pub returns-in_default-clause-read : goal.returns-in_default-clause-read
returns-in_default-clause-read c = field_none (checkpoint_of c.args.version) 25 c.args.count c.args.file.now (c.in_default.ensures.none refl)

pub returns-in-Some-2-clause-read : goal.returns-in-Some-2-clause-read
returns-in-Some-2-clause-read c =
    let told = rw c.in-Some-2.is at c.in_ok-account.ensures in
    checkpoint_field c.args.version c.args.count c.args.file.now c.in-Some.bytes.now c.in-Some-2.account.state c.in-Some.ensures.some told

pub returns-in-Ok-clause-read : goal.returns-in-Ok-clause-read
returns-in-Ok-clause-read c = checkpoint_field c.args.version c.args.count c.args.file.now c.in-Some.bytes.now c.in-Ok.account.state c.in-Some.ensures.some c.in-Ok.ensures.found

pub returns-in-Err-Bad-clause-read : goal.returns-in-Err-Bad-clause-read
returns-in-Err-Bad-clause-read c =
    let told = rw c.in-Err-Bad.field-0-is at c.in-Err-Bad.ensures in
    checkpoint_bad c.args.version c.args.count c.args.file.now c.in-Some.bytes.now (λ i. omega (arith, c.type_inv.file i)) c.in-Some.ensures.within c.in-Some.ensures.some (told.bad refl)
