use Rattle.std.proofs.Common.{◌∙◌, refl, sym, arith}
use Rattle.entry_format.proofs.CodecLemmas.{ok_is}
use Rattle.journal_format.proofs.CheckpointLemmas.{checkpoint_found, checkpoint_is_read}
use Rattle.journal_format.proofs.decoding.read_checkpoint.Goals as goal

pub returns-in-Ok-clause-found : goal.returns-in-Ok-clause-found
returns-in-Ok-clause-found c =
    checkpoint_found c.args.version c.in-Ok.account.state c.args.bytes.now (λ i. omega (arith, c.type_inv.bytes i)) c.in-Ok.ensures.found

pub returns-in-Ok-clause-account : goal.returns-in-Ok-clause-account
returns-in-Ok-clause-account c a is enough =
    ok_is c.in-Ok.account.state a (sym c.in-Ok.ensures.found ∙ checkpoint_is_read c.args.version a c.args.bytes.now is)

pub returns-in-Err-Bad-clause-bad : goal.returns-in-Err-Bad-clause-bad
returns-in-Err-Bad-clause-bad c _ a is =
    let told = rw c.in-Err-Bad.field-0-is at c.in-Err-Bad.ensures in
    told.bad refl a (checkpoint_is_read c.args.version a c.args.bytes.now is)

pub returns-in-Err-Bad-clause-account : goal.returns-in-Err-Bad-clause-account
returns-in-Err-Bad-clause-account c a is enough =
    let told = rw c.in-Err-Bad.field-0-is at c.in-Err-Bad.ensures in
    told.bad refl a (checkpoint_is_read c.args.version a c.args.bytes.now is)
