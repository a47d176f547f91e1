use Rattle.std.proofs.Common.{◌≡◌, ◌∙◌, Ok, ap, sym}
use Rattle.std.proofs.lemmas.Result.{err_from_is_err_and}
use Rattle.ras_account.specs.Account.{State}
use Rattle.entry_format.specs.declared.refused.EntryRefused.TheVariants.{Bad}
use Rattle.journal_format.specs.CheckpointReading.{CheckpointFront}
use Rattle.journal_format.proofs.CheckpointLemmas.{holds_make, holds_of, unread_front}
use Rattle.journal_format.proofs.decoding.account_at.Goals as goal

pub returns-in_err-front-clause-bad : goal.returns-in_err-front-clause-bad
returns-in_err-front-clause-bad c e a all =
    let p = err_from_is_err_and c.from_residual.result c.from_residual.ensures.1 in
    let result_is = p.1 in
    let refused_is = p.2 in
    let is : c.in_err-front.field-0.0 ≡ Bad = cc in
    unread_front c.args.version c.args.bytes.now c.in_err-front.field-0.0 a c.in_err-front.ensures.read is all

pub returns-in-Ok-clause-found : goal.returns-in-Ok-clause-found
returns-in-Ok-clause-found c =
    let front = c.in_ok-front.front in
    let f : CheckpointFront = (front.limit, (front.module_limit, (front.entries, front.floor))) in
    holds_make c.args.version c.args.bytes.now f c.in_ok-front.rest.now c.in-Ok.account c.in_ok-front.ensures.read c.in-Ok.ensures.holds c.in-Ok.ensures.state c.into_account.ensures.account
    ∙ ap (λ (a : State). Ok a) (sym c.into_account.ensures.state)

pub returns-in-Err-clause-bad : goal.returns-in-Err-clause-bad
returns-in-Err-clause-bad c e a all =
    let front = c.in_ok-front.front in
    let f : CheckpointFront = (front.limit, (front.module_limit, (front.entries, front.floor))) in
    let is : c.in-Err.refused ≡ Bad = cc in
    let held = holds_of c.args.version c.args.bytes.now f c.in_ok-front.rest.now a c.in_ok-front.ensures.read all in
    c.in-Err.ensures.bad (cc) a held.0 held.1
