use Rattle.std.proofs.lemmas.Result.{err_from_is_err_and}
use Rattle.ras_recover.proofs.ReadingLemmas.{account_refused, generation_refused, size_refused, version_refused}
use Rattle.ras_recover.proofs.file.first_place.Goals as goal

pub returns-in_err-version-clause-read : goal.returns-in_err-version-clause-read
returns-in_err-version-clause-read c =
    let p = err_from_is_err_and c.from_residual.result c.from_residual.ensures.1 in
    rw (p.1, p.2) (version_refused c.in_err-version.field-0.0 c.args.taken c.args.file.now c.in_err-version.ensures)

pub returns-in_err-generation-clause-read : goal.returns-in_err-generation-clause-read
returns-in_err-generation-clause-read c =
    let p = err_from_is_err_and c.from_residual-in_err-generation.result c.from_residual-in_err-generation.ensures.1 in
    rw (p.1, p.2) (generation_refused c.in_err-generation.field-0.0 c.args.taken c.args.file.now c.in_ok-version.version c.in_ok-version.ensures c.in_err-generation.ensures)

pub returns-in_err-count-clause-read : goal.returns-in_err-count-clause-read
returns-in_err-count-clause-read c =
    let p = err_from_is_err_and c.from_residual-in_err-count.result c.from_residual-in_err-count.ensures.1 in
    rw (p.1, p.2) (size_refused c.in_err-count.field-0.0 c.args.taken c.args.file.now c.in_ok-version.version c.in_ok-generation.generation c.in_ok-version.ensures c.in_ok-generation.ensures c.in_err-count.ensures)

pub returns-in_err-account-clause-read : goal.returns-in_err-account-clause-read
returns-in_err-account-clause-read c =
    let p = err_from_is_err_and c.from_residual-in_err-account.result c.from_residual-in_err-account.ensures.1 in
    rw (p.1, p.2) (account_refused c.in_err-account.field-0.0 c.args.taken c.args.file.now c.in_ok-version.version c.in_ok-generation.generation c.in_ok-count.count c.in_ok-version.ensures c.in_ok-generation.ensures c.in_ok-count.ensures c.in_err-account.ensures.read)
