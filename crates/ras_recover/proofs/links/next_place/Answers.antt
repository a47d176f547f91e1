use Rattle.std.proofs.Common.{◌∙◌, Bool, Ok, ap}
use Rattle.std.proofs.lemmas.Result.{err_from_is_err_and}
use Rattle.ras_recover.specs.Steps.Reading.{front_at}
use Rattle.ras_recover.proofs.ReadingLemmas.{gate_refused, next_refused}
use Rattle.ras_recover.proofs.links.next_place.Goals as goal

pub returns-in_err-is_open_at-clause-read : goal.returns-in_err-is_open_at-clause-read
returns-in_err-is_open_at-clause-read c =
    let p = err_from_is_err_and c.from_residual.result c.from_residual.ensures.1 in
    rw (p.1, p.2) (gate_refused c.in_err-is_open_at.field-0.0 (front_at c.args.place c.args.account.now.state) c.args.file.now c.in_err-is_open_at.ensures.read)

pub returns-in_err-next-clause-read : goal.returns-in_err-next-clause-read
returns-in_err-next-clause-read c =
    let p = err_from_is_err_and c.from_residual-in_err-next.result c.from_residual-in_err-next.ensures.1 in
    rw (p.1, p.2) (next_refused c.in_err-next.field-0.0 (front_at c.args.place c.args.account.now.state) c.args.file.now (c.in_ok-is_open_at.ensures.read ∙ ap (λ (b : Bool). Ok b) c.if-not-branch.false) c.in_err-next.ensures.read)
