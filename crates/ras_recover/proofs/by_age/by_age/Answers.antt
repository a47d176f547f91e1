use Rattle.std.proofs.lemmas.Result.{err_from_is_err_and}
use Rattle.board_core.specs.Doing.{went_well}
use Rattle.ras_recover.proofs.LooksLemmas.{looks_then, read_refused, read_then}
use Rattle.ras_recover.proofs.by_age.by_age.Goals as goal

pub returns-in_err-first-clause-looks : goal.returns-in_err-first-clause-looks
returns-in_err-first-clause-looks g c =
    let p = err_from_is_err_and c.from_residual.result c.from_residual.ensures.1 in
    rw (p.1, p.2) (read_refused c.in_err-first.field-0.0 _ _ _ _ c.in_err-first.ensures.looks)

pub returns-in_err-second-clause-looks : goal.returns-in_err-second-clause-looks
returns-in_err-second-clause-looks g c =
    let p = err_from_is_err_and c.from_residual-in_err-second.result c.from_residual-in_err-second.ensures.1 in
    rw (p.1, p.2) (read_then c.in_err-second.field-0.0 _ _ _ _ _ _ c.in_ok-first.ensures.looks c.in_err-second.ensures.looks)

pub returns-clause-looks : goal.returns-clause-looks
returns-clause-looks g c = looks_then went_well _ _ _ _ _ _ (λ t u here xs ys p q. tt) c.in_ok-first.ensures.looks c.in_ok-second.ensures.looks
