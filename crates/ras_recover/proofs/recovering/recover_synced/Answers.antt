use Rattle.std.proofs.lemmas.Result.{err_from_is_err_and}
use Rattle.board_core.specs.Cause.{disk_call}
use Rattle.board_core.specs.Doing.{broke, went_well}
use Rattle.ras_recover.proofs.AgeLemmas.{reads_later}
use Rattle.ras_recover.proofs.BothLemmas.{fails_told}
use Rattle.ras_recover.proofs.LooksLemmas.{looks_given_up, looks_then, looks_weaker, open_then}
use Rattle.ras_recover.proofs.recovering.recover_synced.Goals as goal

pub returns-in_err-sizes-clause-looks : goal.returns-in_err-sizes-clause-looks
returns-in_err-sizes-clause-looks g c =
    let p = err_from_is_err_and c.from_residual.result c.from_residual.ensures.1 in
    rw (p.1, p.2) (looks_weaker (broke disk_call) _ _ _ _ tt c.in_err-sizes.ensures.looks)

pub returns-in_default-clause-looks : goal.returns-in_default-clause-looks
returns-in_default-clause-looks g c = looks_given_up _ _ _ _ c.in_ok-sizes.ensures.looks

pub returns-in_err-both-clause-recovers : goal.returns-in_err-both-clause-recovers
returns-in_err-both-clause-recovers g c =
    let p = err_from_is_err_and c.from_residual-in_err-both.result c.from_residual-in_err-both.ensures.1 in
    rw (p.1, p.2) (fails_told c.in_err-both.field-0.0 _ _ c.short_sizes.ensures.looks.keeps.here c.in_err-both.ensures.read)

pub returns-in_err-both-clause-looks : goal.returns-in_err-both-clause-looks
returns-in_err-both-clause-looks g c =
    let p = err_from_is_err_and c.from_residual-in_err-both.result c.from_residual-in_err-both.ensures.1 in
    rw (p.1, p.2) (open_then c.in_err-both.field-0.0 _ _ _ _ _ _ c.in_ok-sizes.ensures.looks c.in_err-both.ensures.looks)

pub returns-clause-looks : goal.returns-clause-looks
returns-clause-looks g c = looks_then went_well _ _ _ _ _ _ (reads_later _) c.in_ok-sizes.ensures.looks c.in_ok-both.ensures.looks
