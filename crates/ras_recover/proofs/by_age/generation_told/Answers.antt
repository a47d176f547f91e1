use Rattle.std.proofs.Common.{List}
use Rattle.std.proofs.lemmas.Result.{err_from_is_err_and}
use Rattle.board_core.specs.declared.board.DiskCall.{DiskCall}
use Rattle.board_core.specs.Doing.{went_well}
use Rattle.board_core.specs.Told.{Told}
use Rattle.ras_recover.proofs.LooksLemmas.{looks_weaker, read_refused}
use Rattle.ras_recover.proofs.by_age.generation_told.Goals as goal

pub returns-in_err-hold : goal.returns-in_err-hold
returns-in_err-hold g c =
    let p = err_from_is_err_and c.from_residual.result c.from_residual.ensures.1 in
    record { looks = rw (p.1, p.2) (read_refused c.in_err-hold.field-0.0 _ _ _ _ c.in_err-hold.ensures.looks) }

pub returns-then-not-has_open_gate : goal.returns-then-not-has_open_gate
returns-then-not-has_open_gate g c = record { looks = looks_weaker went_well _ _ _ _ (λ (t : Told) (calls : List DiskCall) reads. tt) c.in_ok-hold.ensures.looks }

pub returns : goal.returns
returns g c = record { looks = looks_weaker went_well _ _ _ _ (λ (t : Told) (calls : List DiskCall) reads. tt) c.in_ok-hold.ensures.looks }
