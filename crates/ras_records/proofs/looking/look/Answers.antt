use Rattle.std.proofs.lemmas.Result.{err_from_is_err_and}
use Rattle.ras_records.proofs.KeptLemmas.{kept_both}
use Rattle.ras_records.proofs.LookingLemmas.{list_refused, look_does, look_looks}
use Rattle.ras_records.proofs.looking.look.Goals as goal

pub returns-in_err-ids-clause-does : goal.returns-in_err-ids-clause-does
returns-in_err-ids-clause-does g c =
    let p = err_from_is_err_and c.from_residual.result c.from_residual.ensures.1 in
    rw (p.1, p.2) (list_refused g.B.Board.seen c.args.driver.now _ _ c.in_err-ids.field-0.0 c.in_err-ids.ensures.lists.refused c.in_err-ids.ensures.lists.does)

pub returns-clause-kept : goal.returns-clause-kept
returns-clause-kept g c = kept_both _ _ _ c.in_ok-ids.ensures.lists.kept c.read_all.ensures.kept

pub returns-clause-does : goal.returns-clause-does
returns-clause-does g c =
    look_does g.B.Board.seen c.args.driver.now _ _ _ c.deref.result.now c.in_ok-ids.ensures.lists.does (rw c.deref.ensures.value c.in_ok-ids.ensures.ids) c.read_all.result c.read_all.ensures.does

pub returns-clause-looked : goal.returns-clause-looked
returns-clause-looked g c =
    look_looks g.B.Board.seen c.args.driver.now _ _ c.read_all.new.board c.deref.result.now c.in_ok-ids.ensures.lists.does (rw c.deref.ensures.value c.in_ok-ids.ensures.ids) c.read_all.result
    c.args.topology.now c.args.seconds c.in_ok-ids.ensures.lists.device c.read_all.ensures.looked
