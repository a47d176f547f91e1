use Rattle.std.proofs.Common.{◌∙◌}
use Rattle.std.proofs.lemmas.Result.{err_from_is_err_and}
use Rattle.erst_driver.specs.Operations.{clear_calls}
use Rattle.ras_records.specs.Each.{each_calls}
use Rattle.ras_records.specs.Polls.{look_calls}
use Rattle.ras_run.proofs.PolledLemmas.{cleared, found, not_cleared, not_found, not_told}
use Rattle.ras_run.proofs.StandsLemmas.{ready_called, ready_print}
use Rattle.ras_run.proofs.polling.poll_store.Goals as goal

-- ---- listing or reading the records is refused

pub returns-in-Err-clause-polls : goal.returns-in-Err-clause-polls
returns-in-Err-clause-polls g c = λ t is admitted.
    let see = g.B.Board.seen in
    rw c.driver_exit.ensures
    (not_found see c.args.driver.now c.args.topology.now c.args.seconds c.args.board.now c.look-found.new.board c.in-Err.ensures.device c.in-Err.refused c.in-Err.ensures.looked c.in-Err.ensures.does c.args.number c.args.ledger.now t is admitted)

-- ---- the new entries are appended, and their text is printed

pub tell_made-requires-clause-ready : goal.tell_made-requires-clause-ready
tell_made-requires-clause-ready g c =
    let see = g.B.Board.seen in
    ready_called see (λ t. look_calls c.args.driver.now t) c.args.ledger.now c.args.board.now c.look-found.new.board c.in-Ok.ensures.kept c.in-Ok.ensures.does c.requires.ready

pub returns-in_err-done-clause-polls : goal.returns-in_err-done-clause-polls
returns-in_err-done-clause-polls g c = λ t is admitted.
    let p = err_from_is_err_and c.from_residual.result c.from_residual.ensures.1 in
    let see = g.B.Board.seen in
    let f = found see c.args.driver.now c.args.topology.now c.args.seconds c.args.board.now c.look-found.new.board c.in-Ok.ensures.device c.in-Ok.looked c.in-Ok.ensures.looked c.in-Ok.ensures.bounded c.in-Ok.ensures.does t is admitted in
    rw (p.1, p.2) (not_told f c.args.number c.args.ledger.now c.in_err-done.field-0.0 c.tell_made.new.ledger c.tell_made.new.board c.in_err-done.ensures.counts c.in_err-done.ensures.does)

-- ---- the readable records are cleared

pub returns-in-Ok-clear_all-clause-polls : goal.returns-in-Ok-clear_all-clause-polls
returns-in-Ok-clear_all-clause-polls g c = λ t is admitted.
    let see = g.B.Board.seen in
    let f = found see c.args.driver.now c.args.topology.now c.args.seconds c.args.board.now c.look-found.new.board c.in-Ok.ensures.device c.in-Ok.looked c.in-Ok.ensures.looked c.in-Ok.ensures.bounded c.in-Ok.ensures.does t is admitted in
    cleared f c.args.number c.args.ledger.now c.tell_made.new.ledger c.tell_made.new.board c.in_ok-done.ensures.counts c.in_ok-done.ensures.does c.deref.result.now c.deref.ensures.value c.print.result c.deref-in-Ok-clear_all.result.now c.clear_all.new.board c.print.new.board
    (c.deref-in-Ok-clear_all.ensures.value ∙ c.in_ok-done.ensures.done) c.in-Ok-clear_all.ensures.does c.print.ensures.exit c.print.ensures.does

pub returns-in-Ok-clear_all-clause-ready : goal.returns-in-Ok-clear_all-clause-ready
returns-in-Ok-clear_all-clause-ready g c =
    let see = g.B.Board.seen in
    let ledger = c.tell_made.new.ledger in
    ready_print see c.deref-in-Ok-clear_all.result.now ledger c.print.result c.clear_all.new.board c.print.new.board
    (ready_called see (λ t. each_calls (clear_calls c.args.driver.now) c.deref.result.now t) ledger c.tell_made.new.board c.clear_all.new.board c.in-Ok-clear_all.ensures.kept c.in-Ok-clear_all.ensures.does c.in_ok-done.ensures.ready) c.print.ensures.does

pub returns-clause-polls : goal.returns-clause-polls
returns-clause-polls g c = λ t is admitted.
    let see = g.B.Board.seen in
    let f = found see c.args.driver.now c.args.topology.now c.args.seconds c.args.board.now c.look-found.new.board c.in-Ok.ensures.device c.in-Ok.looked c.in-Ok.ensures.looked c.in-Ok.ensures.bounded c.in-Ok.ensures.does t is admitted in
    rw c.driver_exit-in-Err-clear_all.ensures
    (not_cleared f c.args.number c.args.ledger.now c.tell_made.new.ledger c.tell_made.new.board c.in_ok-done.ensures.counts c.in_ok-done.ensures.does c.deref.result.now c.deref.ensures.value c.in-Err-clear_all.refused c.clear_all.new.board
    c.in-Err-clear_all.ensures.ends.refused c.in-Err-clear_all.ensures.answers c.in-Err-clear_all.ensures.does)
