use Rattle.std.proofs.Common.{◌≡◌, ◌∙◌, ℕ, List, None, Ok, Err, sym, subst}
use Rattle.board_core.specs.Cause.{print_call}
use Rattle.board_core.specs.Doing.{Does, ended_by, one_end}
use Rattle.board_core.specs.Told.{device_of}
use Rattle.erst_store.specs.DeviceLaws.{IsDevice}
use Rattle.erst_interp.specs.Run.{acts_of}
use Rattle.erst_driver.specs.Answers.{AnswersAs, answer_on_put, driver_end, written_id}
use Rattle.erst_driver.specs.Operations.{write_calls}
use Rattle.erst_driver.proofs.DoesLemmas.{at_told}
use Rattle.ras_exit.specs.Acts.{print_acts}
use Rattle.ras_texts.specs.Text.{done_line}
use Rattle.ras_run.specs.Status.{saving_refusal}
use Rattle.ras_run.specs.Taking.{EndsUnless}
use Rattle.ras_run.proofs.AskingLemmas.{asked_printed, asked_refused}
use Rattle.ras_run.proofs.PutLemmas.{if_some, printed_ends}
use Rattle.ras_run.proofs.SavedLemmas.{is_saved, not_saved}
use Rattle.ras_run.proofs.StandsLemmas.{ready_called, ready_print}
use Rattle.ras_run.proofs.putting.save_record.Goals as goal

pub returns-in-Ok-clause-ends : goal.returns-in-Ok-clause-ends
returns-in-Ok-clause-ends g c =
    if_some (g.B.Board.seen c.args.board.now).told _ (λ t. EndsUnless (saving_refusal t.volatile.slow c.args.id t.here.store) c.print.result)
    (λ t gives. printed_ends (saving_refusal t.volatile.slow c.args.id t.here.store) c.print.result c.print.ensures.exit (is_saved c.args.id c.args.bytes.now c.requires t gives)) c.in-Ok.ensures.writes.answers

pub returns-in-Ok-clause-does : goal.returns-in-Ok-clause-does
returns-in-Ok-clause-does g c = λ t is.
    let see = g.B.Board.seen in
    let told = (g.B.Board.seen c.args.board.now).told in
    asked_printed see (IsDevice (device_of t)) (saving_refusal t.volatile.slow c.args.id t.here.store ≡ None) (acts_of (write_calls c.args.driver.now c.args.bytes.now (device_of t))) (print_acts (done_line c.args.number)) _ c.write.new.board _ c.print.result
    (at_told (λ u. IsDevice (device_of u)) told t c.in-Ok.ensures.writes.device is)
    (is_saved c.args.id c.args.bytes.now c.requires t (at_told (λ u. AnswersAs (Ok (tt {0})) (answer_on_put (written_id c.args.bytes.now) (device_of u))) told t c.in-Ok.ensures.writes.answers is))
    c.print.ensures.exit
    (at_told (λ u. Does see (acts_of (write_calls c.args.driver.now c.args.bytes.now (device_of u))) (ended_by driver_end (Ok (tt {0}))) c.args.board.now c.write.new.board) told t c.in-Ok.ensures.writes.does is)
    (subst (λ (text : List ℕ). Does see (print_acts text) (one_end print_call c.print.result) c.write.new.board c.print.new.board) (c.deref.ensures.value ∙ c.in_ok-done.ensures) c.print.ensures.does)

pub returns-in-Ok-clause-ready : goal.returns-in-Ok-clause-ready
returns-in-Ok-clause-ready g c = λ ledger ready.
    let see = g.B.Board.seen in
    ready_print see c.deref.result.now ledger c.print.result c.write.new.board c.print.new.board
    (ready_called see (λ t. write_calls c.args.driver.now c.args.bytes.now (device_of t)) ledger c.args.board.now c.write.new.board c.in-Ok.ensures.writes.kept c.in-Ok.ensures.writes.does ready) c.print.ensures.does

pub returns-clause-ends : goal.returns-clause-ends
returns-clause-ends g c =
    if_some (g.B.Board.seen c.args.board.now).told _ (λ t. EndsUnless (saving_refusal t.volatile.slow c.args.id t.here.store) (Err c.driver_exit.result))
    (λ t gives. subst (λ exit. EndsUnless (saving_refusal t.volatile.slow c.args.id t.here.store) (Err exit)) (sym c.driver_exit.ensures) (not_saved c.args.id c.args.bytes.now c.requires t c.in-Err.refused c.in-Err.ensures.writes.ends.refused gives)) c.in-Err.ensures.writes.answers

pub returns-clause-does : goal.returns-clause-does
returns-clause-does g c = λ t is.
    let see = g.B.Board.seen in
    let told = (g.B.Board.seen c.args.board.now).told in
    rw c.driver_exit.ensures
    (asked_refused see (IsDevice (device_of t)) (saving_refusal t.volatile.slow c.args.id t.here.store ≡ None) (acts_of (write_calls c.args.driver.now c.args.bytes.now (device_of t))) (print_acts (done_line c.args.number)) _ _ c.in-Err.refused c.in-Err.ensures.writes.ends.refused
    (at_told (λ u. IsDevice (device_of u)) told t c.in-Err.ensures.writes.device is)
    (at_told (λ u. Does see (acts_of (write_calls c.args.driver.now c.args.bytes.now (device_of u))) (driver_end c.in-Err.refused) c.args.board.now c.write.new.board) told t c.in-Err.ensures.writes.does is))
