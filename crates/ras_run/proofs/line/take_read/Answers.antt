use Rattle.std.proofs.Common.{◌∙◌, Err, List, Ok, ap, refl, subst, sym}
use Rattle.std.proofs.lemmas.Result.{err_from_is_err_and}
use Rattle.board_core.specs.Doing.{Act, Does}
use Rattle.ras_events.specs.declared.event.Event.{Event}
use Rattle.ras_events.specs.declared.event.Event.TheVariants.{Counted, Nothing, Polled, Put, Reopened, Saved, Settled}
use Rattle.ras_events.specs.Repeats.{IsRepeat}
use Rattle.ras_events.specs.Sizes.{CanBeSaved, IsFit}
use Rattle.ras_exit.specs.Acts.{part_end}
use Rattle.ras_texts.specs.Text.{done_line, known_line}
use Rattle.erst_interp.specs.Admission.{IsAdmittedTable}
use Rattle.erst_interp.proofs.AdmitsLemmas.{is-admitted}
use Rattle.erst_store.specs.Store.{refusal_of}
use Rattle.erst_driver.proofs.DoesLemmas.{at_told}
use Rattle.ras_run.specs.Status.{put_refusal, saving_refusal}
use Rattle.ras_run.specs.Sites.{IsDrivable}
use Rattle.ras_run.specs.Taking.{EndsUnless}
use Rattle.ras_run.proofs.CountLemmas.{counted_still, cut_short, not_told, print_exit, repeat_acts, repeat_counted, told_done}
use Rattle.ras_run.proofs.StandsLemmas.{ready_printed}
use Rattle.ras_run.proofs.StepLemmas.{asked_for, counted_in, not_undriven, nothing_in, polled_in, put_in, refused_for, reopened_in, saved_in, settled_in, starved_in, still_drivable}
use Rattle.ras_run.proofs.line.take_read.Goals as goal

pub returns-in-Some-clause-takes : goal.returns-in-Some-clause-takes
returns-in-Some-clause-takes g c = λ t at drivable.
    let see = g.B.Board.seen in
    let old = c.args.run.now in
    let text = known_line old.ledger.account.state c.in-Some.name in
    let repeat : IsRepeat old.ledger.account.state old.settings c.args.line text = c.in-Some.ensures.repeats in
    let run = record old { text = c.end_repeat.new.text } in
    asked_for see old run c.args.number t c.end_repeat.result c.args.board.now c.end_repeat.new.board c.args.line (sym repeat.settled) (Ok (Counted repeat.made)) repeat.asked
    (counted_in see old run c.args.number t c.end_repeat.result c.args.board.now c.end_repeat.new.board repeat.made repeat.fit
    (repeat_counted c.args.number old.settings c.args.line text old.ledger repeat c.end_repeat.result c.end_repeat.ensures.exit)
    (subst (λ (acts : List Act). Does see acts (part_end c.end_repeat.result) c.args.board.now c.end_repeat.new.board) (repeat_acts c.args.number old.settings c.args.line text old.ledger repeat) c.end_repeat.ensures.does))

pub returns-in-Some-clause-ready : goal.returns-in-Some-clause-ready
returns-in-Some-clause-ready g c =
    ready_printed g.B.Board.seen (known_line c.args.run.now.ledger.account.state c.in-Some.name) (done_line c.args.number) c.args.run.now.ledger c.end_repeat.result _ _
    c.requires.ready c.end_repeat.ensures.does

pub returns-in-Err-Refused-clause-takes : goal.returns-in-Err-Refused-clause-takes
returns-in-Err-Refused-clause-takes g c = λ t at drivable.
    rw (c.refused_exit.ensures, c.in-Err-Refused.field-0-is)
    (refused_for g.B.Board.seen c.args.run.now (record c.args.run.now { settings = c.take.new.self }) c.args.number t c.args.board.now c.args.line c.in-Err-Refused.refusal
    (rw c.in-Err-Refused.field-0-is at c.in-Err-Refused.ensures.event))

pub returns-in-Err-NoMemory-clause-takes : goal.returns-in-Err-NoMemory-clause-takes
returns-in-Err-NoMemory-clause-takes g c = λ t at drivable.
    starved_in g.B.Board.seen _ c.args.number t (record c.args.run.now { settings = c.take.new.self }) c.args.board.now _ _

pub returns-in-Nothing-clause-takes : goal.returns-in-Nothing-clause-takes
returns-in-Nothing-clause-takes g c = λ t at drivable.
    let see = g.B.Board.seen in
    let old = c.args.run.now in
    let run = record old { settings = c.take.new.self } in
    asked_for see old run c.args.number t (Ok tt) c.args.board.now c.args.board.now c.args.line c.in-Ok.ensures.settings (Ok Nothing) (c.in-Ok.ensures.event ∙ ap (λ (e : Event). Ok e) c.in-Nothing.is)
    (nothing_in see old run c.args.number t c.args.board.now refl refl)

pub returns-in-Settled-clause-takes : goal.returns-in-Settled-clause-takes
returns-in-Settled-clause-takes g c = λ t at drivable.
    let see = g.B.Board.seen in
    let old = c.args.run.now in
    let run = record old { settings = c.take.new.self } in
    asked_for see old run c.args.number t c.end_event.result c.args.board.now c.end_event.new.board c.args.line c.in-Ok.ensures.settings (Ok Settled) (c.in-Ok.ensures.event ∙ ap (λ (e : Event). Ok e) c.in-Settled.is)
    (settled_in see old run c.args.number t c.end_event.result c.args.board.now c.end_event.new.board refl refl c.end_event.ensures.exit c.end_event.ensures.does)

pub returns-in_err-done-in-Counted-clause-takes : goal.returns-in_err-done-in-Counted-clause-takes
returns-in_err-done-in-Counted-clause-takes g c = λ t at drivable.
    let see = g.B.Board.seen in
    let old = c.args.run.now in
    let run = record old { settings = c.take.new.self; ledger = c.tell_made.new.ledger } in
    let made = c.in-Counted.made in
    let fit : IsFit made = rw c.in-Counted.is at c.in-Ok.ensures.fit in
    let exit = c.in_err-done-in-Counted.field-0.0 in
    let p = err_from_is_err_and c.from_residual.result c.from_residual.ensures.1 in
    rw (p.1, p.2)
    (asked_for see old run c.args.number t (Err exit) c.args.board.now c.tell_made.new.board c.args.line c.in-Ok.ensures.settings (Ok (Counted made)) (c.in-Ok.ensures.event ∙ ap (λ (e : Event). Ok e) c.in-Counted.is)
    (counted_in see old run c.args.number t (Err exit) c.args.board.now c.tell_made.new.board made fit c.in_err-done-in-Counted.ensures.counts
    (not_told see old.ledger.account.state c.args.number old.ledger.journal.standing made exit _ _ c.in_err-done-in-Counted.ensures.does)))

pub returns-in_ok-done-in-Counted-clause-takes : goal.returns-in_ok-done-in-Counted-clause-takes
returns-in_ok-done-in-Counted-clause-takes g c = λ t at drivable.
    let see = g.B.Board.seen in
    let old = c.args.run.now in
    let run = record old { settings = c.take.new.self; ledger = c.tell_made.new.ledger } in
    let made = c.in-Counted.made in
    let fit : IsFit made = rw c.in-Counted.is at c.in-Ok.ensures.fit in
    let told = c.in_ok-done-in-Counted.ensures in
    let result = c.print.result in
    asked_for see old run c.args.number t result c.args.board.now c.print.new.board c.args.line c.in-Ok.ensures.settings (Ok (Counted made)) (c.in-Ok.ensures.event ∙ ap (λ (e : Event). Ok e) c.in-Counted.is)
    (counted_in see old run c.args.number t result c.args.board.now c.print.new.board made fit
    (counted_still made old.ledger run.ledger result told.counts (cut_short result (print_exit result c.print.ensures.exit)))
    (told_done see old.ledger.account.state c.args.number old.ledger.journal.standing made c.deref.result.now result _ _ _ (c.deref.ensures.value ∙ told.done) told.does c.print.ensures.does c.print.ensures.exit))

pub returns-in-Put-clause-takes : goal.returns-in-Put-clause-takes
returns-in-Put-clause-takes g c = λ t at drivable.
    let see = g.B.Board.seen in
    let old = c.args.run.now in
    let run = record old { settings = c.take.new.self } in
    let bytes = c.bytes-in-Put.result.now in
    let ends = at_told (λ u. EndsUnless (put_refusal c.args.number (refusal_of c.in-Put.id bytes u.here.store)) c.put_record.result) (g.B.Board.seen c.args.board.now).told t c.put_record.ensures.ends at in
    asked_for see old run c.args.number t c.put_record.result c.args.board.now c.put_record.new.board c.args.line c.in-Ok.ensures.settings (Ok (Put c.in-Put.id bytes))
    (c.in-Ok.ensures.event ∙ ap (λ (e : Event). Ok e) (c.in-Put.is ∙ ap (Put c.in-Put.id) (sym c.bytes-in-Put.ensures)))
    (put_in see old run c.args.number t c.put_record.result c.args.board.now c.put_record.new.board c.in-Put.id bytes refl refl ends (c.put_record.ensures.does t at))

pub returns-in_err-driver-in-Saved-clause-takes : goal.returns-in_err-driver-in-Saved-clause-takes
returns-in_err-driver-in-Saved-clause-takes g c = λ t at drivable.
    let asked = c.in-Ok.ensures.event ∙ ap (λ (e : Event). Ok e) c.in-Saved.is in
    absurd (not_undriven c.args.run.now (record c.args.run.now { settings = c.take.new.self }) c.args.line c.in-Ok.ensures.settings (Saved c.in-Saved.id c.in-Saved.bytes) asked tt c.in_err-driver-in-Saved.ensures.1)

pub returns-in_ok-driver-in-Saved-clause-takes : goal.returns-in_ok-driver-in-Saved-clause-takes
returns-in_ok-driver-in-Saved-clause-takes g c = λ t at drivable.
    let see = g.B.Board.seen in
    let old = c.args.run.now in
    let run = record old { settings = c.take.new.self } in
    let asked = c.in-Ok.ensures.event ∙ ap (λ (e : Event). Ok e) c.in-Saved.is in
    let can : CanBeSaved c.in-Saved.id c.in-Saved.bytes = rw c.in-Saved.is at c.in-Ok.ensures.fit in
    let ends = at_told (λ u. EndsUnless (saving_refusal u.volatile.slow c.in-Saved.id u.here.store) c.save_record.result) (g.B.Board.seen c.args.board.now).told t c.save_record.ensures.ends at in
    saved_in see old run c.args.number t c.save_record.result c.args.board.now c.save_record.new.board c.args.line c.in-Ok.ensures.settings c.in_ok-driver-in-Saved.driver.now c.in_ok-driver-in-Saved.ensures
    c.in-Saved.id c.in-Saved.bytes asked refl refl can ends (c.save_record.ensures.does t at)

pub returns-in_err-driver-in-Polled-clause-takes : goal.returns-in_err-driver-in-Polled-clause-takes
returns-in_err-driver-in-Polled-clause-takes g c = λ t at drivable.
    let asked = c.in-Ok.ensures.event ∙ ap (λ (e : Event). Ok e) c.in-Polled.is in
    absurd (not_undriven c.args.run.now (record c.args.run.now { settings = c.take.new.self }) c.args.line c.in-Ok.ensures.settings (Polled c.in-Polled.seconds) asked tt c.in_err-driver-in-Polled.ensures.1)

pub returns-in_ok-driver-in-Polled-clause-takes : goal.returns-in_ok-driver-in-Polled-clause-takes
returns-in_ok-driver-in-Polled-clause-takes g c = λ t at drivable.
    let see = g.B.Board.seen in
    let old = c.args.run.now in
    let run = record old { settings = c.take.new.self; ledger = c.poll_store.new.ledger } in
    let asked = c.in-Ok.ensures.event ∙ ap (λ (e : Event). Ok e) c.in-Polled.is in
    let lists = c.in_ok-driver-in-Polled.driver.now in
    let told = c.in_ok-driver-in-Polled.ensures in
    let admitted : IsAdmittedTable lists = is-admitted lists (subst IsDrivable told (still_drivable old run c.args.line c.in-Ok.ensures.settings (Polled c.in-Polled.seconds) asked tt drivable)) in
    polled_in see old run c.args.number t c.poll_store.result c.args.board.now c.poll_store.new.board c.args.line c.in-Ok.ensures.settings lists told
    c.in-Polled.seconds asked (c.poll_store.ensures.polls t at admitted)

pub returns-in-Reopened-clause-takes : goal.returns-in-Reopened-clause-takes
returns-in-Reopened-clause-takes g c = λ t at drivable.
    let see = g.B.Board.seen in
    let old = c.args.run.now in
    let run = record old { settings = c.take.new.self; ledger = c.reopen.new.ledger } in
    asked_for see old run c.args.number t c.reopen.result c.args.board.now c.reopen.new.board c.args.line c.in-Ok.ensures.settings (Ok Reopened) (c.in-Ok.ensures.event ∙ ap (λ (e : Event). Ok e) c.in-Reopened.is)
    (reopened_in see old run c.args.number t c.reopen.result c.args.board.now c.reopen.new.board (c.reopen.ensures.reopens t at) (c.reopen.ensures.does t at))
