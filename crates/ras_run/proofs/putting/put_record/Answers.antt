use Rattle.std.proofs.Common.{◌≡◌, ◌∙◌, ℕ, List, [], ◌∷◌, None, ap, subst}
use Rattle.board_core.specs.Cause.{print_call}
use Rattle.board_core.specs.Doing.{Does, device, one_end, put}
use Rattle.erst_store.specs.Store.{refusal_of}
use Rattle.erst_driver.proofs.DoesLemmas.{at_told}
use Rattle.ras_exit.specs.Acts.{print_acts}
use Rattle.ras_texts.specs.Text.{done_line}
use Rattle.ras_run.specs.Status.{put_refusal}
use Rattle.ras_run.specs.Taking.{EndsUnless}
use Rattle.ras_run.proofs.AskingLemmas.{asked_printed}
use Rattle.ras_run.proofs.PutLemmas.{if_some, printed_ends}
use Rattle.ras_run.proofs.StandsLemmas.{ready_print, ready_put}
use Rattle.ras_run.proofs.putting.put_record.Goals as goal

pub returns-in-Ok-clause-ends : goal.returns-in-Ok-clause-ends
returns-in-Ok-clause-ends g c =
    if_some (g.B.Board.seen c.args.board.now).told _ (λ t. EndsUnless (put_refusal c.args.number (refusal_of c.args.id c.args.bytes.now t.here.store)) c.print.result)
    (λ t none. printed_ends (put_refusal c.args.number (refusal_of c.args.id c.args.bytes.now t.here.store)) c.print.result c.print.ensures.exit (ap (put_refusal c.args.number) none)) c.in-Ok.ensures.answers

pub returns-in-Ok-clause-does : goal.returns-in-Ok-clause-does
returns-in-Ok-clause-does g c = λ t is.
    let see = g.B.Board.seen in
    asked_printed see _ _ (device (put c.args.id c.args.bytes.now) ∷ []) (print_acts (done_line c.args.number)) _ c.put.new.board _ c.print.result
    tt (at_told (λ u. refusal_of c.args.id c.args.bytes.now u.here.store ≡ None) (g.B.Board.seen c.args.board.now).told t c.in-Ok.ensures.answers is) c.print.ensures.exit c.in-Ok.ensures.does
    (subst (λ (text : List ℕ). Does see (print_acts text) (one_end print_call c.print.result) c.put.new.board c.print.new.board) (c.deref.ensures.value ∙ c.in_ok-done.ensures) c.print.ensures.does)

pub returns-in-Ok-clause-ready : goal.returns-in-Ok-clause-ready
returns-in-Ok-clause-ready g c = λ ledger ready.
    let see = g.B.Board.seen in
    ready_print see c.deref.result.now ledger c.print.result c.put.new.board c.print.new.board
    (ready_put see (put c.args.id c.args.bytes.now) ledger c.args.board.now c.put.new.board c.in-Ok.ensures.does ready) c.print.ensures.does
