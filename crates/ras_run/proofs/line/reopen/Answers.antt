use Rattle.std.proofs.Common.{◌≡◌, ◌∙◌, ap}
use Rattle.std.proofs.lemmas.Result.{err_from_is_err_and}
use Rattle.ras_texts.specs.Orders.{standing_lines}
use Rattle.ras_run.proofs.ReopenLemmas.{account_held, all_read, not_reopened, opened_at, reopened, starved_reopening}
use Rattle.ras_run.proofs.StandsLemmas.{before_of}
use Rattle.ras_run.proofs.line.reopen.Goals as goal

pub returns-in_err-ledger-clause-does : goal.returns-in_err-ledger-clause-does
returns-in_err-ledger-clause-does g c = λ t is.
    let p = err_from_is_err_and c.from_residual.result c.from_residual.ensures.1 in
    let o = opened_at _ _ t is c.in_err-ledger.ensures.does.told in
    rw (p.1, p.2)
    (not_reopened g.B.Board.seen c.args.board.now c.open.new.board c.args.ledger.now.journal.standing c.args.ledger.now.account.state t o.0
    (before_of _ _ _ _ t c.requires.stands is) o.1 o.2 (g.met.B.Board.told_may_be_left c.args.board.now t is) (g.met.B.Board.counts_earlier c.args.board.now) (g.met.B.Board.counts_earlier c.open.new.board) (c.in_err-ledger.ensures.stops t is)
    c.args.number c.in_err-ledger.field-0.0 (rw is at c.in_err-ledger.ensures.opens.held) c.in_err-ledger.ensures.ends.cause)

pub returns-in_err-text-clause-does : goal.returns-in_err-text-clause-does
returns-in_err-text-clause-does g c = λ t is.
    let p = err_from_is_err_and c.from_residual-in_err-text.result c.from_residual-in_err-text.ensures.1 in
    let o = opened_at _ _ t is c.in_ok-ledger.ensures.does.told in
    rw (p.1, p.2)
    (starved_reopening g.B.Board.seen c.args.board.now c.open.new.board c.args.ledger.now.journal.standing c.args.ledger.now.account.state t o.0
    (before_of _ _ _ _ t c.requires.stands is) o.1 o.2 (g.met.B.Board.told_may_be_left c.args.board.now t is) (g.met.B.Board.counts_earlier c.args.board.now) (g.met.B.Board.counts_earlier c.open.new.board) (c.in_ok-ledger.ensures.stops t is)
    c.args.number c.in_ok-ledger.ensures.ends.cause)

pub returns-in_err-done-clause-does : goal.returns-in_err-done-clause-does
returns-in_err-done-clause-does g c = λ t is.
    let p = err_from_is_err_and c.from_residual-in_err-done.result c.from_residual-in_err-done.ensures.1 in
    let o = opened_at _ _ t is c.in_ok-ledger.ensures.does.told in
    rw (p.1, p.2)
    (starved_reopening g.B.Board.seen c.args.board.now c.open.new.board c.args.ledger.now.journal.standing c.args.ledger.now.account.state t o.0
    (before_of _ _ _ _ t c.requires.stands is) o.1 o.2 (g.met.B.Board.told_may_be_left c.args.board.now t is) (g.met.B.Board.counts_earlier c.args.board.now) (g.met.B.Board.counts_earlier c.open.new.board) (c.in_ok-ledger.ensures.stops t is)
    c.args.number c.in_ok-ledger.ensures.ends.cause)

pub returns-clause-does : goal.returns-clause-does
returns-clause-does g c = λ t is.
    let see = g.B.Board.seen in
    let s = c.args.ledger.now.journal.standing in
    let a = c.args.ledger.now.account.state in
    let before = before_of _ _ _ _ t c.requires.stands is in
    let o = opened_at _ _ t is c.in_ok-ledger.ensures.does.told in
    let read = all_read s t o.0 _ _ before.at.position is o.1 c.in_ok-ledger.ensures.does.whole in
    let same : c.in_ok-ledger.field-0.account.state ≡ a = account_held t.here.file0 t.here.file1 c.in_ok-ledger.field-0.account.state a (rw is at c.in_ok-ledger.ensures.opens.held) before.at.recovers in
    reopened see c.args.board.now c.open.new.board s a t o.0
    before o.1 o.2 (g.met.B.Board.told_may_be_left c.args.board.now t is) (g.met.B.Board.counts_earlier c.args.board.now) (g.met.B.Board.counts_earlier c.open.new.board) (c.in_ok-ledger.ensures.stops t is)
    c.args.number read.0 read.1 read.2 c.in_ok-ledger.ensures.ends.cause c.print_event.result c.deref.result.now c.deref-2.result.now c.print_event.new.board
    (c.deref.ensures.value ∙ (c.in_ok-text.ensures ∙ ap standing_lines same)) (c.deref-2.ensures.value ∙ c.in_ok-done.ensures) c.print_event.ensures.does c.print_event.ensures.exit
