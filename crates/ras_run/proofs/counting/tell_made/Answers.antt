use Rattle.std.proofs.Common.{Err, Ok, Result, refl, ◌∙◌}
use Rattle.std.proofs.lemmas.Result.{err_from_is_err_and}
use Rattle.ras_events.specs.Preparing.{news_entries}
use Rattle.ras_exit.specs.declared.exit.Exit.{Exit}
use Rattle.ras_run.proofs.CountLemmas.{cut_short, made_counted, print_exit, text_told, told_kept, told_not_kept}
use Rattle.ras_run.proofs.NewsLemmas.{can_keep}
use Rattle.ras_run.proofs.StandsLemmas.{ready_print}
use Rattle.ras_run.proofs.counting.tell_made.Goals as goal

pub keep-requires-clause-can_keep : goal.keep-requires-clause-can_keep
keep-requires-clause-can_keep g c =
    let prepared = c.in-Ok.ensures.prepared in
    can_keep c.args.ledger.now.account.state c.args.made c.in-Ok.event.news prepared.news prepared.some prepared.link c.requires.fit

pub returns-in_err-keep-clause-does : goal.returns-in_err-keep-clause-does
returns-in_err-keep-clause-does g c =
    let p = err_from_is_err_and c.from_residual.result c.from_residual.ensures.1 in
    let now = record c.args.ledger.now { account = c.prepare.new.account } in
    rw (p.1, p.2)
    (told_not_kept c.args.made (news_entries c.in-Ok.event.news) c.args.ledger.now now now c.in-Ok.ensures.state refl c.in-Ok.ensures.prepared.news c.in-Ok.ensures.room
    g.B.Board.seen c.in_err-keep.field-0.0 _ _ c.in_err-keep.ensures.does)

pub returns-in_err-print-clause-counts : goal.returns-in_err-print-clause-counts
returns-in_err-print-clause-counts g c =
    let p = err_from_is_err_and c.from_residual-in_err-print.result c.from_residual-in_err-print.ensures.1 in
    let now = record c.args.ledger.now { account = c.prepare.new.account } in
    let printed : Result (Unit {0}) Exit = Err c.in_err-print.field-0.0 in
    rw (p.1, p.2)
    (made_counted c.args.made (news_entries c.in-Ok.event.news) c.args.ledger.now now c.keep.new.ledger c.in-Ok.ensures.state refl c.in-Ok.ensures.prepared.news c.in-Ok.ensures.room
    printed c.in_ok-keep.ensures.counts (cut_short printed (print_exit printed c.in_err-print.ensures.exit)))

pub returns-in_err-print-clause-does : goal.returns-in_err-print-clause-does
returns-in_err-print-clause-does g c =
    let p = err_from_is_err_and c.from_residual-in_err-print.result c.from_residual-in_err-print.ensures.1 in
    let now = record c.args.ledger.now { account = c.prepare.new.account } in
    rw (p.1, p.2)
    (told_kept c.args.made (news_entries c.in-Ok.event.news) c.args.ledger.now now c.keep.new.ledger c.in-Ok.ensures.state refl c.in-Ok.ensures.prepared.news c.in-Ok.ensures.room
    g.B.Board.seen c.deref.result.now (Err c.in_err-print.field-0.0) _ _ _
    (text_told c.args.ledger.now.account.state c.prepare.new.account.state c.args.made (news_entries c.in-Ok.event.news) c.in-Ok.event.text.items _
    c.in-Ok.ensures.state c.in-Ok.ensures.prepared.news c.in-Ok.ensures.prepared.text (c.deref.ensures.value ∙ c.in_ok-keep.ensures.text))
    c.in_ok-keep.ensures.does c.in_err-print.ensures.does c.in_err-print.ensures.exit)

pub returns-clause-counts : goal.returns-clause-counts
returns-clause-counts g c =
    let now = record c.args.ledger.now { account = c.prepare.new.account } in
    made_counted c.args.made (news_entries c.in-Ok.event.news) c.args.ledger.now now c.keep.new.ledger c.in-Ok.ensures.state refl c.in-Ok.ensures.prepared.news c.in-Ok.ensures.room
    (Ok c.in-Ok.event.done) c.in_ok-keep.ensures.counts tt

pub returns-clause-does : goal.returns-clause-does
returns-clause-does g c =
    let now = record c.args.ledger.now { account = c.prepare.new.account } in
    told_kept c.args.made (news_entries c.in-Ok.event.news) c.args.ledger.now now c.keep.new.ledger c.in-Ok.ensures.state refl c.in-Ok.ensures.prepared.news c.in-Ok.ensures.room
    g.B.Board.seen c.deref.result.now (Ok tt) _ _ _
    (text_told c.args.ledger.now.account.state c.prepare.new.account.state c.args.made (news_entries c.in-Ok.event.news) c.in-Ok.event.text.items _
    c.in-Ok.ensures.state c.in-Ok.ensures.prepared.news c.in-Ok.ensures.prepared.text (c.deref.ensures.value ∙ c.in_ok-keep.ensures.text))
    c.in_ok-keep.ensures.does c.in_ok-print.ensures.does tt

pub returns-clause-ready : goal.returns-clause-ready
returns-clause-ready g c =
    ready_print g.B.Board.seen c.deref.result.now c.keep.new.ledger (Ok tt) c.keep.new.board c.print.new.board c.in_ok-keep.ensures.ready c.in_ok-print.ensures.does
