use Rattle.std.proofs.Common.{◌≡◌, inl, refl, subst}
use Rattle.ras_exit.specs.declared.exit.Exit.TheVariants.{NoMemory}
use Rattle.ras_recover.specs.OpeningCalls.{AfterOpening}
use Rattle.ras_exit.proofs.DeviceLemmas.{device_goes_on}
use Rattle.ras_daemon.specs.Promises.{Caused, Refuses}
use Rattle.ras_daemon.specs.RunStatus.{start_of}
use Rattle.ras_daemon.specs.Steps.Doing.{Comes}
use Rattle.ras_daemon.proofs.FewLemmas.{takes_no_byte}
use Rattle.ras_daemon.proofs.RunLemmas.{files_refused, if_told, none_called, not_opened, opened_comes, opening_device, over_run, refused_none, starved_refused, start_opened, told_on, was_opened}
use Rattle.ras_daemon.proofs.SaidLemmas.{end_exit, not_done, stop_exit, stopped_causes}
use Rattle.ras_daemon.proofs.running.run.Goals as goal

-- ---- no memory for the reader

pub returns-in-Err-clause-comes : goal.returns-in-Err-clause-comes
returns-in-Err-clause-comes g c =
    let see = g.B.Board.seen in
    over_run (λ start script told. Comes see (c.args.source.now ≡ c.args.source.now) start script NoMemory told (g.S.Source.left c.args.source.now) c.args.board.now c.args.board.now) _ _
    (λ account script t left is recovers. record { does = none_called see (start_of account t) script t c.args.board.now is; reads = inl refl })

pub returns-in-Err-clause-takes : goal.returns-in-Err-clause-takes
returns-in-Err-clause-takes g c = takes_no_byte NoMemory (g.S.Source.left c.args.source.now) (λ done. absurd cc)

pub returns-in-Err-clause-refused : goal.returns-in-Err-clause-refused
returns-in-Err-clause-refused g c = starved_refused (c.args.source.now ≡ c.args.source.now) (g.B.Board.seen c.args.board.now).told (g.B.Board.seen c.args.board.now).clock refl

-- ---- the journal was opened

pub returns-in-Ok-open-clause-comes : goal.returns-in-Ok-open-clause-comes
returns-in-Ok-open-clause-comes g c =
    let see = g.B.Board.seen in
    let ledger = c.in-Ok-open.ledger in
    over_run (λ start script told. Comes see (c.take_script.new.source ≡ c.args.source.now) start script c.take_script.result told (g.S.Source.left c.take_script.new.source) c.args.board.now c.take_script.new.board) _ _
    (λ account script t left is recovers.
    (let start = start_of account t in
    let u = told_on AfterOpening _ _ t is c.in-Ok-open.ensures.does.told in
    let begins = start_opened account t u.0 ledger recovers (if_told _ _ t is c.in-Ok-open.ensures.opens.held) (if_told _ _ t is c.in-Ok-open.ensures.opens.standing) u.2 in
    let comes = c.take_script.ensures.comes start script u.0 begins left u.1 in
    opened_comes see (c.take_script.new.source ≡ c.args.source.now) start script c.take_script.result t u.0 (g.S.Source.left c.take_script.new.source) c.args.board.now c.open.new.board c.take_script.new.board u.2.text
    (was_opened see start script c.take_script.result ledger t c.args.board.now c.open.new.board c.take_script.new.board is
    c.in-Ok-open.ensures.does.told begins c.in-Ok-open.ensures.opens.account c.in-Ok-open.ensures.does.whole (c.in-Ok-open.ensures.stops t is) (c.in-Ok-open.ensures.syncs t is) c.in-Ok-open.ensures.opens.ready comes.does) comes))

pub returns-in-Ok-open-clause-refused : goal.returns-in-Ok-open-clause-refused
returns-in-Ok-open-clause-refused g c =
    refused_none (Refuses c.take_script.result (c.take_script.new.source ≡ c.args.source.now) (g.B.Board.seen c.args.board.now).clock (g.B.Board.seen c.take_script.new.board).clock)
    (g.B.Board.seen c.args.board.now).told (g.B.Board.seen c.take_script.new.board).told c.in-Ok-open.ledger.account.state c.in-Ok-open.ensures.opens.held

pub returns-in-Ok-open-clause-causes : goal.returns-in-Ok-open-clause-causes
returns-in-Ok-open-clause-causes g c =
    subst (λ f. Caused c.take_script.result (g.S.Source.faults c.args.source.now) (g.S.Source.faults c.take_script.new.source) f (g.B.Board.seen c.take_script.new.board).faults) c.in-Ok-open.ensures.ends.cause c.take_script.ensures.causes

-- ---- the journal wasn't opened

pub returns-clause-comes : goal.returns-clause-comes
returns-clause-comes g c =
    let see = g.B.Board.seen in
    over_run (λ start script told. Comes see (c.args.source.now ≡ c.args.source.now) start script c.end_run-in-Err-open.result told (g.S.Source.left c.args.source.now) c.args.board.now c.end_run-in-Err-open.new.board) _ _
    (λ account script t left is recovers. record {
      does = not_opened see account script c.in-Err-open.exit c.end_run-in-Err-open.result _ t c.args.board.now c.open.new.board c.end_run-in-Err-open.new.board is recovers
          c.in-Err-open.ensures.opens.held c.in-Err-open.ensures.does.told c.in-Err-open.ensures.does.unopened (c.in-Err-open.ensures.stops t is) (c.in-Err-open.ensures.syncs t is) c.end_run-in-Err-open.ensures.ends;
      reads = inl refl;
    })

pub returns-clause-takes : goal.returns-clause-takes
returns-clause-takes g c =
    takes_no_byte c.end_run-in-Err-open.result (g.S.Source.left c.args.source.now)
    (not_done g.B.Board.seen c.in-Err-open.exit c.end_run-in-Err-open.result _ c.open.new.board c.end_run-in-Err-open.new.board c.in-Err-open.ensures.ends.stop c.end_run-in-Err-open.ensures.ends)

pub returns-clause-refused : goal.returns-clause-refused
returns-clause-refused g c =
    files_refused g.B.Board.seen (c.args.source.now ≡ c.args.source.now) c.in-Err-open.exit c.end_run-in-Err-open.result c.new-in-Err-open.result.state
    c.args.board.now c.open.new.board c.end_run-in-Err-open.new.board refl
    (device_goes_on _ _ _ _ _ _
    (opening_device _ _ _ _ c.in-Err-open.ensures.does.told c.in-Err-open.ensures.stops (g.met.B.Board.counts_earlier c.open.new.board))
    c.end_run-in-Err-open.ensures.device)
    c.in-Err-open.ensures.does.told c.in-Err-open.ensures.opens.held c.end_run-in-Err-open.ensures.ends c.in-Err-open.ensures.stops c.in-Err-open.ensures.refused
    c.end_run-in-Err-open.ensures.stops

pub returns-clause-causes : goal.returns-clause-causes
returns-clause-causes g c =
    stopped_causes g.B.Board.seen c.in-Err-open.exit c.end_run-in-Err-open.result _ c.open.new.board c.end_run-in-Err-open.new.board _ _ c.in-Err-open.ensures.ends.stop c.in-Err-open.ensures.ends.cause c.end_run-in-Err-open.ensures.ends

pub returns-clause-exits : goal.returns-clause-exits
returns-clause-exits g c =
    end_exit g.B.Board.seen c.in-Err-open.exit c.end_run-in-Err-open.result _ c.open.new.board c.end_run-in-Err-open.new.board (stop_exit c.in-Err-open.exit c.in-Err-open.ensures.ends.stop) c.end_run-in-Err-open.ensures.ends
