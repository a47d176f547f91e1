use Rattle.std.proofs.Common.{◌≡◌, ◌∙◌, ap, inl, subst, sym}
use Rattle.board_core.specs.Clock.{Adds}
use Rattle.ras_exit.specs.Endings.{is_answer}
use Rattle.ras_exit.specs.StopLine.{stop_line}
use Rattle.ras_exit.specs.Telling.{PrintMoment}
use Rattle.ras_exit.specs.declared.exit.Exit.TheVariants.{ErstBusy}
use Rattle.ras_daemon.specs.Steps.Doing.{Says}
use Rattle.ras_daemon.specs.RunOutput.{closing_line}
use Rattle.ras_daemon.proofs.ending.end_run.Goals as goal

pub returns-in-ErstBusy-clause-ends : goal.returns-in-ErstBusy-clause-ends
returns-in-ErstBusy-clause-ends g c =
    let busy : closing_line c.args.account.now.state c.args.exit ≡ stop_line ErstBusy = ap (closing_line c.args.account.now.state) c.in-ErstBusy.is in
    inl (
      ap is_answer c.in-ErstBusy.is,
      subst (λ line. Says g.B.Board.seen c.args.exit c.last_line.result line c.args.board.now c.last_line.new.board) (c.busy_line.ensures ∙ sym busy) c.last_line.ensures.says,
    )

pub returns-in-ErstBusy-clause-stops : goal.returns-in-ErstBusy-clause-stops
returns-in-ErstBusy-clause-stops g c =
    let busy : closing_line c.args.account.now.state c.args.exit ≡ stop_line ErstBusy = ap (closing_line c.args.account.now.state) c.in-ErstBusy.is in
    subst (λ line. Adds (PrintMoment (g.B.Board.seen c.args.board.now).clock line) (g.B.Board.seen c.args.board.now).clock (g.B.Board.seen c.last_line.new.board).clock) (c.busy_line.ensures ∙ sym busy) c.last_line.ensures.stops
