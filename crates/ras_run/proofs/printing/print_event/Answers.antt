use Rattle.std.proofs.lemmas.Result.{err_from_is_err_and}
use Rattle.board_core.specs.Cause.{print_call}
use Rattle.board_core.specs.Doing.{broke, one_end}
use Rattle.board_core.proofs.DoingLemmas.{does_first, does_then, made_one}
use Rattle.ras_exit.specs.Acts.{print_acts}
use Rattle.ras_run.proofs.printing.print_event.Goals as goal

pub returns-in_err-print-clause-does : goal.returns-in_err-print-clause-does
returns-in_err-print-clause-does g c =
    let p = err_from_is_err_and c.from_residual.result c.from_residual.ensures.1 in
    rw p.1 (does_first g.B.Board.seen (print_acts c.args.text.now) (print_acts c.args.done.now) (broke print_call) _ _ tt c.in_err-print.ensures.does)

pub returns-clause-does : goal.returns-clause-does
returns-clause-does g c =
    does_then g.B.Board.seen (print_acts c.args.text.now) (print_acts c.args.done.now) (one_end print_call c.print-2.result) _ _ _
    c.in_ok-print.ensures.does (made_one print_call c.print-2.result) c.print-2.ensures.does
