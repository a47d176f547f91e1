use Rattle.std.proofs.Common.{◌≡◌, true}
use Rattle.line_filters.proofs.PrintedLemmas.{prints_none}
use Rattle.line_filters.proofs.feeding.print_unless.Goals as goal

pub returns-in-Err-clause-prints : goal.returns-in-Err-clause-prints
returns-in-Err-clause-prints g c =
    prints_none g.B.Board.seen c.args.board.now c.print.new.board c.in-Err.fault (c.args.may_wait ≡ true) c.args.waiting.now.items c.args.waiting.now.items c.in-Err.ensures.exit
    (rw (← c.deref.ensures.value) c.in-Err.ensures.does) (rw (← c.deref.ensures.value) c.in-Err.ensures.stops)
