use Rattle.board_core.proofs.DoingLemmas.{does_put}
use Rattle.board_core.proofs.through.put.Goals as goal

pub returns-clause-does : goal.returns-clause-does
returns-clause-does g c = does_put g.B.Board.seen c.args.id c.args.bytes.now c.put.result c.args.board.now c.put.new.self c.put.ensures.does (g.met.B.Board.counts_earlier c.args.board.now)
