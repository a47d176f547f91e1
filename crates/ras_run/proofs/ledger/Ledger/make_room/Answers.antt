use Rattle.ras_run.proofs.KeepingLemmas.{stands_shut}
use Rattle.ras_run.proofs.ledger.Ledger.make_room.Goals as goal

pub switch_file-requires-clause-shut : goal.switch_file-requires-clause-shut
switch_file-requires-clause-shut g c =
    stands_shut c.args.self.now.journal.standing c.args.self.now.account.state (g.B.Board.seen c.args.board.now).told (g.B.Board.seen c.args.board.now).clock c.requires.stands
