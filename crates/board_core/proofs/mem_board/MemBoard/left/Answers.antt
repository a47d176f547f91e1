use Rattle.board_core.proofs.LeavingLemmas.{picked_left}
use Rattle.board_core.proofs.MemBoardLemmas.{left_board}
use Rattle.board_core.proofs.mem_board.MemBoard.left.Goals as goal

pub returns-clause-left : goal.returns-clause-left
returns-clause-left c = rw (← c.self.view_is)
    (left_board c.with_files.result c.self.inside.history c.in_ok-file0.file0.items c.in_ok-file0.file1.items c.in_ok-file0.store c.in_ok-file0.slow c.with_files.ensures c.in_ok-file0.ensures.store
    (picked_left c.args.pick c.self.inside.history c.in_ok-file0.file0.items c.in_ok-file0.file1.items c.in_ok-file0.ensures.zero c.in_ok-file0.ensures.one))
