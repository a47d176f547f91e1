use Rattle.std.proofs.Common.{◌∙◌}
use Rattle.ras_exit.specs.declared.exit.Exit.TheVariants.{Done}
use Rattle.ras_daemon.specs.Loading.{load_output}
use Rattle.ras_daemon.proofs.SaidLemmas.{says_printed}
use Rattle.ras_daemon.proofs.TellingLemmas.{only_told}
use Rattle.ras_daemon.proofs.load.load.Goals as goal

pub returns-in-Ok-clause-loads : goal.returns-in-Ok-clause-loads
returns-in-Ok-clause-loads g c =
    only_told Done (load_output c.args.n) c.last_line.result _ _
    (says_printed g.B.Board.seen Done c.last_line.result (load_output c.args.n) c.args.board.now c.last_line.new.board
    (rw (c.deref.ensures.value ∙ c.in-Ok.ensures) at c.last_line.ensures.says))
