use Rattle.std.proofs.Common.{refl}
use Rattle.ras_run.specs.Sites.{site_of}
use Rattle.ras_run.proofs.ShortLineLemmas.{read_short}
use Rattle.ras_run.proofs.StepLemmas.{nothing_in, unread}
use Rattle.ras_run.proofs.line.take_line.Goals as goal

pub take_read-requires-clause-short : goal.take_read-requires-clause-short
take_read-requires-clause-short g c = read_short c.args.bytes.now c.in-Ok.line c.requires.short c.in-Ok.ensures.read

pub returns-in-Ok-Nothing-clause-takes : goal.returns-in-Ok-Nothing-clause-takes
returns-in-Ok-Nothing-clause-takes g c = λ t at drivable.
    let run = c.args.run.now in
    rw (c.in-Ok-Nothing.ensures.read, c.in-Ok-Nothing.field-0-is)
    (nothing_in g.B.Board.seen run run c.args.number t c.args.board.now refl refl)

pub returns-in-Ok-clause-takes : goal.returns-in-Ok-clause-takes
returns-in-Ok-clause-takes g c = λ t at drivable. rw c.in-Ok.ensures.read (c.take_read.ensures.takes t at drivable)

pub returns-in-Err-clause-takes : goal.returns-in-Err-clause-takes
returns-in-Err-clause-takes g c = λ t at drivable.
    rw c.of_unread.ensures (unread g.B.Board.seen (site_of c.args.run.now t) c.args.number t c.args.run.now c.args.board.now _ c.in-Err.refused c.in-Err.ensures.read)
