use Rattle.ras_host.proofs.BegunLemmas.{openable_ended, usable_ended}
use Rattle.ras_host.proofs.file_board.FileBoard.into_parts.Goals as goal

pub returns-clause-leaves : goal.returns-clause-leaves
returns-clause-leaves g c =
    let was = c.self.invariant in
    rw (← c.self.view_is) (record {
      synced = λ none. openable_ended c.self.inside.files _ was.0 (was.3.sound none);
      store = usable_ended c.self.inside.kept _ was.1;
      spares = was.4;
      reading = λ is. (was.5 is).goes;
    })
