use Rattle.ras_recover.proofs.KeepingLemmas.{both_synced}
use Rattle.ras_recover.proofs.recovering.sync_both.Goals as goal

pub returns-clause-rests : goal.returns-clause-rests
returns-clause-rests g c = λ t told.
    both_synced t _ _ _ _ _ told c.in_ok-sync.ensures.does.told c.in_ok-sync.ensures.does.settles.0 c.sync-2.ensures.does.stops c.in_ok-sync-2.ensures.does.told c.in_ok-sync-2.ensures.does.settles.0
    c.in_ok-sync-2.ensures.does.settles.1 (g.met.B.Board.text_is_left c.sync-2.new.self)
