use Rattle.std.proofs.Common.{◌≡◌, refl, Ok}
use Rattle.ras_recover.proofs.LiveLemmas.{if-told, told-here}
use Rattle.ras_journal.specs.Recovered.{recovered}
use Rattle.ras_recover.specs.Recovering.{TellsHeld}
use Rattle.ras_recover.proofs.life.live_opening.Goals as goal

pub returns-clause-works : goal.returns-clause-works
returns-clause-works g c = λ journal t tells. (record { there = t; tells = tells }, c.open_journal.ensures.stops t tells)

pub returns-clause-answered : goal.returns-clause-answered
returns-clause-answered g c =
    if-told (λ result t. TellsHeld (λ r. r.0.state) result (recovered t.here.file0 t.here.file1)) c.open_journal.result (g.B.Board.seen c.args.board.now).told
    c.open_journal.ensures.recovers c.open_journal.ensures.opened
    (λ r held opened journal t tells. record {
      call = record { there = t; tells = tells };
      standing = r.1.standing;
      recovers = record { is = told-here (λ t. recovered t.here.file0 t.here.file1 ≡ Ok r.0.state) (g.B.Board.seen c.args.board.now).told t tells held };
      is = opened t tells;
      journal = refl;
    })
