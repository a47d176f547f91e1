use Rattle.std.proofs.Common.{◌≡◌}
use Rattle.era_laws.proofs.RunEraLemmas.{era-ended, era-settled, era-stopped, era-synced, era-went-on, stops-recover}
use Rattle.era_laws.proofs.laws.run_eras.Goals as goal

pub returns-clause-begins : goal.returns-clause-begins
returns-clause-begins g c = λ board account t recovers rests. stops-recover (g.B.Board.seen board).clock account t recovers rests.only

pub returns-clause-stopped : goal.returns-clause-stopped
returns-clause-stopped g c = λ exit first last old new account t script left opens recover stops may.
    era-stopped g.B.Board.seen old new account t script opens exit (last ≡ first) stops recover left may

pub returns-clause-ended : goal.returns-clause-ended
returns-clause-ended g c = λ exit first last old new account t now script opens recover stops told.
    era-ended g.B.Board.seen old new account t script opens exit (last ≡ first) stops recover
    (λ s t left within may. g.met.B.Board.counts_earlier new s t left within may) now.here (g.met.B.Board.told_may_be_left new now told)

pub returns-clause-settled : goal.returns-clause-settled
returns-clause-settled g c = λ old new account t script left opens settles may.
    era-settled g.B.Board.seen old new account t script opens left settles may

pub returns-clause-never_open : goal.returns-clause-never_open
returns-clause-never_open g c = λ old new account t script left opens syncs may.
    era-synced g.B.Board.seen old new account t script opens left new syncs may

pub returns-clause-went_on : goal.returns-clause-went_on
returns-clause-went_on g c = λ exit first last old new account t script left opens stops may.
    era-went-on g.B.Board.seen old new account t script opens exit (last ≡ first) stops left may
