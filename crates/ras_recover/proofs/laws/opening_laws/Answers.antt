use Rattle.ras_recover.proofs.OpeningFewLemmas.{opened_few, opening_leaves, openings_few, recovery_few}
use Rattle.ras_recover.proofs.laws.opening_laws.Goals as goal

pub returns-clause-moments : goal.returns-clause-moments
returns-clause-moments g c = opening_leaves

pub returns-clause-few : goal.returns-clause-few
returns-clause-few g c = λ old new here few adds. openings_few (g.B.Board.seen old).clock (g.B.Board.seen new).clock here few adds

pub returns-clause-few_recovering : goal.returns-clause-few_recovering
returns-clause-few_recovering g c = λ old new few keeps. recovery_few (g.B.Board.seen old).told (g.B.Board.seen new).told (g.B.Board.seen old).clock (g.B.Board.seen new).clock few keeps

pub returns-clause-few_done : goal.returns-clause-few_done
returns-clause-few_done g c = opened_few
