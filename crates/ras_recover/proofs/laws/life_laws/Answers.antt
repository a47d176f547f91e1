use Rattle.ras_recover.proofs.LifeLemmas.{between_calls, in_a_call, opened_account, links_behind, first_version}
use Rattle.ras_recover.proofs.laws.life_laws.Goals as goal

pub returns-clause-in_a_call : goal.returns-clause-in_a_call
returns-clause-in_a_call g c = λ account life call first last board left begins so_far works since.
    in_a_call g.B.Board.seen g.met.B.Board.told_may_be_left g.met.B.Board.counts_earlier account life call first last board left begins so_far works since

pub returns-clause-between_calls : goal.returns-clause-between_calls
returns-clause-between_calls g c = λ account life first last left begins so_far now.
    between_calls g.B.Board.seen g.met.B.Board.told_may_be_left g.met.B.Board.counts_earlier account life first last left begins so_far now

pub returns-clause-opened : goal.returns-clause-opened
returns-clause-opened g c = λ account now life first last opened begins so_far opens.
    opened_account g.B.Board.seen g.met.B.Board.told_may_be_left g.met.B.Board.counts_earlier account now life first last opened begins so_far opens

pub returns-clause-histories : goal.returns-clause-histories
returns-clause-histories g c = λ history links. links_behind history links

pub returns-clause-first_version : goal.returns-clause-first_version
returns-clause-first_version g c = λ file0 file1 front short0 short1 zero version one. first_version file0 file1 front short0 short1 zero version one
