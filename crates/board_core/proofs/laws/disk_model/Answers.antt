use Rattle.board_core.proofs.DiskModelLemmas.{after_calls, file_calls, since_calls}
use Rattle.board_core.proofs.laws.disk_model.Goals as goal

pub returns-clause-file : goal.returns-clause-file
returns-clause-file g c = λ file bytes calls first last synced made left since. file_calls g.B.Board.seen file bytes calls first last synced made left since

pub returns-clause-together : goal.returns-clause-together
returns-clause-together g c = λ disk calls first last keeps made left since. since_calls g.B.Board.seen calls disk first last left keeps made since

pub returns-clause-after : goal.returns-clause-after
returns-clause-after g c = λ disk calls first last keeps made. after_calls g.B.Board.seen calls disk first last keeps made
