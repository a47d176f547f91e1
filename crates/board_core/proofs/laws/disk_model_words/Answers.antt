use Rattle.std.proofs.Common.{length, arith}
use Rattle.board_core.specs.MemBoard.{settled_disk, steps_of_all}
use Rattle.board_core.specs.Steps.MomentLemmas.{now_only, now_counts}
use Rattle.board_core.proofs.DiskModelLemmas.{while_printing, while_acting}
use Rattle.board_core.proofs.laws.disk_model_words.Goals as goal

pub returns-clause-memory : goal.returns-clause-memory
returns-clause-memory c = λ past left. (
  now_only (settled_disk past.first.here) (steps_of_all past.acts past.first) left,
  now_counts (settled_disk past.first.here) (steps_of_all past.acts past.first) (length (steps_of_all past.acts past.first)) left (omega arith),
)

pub returns-clause-printing : goal.returns-clause-printing
returns-clause-printing c = λ past part missing. while_printing past part missing

pub returns-clause-acting : goal.returns-clause-acting
returns-clause-acting c = λ past call store becomes. while_acting past call store becomes
