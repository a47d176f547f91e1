-- By the line's braces, and by what ends a report.
use Rattle.block_lines.proofs.MarkLemmas.{foreign_is, printed_marked}
use Rattle.block_lines.proofs.ToldLemmas.{foreign_changes, foreign_told}
use Rattle.block_lines.proofs.told_laws.foreign_lines_are_told.Goals as goal

pub returns-clause-marked : goal.returns-clause-marked
returns-clause-marked c = printed_marked

pub returns-clause-foreign : goal.returns-clause-foreign
returns-clause-foreign c = foreign_is

pub returns-clause-told : goal.returns-clause-told
returns-clause-told c = foreign_told

pub returns-clause-reports : goal.returns-clause-reports
returns-clause-reports c = foreign_changes
