-- By the open report and its last section.
use Rattle.block_lines.proofs.ToldLemmas.{ended_told, open_told, section_told}
use Rattle.block_lines.proofs.told_laws.cut_reports_are_told.Goals as goal

pub returns-clause-ended : goal.returns-clause-ended
returns-clause-ended c = ended_told

pub returns-clause-section : goal.returns-clause-section
returns-clause-section c = section_told

pub returns-clause-open : goal.returns-clause-open
returns-clause-open c = open_told
