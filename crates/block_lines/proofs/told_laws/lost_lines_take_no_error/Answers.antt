-- A type ends the section before it.
use Rattle.block_lines.proofs.ToldLemmas.{memory_type_ends, other_type_ends}
use Rattle.block_lines.proofs.told_laws.lost_lines_take_no_error.Goals as goal

pub returns-clause-memory : goal.returns-clause-memory
returns-clause-memory c = memory_type_ends

pub returns-clause-other : goal.returns-clause-other
returns-clause-other c = other_type_ends
