-- By the words of each text.
use Rattle.block_lines.proofs.KernelLemmas.{errors_all_read, event_read, line_is_own, start_read}
use Rattle.block_lines.proofs.kernel_laws.printed_texts_are_read.Goals as goal

pub returns-clause-line : goal.returns-clause-line
returns-clause-line c = line_is_own

pub returns-clause-start : goal.returns-clause-start
returns-clause-start c = start_read

pub returns-clause-event : goal.returns-clause-event
returns-clause-event c = event_read

pub returns-clause-errors : goal.returns-clause-errors
returns-clause-errors c = errors_all_read
