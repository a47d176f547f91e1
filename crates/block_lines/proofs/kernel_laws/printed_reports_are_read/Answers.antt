-- Line by line.
use Rattle.block_lines.proofs.PrintedLemmas.{report_is_read}
use Rattle.block_lines.proofs.kernel_laws.printed_reports_are_read.Goals as goal

pub returns : goal.returns
returns c = record { report = report_is_read }
