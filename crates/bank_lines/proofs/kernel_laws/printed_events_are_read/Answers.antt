use Rattle.bank_lines.proofs.KernelLawLemmas.{event_read}
use Rattle.bank_lines.proofs.KernelMarkLemmas.{line_read}
use Rattle.bank_lines.proofs.kernel_laws.printed_events_are_read.Goals as goal

pub returns : goal.returns
returns c = record {
  text = λ form p spaces within. event_read form p spaces within;
  line = λ boot before form p spaces within traced. line_read boot before form p spaces within traced;
}
