use Rattle.bank_lines.proofs.PrintedLogLemmas.{both_read, edac_read, plain_read}
use Rattle.bank_lines.proofs.log_kernel_laws.printed_logs_are_read.Goals as goal

pub returns : goal.returns
returns c = record {
  plain = λ boot cap heads exception p printed are. plain_read boot cap p printed exception heads are;
  edac = λ boot cap heads driver controller exception p printed few are. edac_read boot cap p printed exception driver controller few heads are;
  both = λ boot cap heads others driver controller exception p printed few are other. both_read boot cap p printed exception driver controller few heads are others other;
}
