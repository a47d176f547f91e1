use Rattle.std.proofs.Common.{arith}
use Rattle.log_lines.specs.LogWithDimms.{log_dimms_begun}
use Rattle.log_lines.specs.TraceFeed.{trace_begun}
use Rattle.log_lines.proofs.SayingLemmas.{log_changes, trace_changes}
use Rattle.log_lines.proofs.dimm_laws.dimms_change_no_error.Goals as goal

pub returns-clause-trace : goal.returns-clause-trace
returns-clause-trace c = λ boot cap began drivers inputs cut few. trace_changes (trace_begun boot cap began drivers) inputs cut (omega (arith, few))

pub returns-clause-log : goal.returns-clause-log
returns-clause-log c = λ boot cap began borders inputs cut few. log_changes (log_dimms_begun boot cap began borders) inputs cut (omega (arith, few))
