use Rattle.log_lines.specs.LogWithDimms.{log_dimms_begun}
use Rattle.log_lines.specs.TraceFeed.{trace_begun}
use Rattle.log_lines.proofs.SayingLemmas.{log_end_unchanged, log_unchanged, trace_end_unchanged, trace_unchanged}
use Rattle.log_lines.proofs.dimm_laws.without_slots_nothing_changes.Goals as goal

pub returns-clause-trace : goal.returns-clause-trace
returns-clause-trace c = λ boot cap began drivers inputs none. trace_unchanged (trace_begun boot cap began drivers) inputs none

pub returns-clause-trace_end : goal.returns-clause-trace_end
returns-clause-trace_end c = λ boot cap began drivers inputs cut none. trace_end_unchanged (trace_begun boot cap began drivers) inputs cut none

pub returns-clause-log : goal.returns-clause-log
returns-clause-log c = λ boot cap began borders inputs none. log_unchanged (log_dimms_begun boot cap began borders) inputs none

pub returns-clause-log_end : goal.returns-clause-log_end
returns-clause-log_end c = λ boot cap began borders inputs cut none. log_end_unchanged (log_dimms_begun boot cap began borders) inputs cut none
