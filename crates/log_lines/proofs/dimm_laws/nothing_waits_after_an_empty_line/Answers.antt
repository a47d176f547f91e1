use Rattle.log_lines.specs.LogWithDimms.{log_saying}
use Rattle.log_lines.specs.TraceWithDimms.{trace_saying}
use Rattle.log_lines.proofs.DimmTextLemmas.{held_after}
use Rattle.log_lines.proofs.SayingLemmas.{log_released, trace_released}
use Rattle.log_lines.proofs.dimm_laws.nothing_waits_after_an_empty_line.Goals as goal

pub returns-clause-trace : goal.returns-clause-trace
returns-clause-trace c = λ state few. trace_released state few

pub returns-clause-trace_keeps : goal.returns-clause-trace_keeps
returns-clause-trace_keeps c = λ state input few. held_after state.dimms (trace_saying state.feed input) few

pub returns-clause-log : goal.returns-clause-log
returns-clause-log c = λ state few. log_released state few

pub returns-clause-log_keeps : goal.returns-clause-log_keeps
returns-clause-log_keeps c = λ state input few. held_after state.dimms (log_saying state input) few
