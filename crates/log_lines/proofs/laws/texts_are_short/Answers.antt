use Rattle.std.proofs.Common.{arith}
use Rattle.log_lines.specs.LogFeed.{log_start}
use Rattle.log_lines.specs.LogWithDimms.{log_dimms_begun}
use Rattle.log_lines.specs.TraceFeed.{trace_begun}
use Rattle.log_lines.proofs.LawLemmas.{log_short, trace_short}
use Rattle.log_lines.proofs.SayingLemmas.{log_dimms_short, trace_dimms_short}
use Rattle.log_lines.proofs.laws.texts_are_short.Goals as goal

pub returns-clause-trace : goal.returns-clause-trace
returns-clause-trace c = λ boot cap began drivers inputs few. trace_short (trace_begun boot cap began drivers) inputs (omega (arith, few))

pub returns-clause-log : goal.returns-clause-log
returns-clause-log c = λ boot cap began borders inputs few. log_short (log_start boot cap began borders) inputs (omega (arith, few))

pub returns-clause-trace_dimms : goal.returns-clause-trace_dimms
returns-clause-trace_dimms c = λ boot cap began drivers inputs few. trace_dimms_short (trace_begun boot cap began drivers) inputs (omega (arith, few))

pub returns-clause-log_dimms : goal.returns-clause-log_dimms
returns-clause-log_dimms c = λ boot cap began borders inputs few. log_dimms_short (log_dimms_begun boot cap began borders) inputs (omega (arith, few))
