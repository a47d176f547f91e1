use Rattle.log_lines.specs.LogWithDimms.{log_dimms_begun}
use Rattle.log_lines.specs.TraceFeed.{trace_begun}
use Rattle.log_lines.proofs.SayingLemmas.{log_dimms_end_whole, log_dimms_whole, trace_dimms_end_whole, trace_dimms_whole}
use Rattle.log_lines.proofs.laws.texts_with_dimms_are_whole.Goals as goal

pub returns-clause-trace : goal.returns-clause-trace
returns-clause-trace c = λ boot cap began drivers inputs. trace_dimms_whole (trace_begun boot cap began drivers) inputs

pub returns-clause-trace_end : goal.returns-clause-trace_end
returns-clause-trace_end c = λ boot cap began drivers inputs cut. trace_dimms_end_whole (trace_begun boot cap began drivers) inputs cut

pub returns-clause-log : goal.returns-clause-log
returns-clause-log c = λ boot cap began borders inputs. log_dimms_whole (log_dimms_begun boot cap began borders) inputs

pub returns-clause-log_end : goal.returns-clause-log_end
returns-clause-log_end c = λ boot cap began borders inputs cut. log_dimms_end_whole (log_dimms_begun boot cap began borders) inputs cut
