use Rattle.log_lines.specs.LogFeed.{log_over, log_start}
use Rattle.log_lines.specs.TraceFeed.{trace_begun, trace_over}
use Rattle.log_lines.proofs.WholeLemmas.{log_end_whole, log_whole, trace_end_whole, trace_whole}
use Rattle.log_lines.proofs.laws.texts_are_whole.Goals as goal

pub returns-clause-trace : goal.returns-clause-trace
returns-clause-trace c = λ boot cap began drivers inputs. trace_whole (trace_begun boot cap began drivers) inputs

pub returns-clause-trace_end : goal.returns-clause-trace_end
returns-clause-trace_end c = λ boot cap began drivers inputs cut. trace_end_whole (trace_over (trace_begun boot cap began drivers) inputs) cut

pub returns-clause-log : goal.returns-clause-log
returns-clause-log c = λ boot cap began borders inputs. log_whole (log_start boot cap began borders) inputs

pub returns-clause-log_end : goal.returns-clause-log_end
returns-clause-log_end c = λ boot cap began borders inputs cut. log_end_whole (log_over (log_start boot cap began borders) inputs) cut
