use Rattle.log_lines.specs.DimmLaws.{said_in_log, said_in_trace}
use Rattle.log_lines.proofs.DimmRangeLemmas.{few_ranges, ranges_apart}
use Rattle.log_lines.proofs.dimm_laws.ranges_are_few.Goals as goal

pub returns-clause-trace : goal.returns-clause-trace
returns-clause-trace c = λ boot cap began drivers inputs. ranges_apart (said_in_trace boot cap began drivers inputs)

pub returns-clause-trace_count : goal.returns-clause-trace_count
returns-clause-trace_count c = λ boot cap began drivers inputs. few_ranges (said_in_trace boot cap began drivers inputs)

pub returns-clause-log : goal.returns-clause-log
returns-clause-log c = λ boot cap began borders inputs. ranges_apart (said_in_log boot cap began borders inputs)

pub returns-clause-log_count : goal.returns-clause-log_count
returns-clause-log_count c = λ boot cap began borders inputs. few_ranges (said_in_log boot cap began borders inputs)
