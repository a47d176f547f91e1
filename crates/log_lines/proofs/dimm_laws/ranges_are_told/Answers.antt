use Rattle.log_lines.specs.DimmLaws.{said_in_log, said_in_trace}
use Rattle.log_lines.proofs.DimmRangeLemmas.{ranges_told}
use Rattle.log_lines.proofs.dimm_laws.ranges_are_told.Goals as goal

pub returns-clause-trace : goal.returns-clause-trace
returns-clause-trace c = λ boot cap began drivers inputs. ranges_told (said_in_trace boot cap began drivers inputs)

pub returns-clause-log : goal.returns-clause-log
returns-clause-log c = λ boot cap began borders inputs. ranges_told (said_in_log boot cap began borders inputs)
