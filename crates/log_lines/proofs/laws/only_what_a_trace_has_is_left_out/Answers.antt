use Rattle.log_lines.proofs.BorderLemmas.{check_left, nothing_left, report_left}
use Rattle.log_lines.proofs.laws.only_what_a_trace_has_is_left_out.Goals as goal

pub returns-clause-none : goal.returns-clause-none
returns-clause-none c = λ state bytes none. nothing_left state bytes none

pub returns-clause-check : goal.returns-clause-check
returns-clause-check c = λ border number bytes found left. check_left border number bytes found left

pub returns-clause-report : goal.returns-clause-report
returns-clause-report c = λ border r number line left. report_left border r number line left
