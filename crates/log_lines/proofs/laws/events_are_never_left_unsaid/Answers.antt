use Rattle.log_lines.proofs.LawLemmas.{any_is_said, event_is_said, gap_is_said}
use Rattle.log_lines.proofs.laws.events_are_never_left_unsaid.Goals as goal

pub returns-clause-event : goal.returns-clause-event
returns-clause-event c = λ state bytes some. event_is_said state bytes some

pub returns-clause-driver : goal.returns-clause-driver
returns-clause-driver c = λ state bytes some. any_is_said state bytes some

pub returns-clause-gap : goal.returns-clause-gap
returns-clause-gap c = λ state bytes gap. gap_is_said state bytes gap
