use Rattle.event_lines.proofs.MemoryLemmas.{cut_event, other_driver}
use Rattle.event_lines.proofs.laws.other_controller_events_are_no_errors.Goals as goal

pub returns-clause-driver : goal.returns-clause-driver
returns-clause-driver c = λ stamp front controller none other. other_driver stamp front controller none other

pub returns-clause-cut : goal.returns-clause-cut
returns-clause-cut c = λ stamp text is. cut_event stamp text is
