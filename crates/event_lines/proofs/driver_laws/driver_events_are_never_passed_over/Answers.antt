use Rattle.event_lines.proofs.NameLemmas.{any_names_say_nothing, driver_passed, still_same, still_there}
use Rattle.event_lines.proofs.driver_laws.driver_events_are_never_passed_over.Goals as goal

pub returns-clause-named : goal.returns-clause-named
returns-clause-named c = λ tracer front text seconds micros spaces most low. driver_passed tracer front text seconds micros spaces most low

pub returns-clause-others : goal.returns-clause-others
returns-clause-others c = λ drivers line there. still_there drivers line there

pub returns-clause-same : goal.returns-clause-same
returns-clause-same c = λ drivers line there read. still_same drivers line there read

pub returns-clause-names : goal.returns-clause-names
returns-clause-names c = λ drivers name other rest long other_long digit. any_names_say_nothing drivers name other rest long other_long digit
