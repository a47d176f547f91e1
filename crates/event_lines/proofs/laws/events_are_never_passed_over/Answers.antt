use Rattle.event_lines.proofs.NameLemmas.{firmware_passed, kind_passed, names_say_nothing}
use Rattle.event_lines.proofs.laws.events_are_never_passed_over.Goals as goal

pub returns-clause-named : goal.returns-clause-named
returns-clause-named c = λ kind tracer front text seconds micros spaces most low. kind_passed kind tracer front text seconds micros spaces most low

pub returns-clause-memory : goal.returns-clause-memory
returns-clause-memory c = λ tracer front told inside seconds micros spaces most low none marked.
    firmware_passed tracer front told inside seconds micros spaces most low none marked

pub returns-clause-names : goal.returns-clause-names
returns-clause-names c = λ name other rest long other_long digit. names_say_nothing name other rest long other_long digit
