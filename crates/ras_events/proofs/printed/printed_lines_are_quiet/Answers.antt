use Rattle.ras_events.proofs.EventLemmas.{event_quiet}
use Rattle.ras_events.proofs.WholeLineLemmas.{standing_quiet, end_quiet}
use Rattle.ras_events.proofs.printed.printed_lines_are_quiet.Goals as goal

pub returns-clause-event : goal.returns-clause-event
returns-clause-event c = event_quiet

pub returns-clause-standing : goal.returns-clause-standing
returns-clause-standing c = standing_quiet

pub returns-clause-end : goal.returns-clause-end
returns-clause-end c = end_quiet
