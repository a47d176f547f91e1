use Rattle.ras_events.proofs.CountLemmas.{events_count, first_held}
use Rattle.ras_events.proofs.done_lines.done_lines_count_events.Goals as goal

pub returns-clause-whole : goal.returns-clause-whole
returns-clause-whole c = events_count

pub returns-clause-begun : goal.returns-clause-begun
returns-clause-begun c = first_held
