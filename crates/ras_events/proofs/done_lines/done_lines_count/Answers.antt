use Rattle.ras_events.proofs.DoneLemmas.{quiet_count, none_done, done_counts, done_begun, event_begun, joined_count, front_count}
use Rattle.ras_events.proofs.done_lines.done_lines_count.Goals as goal

pub returns-clause-quiet : goal.returns-clause-quiet
returns-clause-quiet c = quiet_count

pub returns-clause-none : goal.returns-clause-none
returns-clause-none c = none_done

pub returns-clause-done : goal.returns-clause-done
returns-clause-done c = done_counts

pub returns-clause-begun : goal.returns-clause-begun
returns-clause-begun c = done_begun

pub returns-clause-event : goal.returns-clause-event
returns-clause-event c = event_begun

pub returns-clause-joined : goal.returns-clause-joined
returns-clause-joined c = joined_count

pub returns-clause-front : goal.returns-clause-front
returns-clause-front c = front_count
