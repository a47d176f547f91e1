use Rattle.event_lines.proofs.LineLemmas.{driver_read}
use Rattle.event_lines.proofs.driver_laws.driver_events_are_read.Goals as goal

pub returns : goal.returns
returns c = λ tracer front seconds micros spaces more p is within. driver_read tracer front seconds micros spaces more p is within
