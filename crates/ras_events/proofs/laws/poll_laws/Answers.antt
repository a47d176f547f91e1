use Rattle.ras_events.proofs.PollLemmas.{panic_polled}
use Rattle.ras_events.proofs.laws.poll_laws.Goals as goal

pub returns : goal.returns
returns c = record { panic = panic_polled }
