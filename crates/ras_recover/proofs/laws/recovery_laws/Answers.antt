use Rattle.ras_recover.proofs.OpeningCallsLemmas.{recovery_reads}
use Rattle.ras_recover.proofs.laws.recovery_laws.Goals as goal

pub returns : goal.returns
returns c = record { reads = recovery_reads }
