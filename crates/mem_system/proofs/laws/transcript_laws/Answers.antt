use Rattle.mem_system.proofs.TranscriptLemmas.{transcript_met}
use Rattle.mem_system.proofs.laws.transcript_laws.Goals as goal

pub returns : goal.returns
returns c = record { met = transcript_met }
