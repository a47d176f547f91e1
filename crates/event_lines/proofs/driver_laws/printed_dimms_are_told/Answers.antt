use Rattle.event_lines.proofs.LineLemmas.{dimm_read}
use Rattle.event_lines.proofs.driver_laws.printed_dimms_are_told.Goals as goal

pub returns : goal.returns
returns c = λ tracer front seconds micros spaces more p is within plain. dimm_read tracer front seconds micros spaces more p is within plain
