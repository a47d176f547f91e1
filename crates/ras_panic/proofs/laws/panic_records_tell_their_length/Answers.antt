use Rattle.ras_panic.proofs.RecordLemmas.{has_length, tells_length}
use Rattle.ras_panic.proofs.laws.panic_records_tell_their_length.Goals as goal

pub returns-clause-length : goal.returns-clause-length
returns-clause-length c = has_length

pub returns-clause-told : goal.returns-clause-told
returns-clause-told c = tells_length
