use Rattle.ras_records.proofs.ClearingLemmas.{calls_keep}
use Rattle.ras_records.proofs.laws.device_calls_change_the_store_alone.Goals as goal

pub returns : goal.returns
returns c = calls_keep
