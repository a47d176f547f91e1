use Rattle.ras_account.proofs.SoundLemmas.{empty-sound, continued-sound, marked-sound}
use Rattle.ras_account.proofs.LawLemmas.{entries-sound, rebuilt-same}
use Rattle.ras_account.proofs.laws.kept_laws.Goals as goal

pub returns-clause-empty : goal.returns-clause-empty
returns-clause-empty c = empty-sound

pub returns-clause-entry : goal.returns-clause-entry
returns-clause-entry c = continued-sound

pub returns-clause-entries : goal.returns-clause-entries
returns-clause-entries c = entries-sound

pub returns-clause-mark : goal.returns-clause-mark
returns-clause-mark c = marked-sound

pub returns-clause-rows : goal.returns-clause-rows
returns-clause-rows c = rebuilt-same
