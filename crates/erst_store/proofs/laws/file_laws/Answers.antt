use Rattle.erst_store.proofs.FileLemmas.{lacks_under}
use Rattle.erst_store.proofs.ReadingLemmas.{file_again, store_at-kept}
use Rattle.erst_store.proofs.laws.file_laws.Goals as goal

pub returns-clause-again : goal.returns-clause-again
returns-clause-again c = λ records kept. file_again records kept

pub returns-clause-store : goal.returns-clause-store
returns-clause-store c = λ bytes fits. store_at-kept bytes fits

pub returns-clause-less : goal.returns-clause-less
returns-clause-less c = λ id bytes records kept is. lacks_under id bytes records kept is
