use Rattle.ras_journal.proofs.AppendLemmas.{append_ends, append_leaves}
use Rattle.ras_journal.proofs.laws.append_laws.Goals as goal

pub returns-clause-moments : goal.returns-clause-moments
returns-clause-moments c = append_leaves

pub returns-clause-done : goal.returns-clause-done
returns-clause-done c = append_ends
