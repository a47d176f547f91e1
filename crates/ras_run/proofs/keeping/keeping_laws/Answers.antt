use Rattle.ras_run.proofs.KeepingLemmas.{is_keeping, keeping_ends, keeping_few, keeping_few_done, keeping_leaves}
use Rattle.ras_run.proofs.keeping.keeping_laws.Goals as goal

pub returns-clause-moments : goal.returns-clause-moments
returns-clause-moments c = λ standing account entries link t left keep moment. keeping_leaves standing account entries link t left keep.can keep.room keep.links keep.at moment

pub returns-clause-done : goal.returns-clause-done
returns-clause-done c = λ standing account entries link t keep. keeping_ends standing account entries link t keep.can keep.room keep.links keep.at

pub returns-clause-few : goal.returns-clause-few
returns-clause-few c = λ standing account entries link t left keep few moment. keeping_few standing account entries link t keep.can keep.room keep.links keep.at few left moment

pub returns-clause-few_done : goal.returns-clause-few_done
returns-clause-few_done c = λ standing account entries link t keep few. keeping_few_done standing account entries link t keep.can keep.room keep.links keep.at few

pub returns-clause-calls : goal.returns-clause-calls
returns-clause-calls c = is_keeping
