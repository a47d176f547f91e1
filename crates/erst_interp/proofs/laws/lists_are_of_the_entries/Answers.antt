use Rattle.erst_interp.proofs.ListLemmas.{list_of-lists_of}
use Rattle.erst_interp.proofs.laws.lists_are_of_the_entries.Goals as goal

pub returns : goal.returns
returns c = λ action entries small. list_of-lists_of action entries small
