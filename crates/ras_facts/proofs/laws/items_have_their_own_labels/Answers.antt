use Rattle.ras_facts.proofs.LabelLemmas.{record_labels, block_labels}
use Rattle.ras_facts.proofs.laws.items_have_their_own_labels.Goals as goal

pub returns-clause-record : goal.returns-clause-record
returns-clause-record c = λ rows seconds own. record_labels rows seconds own

pub returns-clause-block : goal.returns-clause-block
returns-clause-block c = λ rows name seconds block. block_labels rows name seconds block
