-- Each number that is read is in the table's or block's own bytes.
use Rattle.apei_sources.proofs.OwnLemmas.{same_hest, same_bert, same_block, silent_block}
use Rattle.apei_sources.proofs.laws.only_own_bytes.Goals as goal

pub returns-clause-hest : goal.returns-clause-hest
returns-clause-hest c = same_hest

pub returns-clause-bert : goal.returns-clause-bert
returns-clause-bert c = same_bert

pub returns-clause-block : goal.returns-clause-block
returns-clause-block c = same_block

pub returns-clause-silent : goal.returns-clause-silent
returns-clause-silent c = silent_block
