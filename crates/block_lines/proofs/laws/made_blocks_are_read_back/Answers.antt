-- By the bytes of an entry and of a block.
use Rattle.block_lines.proofs.ReadBackLemmas.{block_is, section_is, severity_is}
use Rattle.block_lines.proofs.laws.made_blocks_are_read_back.Goals as goal

pub returns-clause-block : goal.returns-clause-block
returns-clause-block c = λ severity errors all some few. block_is severity errors all some few

pub returns-clause-severity : goal.returns-clause-severity
returns-clause-severity c = λ error h. severity_is error h

pub returns-clause-section : goal.returns-clause-section
returns-clause-section c = λ error h. section_is error h
