use Rattle.block_lines.proofs.ReadBackLemmas.{section_is, severity_is}
use Rattle.event_lines.proofs.MemoryBlockLemmas.{memory_block_is, memory_line_asks, memory_names_apart}
use Rattle.event_lines.proofs.laws.made_memory_blocks_are_read_back.Goals as goal

pub returns-clause-block : goal.returns-clause-block
returns-clause-block c = λ error is. memory_block_is error is

pub returns-clause-entry : goal.returns-clause-entry
returns-clause-entry c = λ error is. (severity_is error is, section_is error is)

pub returns-clause-line : goal.returns-clause-line
returns-clause-line c = λ boot began found boots begins stamps is. memory_line_asks boot began found boots begins stamps is

pub returns-clause-names : goal.returns-clause-names
returns-clause-names c = λ boot one other apart. memory_names_apart boot one other apart
