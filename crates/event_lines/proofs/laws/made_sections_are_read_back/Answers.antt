use Rattle.event_lines.proofs.SectionLemmas.{entry_told, event_block_is, line_asks, names_apart, pcie_is}
use Rattle.event_lines.proofs.laws.made_sections_are_read_back.Goals as goal

pub returns-clause-section : goal.returns-clause-section
returns-clause-section c = λ event within. pcie_is event within

pub returns-clause-entry : goal.returns-clause-entry
returns-clause-entry c = λ event. entry_told event

pub returns-clause-block : goal.returns-clause-block
returns-clause-block c = λ event. event_block_is event

pub returns-clause-line : goal.returns-clause-line
returns-clause-line c = λ boot began found boots begins stamps within. line_asks boot began found boots begins stamps within

pub returns-clause-names : goal.returns-clause-names
returns-clause-names c = λ boot one other apart. names_apart boot one other apart
