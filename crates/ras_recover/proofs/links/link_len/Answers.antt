use Rattle.ras_recover.proofs.ReadingLemmas.{no_damage}
use Rattle.ras_recover.proofs.links.link_len.Goals as goal

pub returns-in-Err-payload_count_at-clause-none : goal.returns-in-Err-payload_count_at-clause-none
returns-in-Err-payload_count_at-clause-none c = λ none count opened counted. no_damage c.in-Err-payload_count_at.field-0 _ count c.in-Err-payload_count_at.ensures.read counted

pub returns-in-Err-clause-none : goal.returns-in-Err-clause-none
returns-in-Err-clause-none c = λ none count opened counted. no_damage c.in-Err.field-0 _ _ c.in-Err.ensures.read opened
