use Rattle.host_system.specs.Steps.LawLemmas.{told_left, text_left, store_left, earlier_left, may_begin}
use Rattle.host_system.proofs.laws.system_laws.Goals as goal

pub returns-clause-told : goal.returns-clause-told
returns-clause-told c = λ past t is. told_left past t is

pub returns-clause-text : goal.returns-clause-text
returns-clause-text c = λ past t left is now. text_left past t left is now

pub returns-clause-store : goal.returns-clause-store
returns-clause-store c = λ past left is now. store_left past left is now

pub returns-clause-earlier : goal.returns-clause-earlier
returns-clause-earlier c = λ past s t left within may. earlier_left past s t left within may

pub returns-clause-begins : goal.returns-clause-begins
returns-clause-begins c = λ start bytes. may_begin start bytes
