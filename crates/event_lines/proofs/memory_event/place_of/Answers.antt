use Rattle.bank_lines.proofs.LogHeadLemmas.{place_is}
use Rattle.event_lines.proofs.memory_event.place_of.Goals as goal

pub returns-clause-place : goal.returns-clause-place
returns-clause-place c = place_is c.args.text.now c.args.within.now c.requires c.find.result c.find.ensures
