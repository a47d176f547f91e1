use Rattle.bank_lines.proofs.LogHeadLemmas.{place_is}
use Rattle.bank_lines.proofs.log_heads.mark_place.Goals as goal

pub returns-clause-place : goal.returns-clause-place
returns-clause-place c = place_is c.args.text.now c.args.within.now c.requires c.place_by.result c.place_by.ensures
