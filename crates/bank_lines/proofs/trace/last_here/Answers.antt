use Rattle.std.proofs.lemmas.Bool.{both_ways}
use Rattle.bank_lines.proofs.NameLemmas.{last_round}
use Rattle.bank_lines.proofs.trace.last_here.Goals as goal

pub returns-else-stands_round : goal.returns-else-stands_round
returns-else-stands_round c =
    last_round c.args.line.now c.args.place c.args.before c.requires.last
    (λ both. both_ways _ c.if-stands_round.false (c.stands_round.ensures.1 both))
