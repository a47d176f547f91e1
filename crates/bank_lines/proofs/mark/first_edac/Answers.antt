use Rattle.std.proofs.Common.{None, subst}
use Rattle.std.proofs.lemmas.Bool.{both_ways}
use Rattle.bank_lines.specs.Steps.Marks.{FirstBelow}
use Rattle.bank_lines.proofs.EdacMarkLemmas.{first_round}
use Rattle.bank_lines.proofs.mark.first_edac.Goals as goal

pub returns-else-stands_round : goal.returns-else-stands_round
returns-else-stands_round c =
    first_round c.args.line.now c.args.place None (subst (FirstBelow c.args.line.now c.args.place) c.in-None.is c.requires.first)
    (λ both. both_ways _ c.if-stands_round.false (c.stands_round.ensures.1 both))
