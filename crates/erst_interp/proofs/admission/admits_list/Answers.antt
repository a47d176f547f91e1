use Rattle.std.proofs.Common.{◌≤◌, ◌∙◌, length, sym, arith}
use Rattle.erst_interp.specs.Machine.{most_turns}
use Rattle.erst_interp.proofs.WalkLemmas.{walk-admits, admitted-walk}
use Rattle.erst_interp.proofs.admission.admits_list.Goals as goal

pub returns-then-list : goal.returns-then-list
returns-then-list c =
    let short : length c.args.list.now ≤ most_turns = omega (arith, c.if-list.true) in
    (λ yes. walk-admits c.args.action c.args.list.now short (sym c.walks.ensures ∙ yes), λ is. c.walks.ensures ∙ admitted-walk c.args.action c.args.list.now is)
