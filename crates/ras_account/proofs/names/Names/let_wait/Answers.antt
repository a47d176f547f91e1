use Rattle.std.proofs.Common.{◌≡◌, not, subst, IfOk}
use Rattle.std.specs.List.{list_any}
use Rattle.ras_facts.specs.Steps.NameLemmas.{eq-same_name}
use Rattle.ras_account.specs.Steps.Parts.{all_names}
use Rattle.ras_account.proofs.names.Names.let_wait.Goals as goal

pub returns-clause-fresh : goal.returns-clause-fresh
returns-clause-fresh c =
    subst (λ b. IfOk c.let_wait.result (λ fresh. fresh ≡ not b))
    (λ i. list_any (eq-same_name i c.args.name) (all_names (c.self.view_is i)))
    c.let_wait.ensures.fresh
