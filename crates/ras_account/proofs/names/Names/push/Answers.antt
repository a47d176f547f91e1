use Rattle.std.proofs.Common.{◌∙◌, sym, ap, Err}
use Rattle.std.specs.List.{list_any}
use Rattle.ras_facts.specs.Steps.NameLemmas.{eq-same_name}
use Rattle.ras_account.proofs.names.Names.push.Goals as goal
use Rattle.ras_account.proofs.names.Names.push.Goals.{then-holds, else-holds}

pub returns-in-Err-clause-repeated : goal.returns-in-Err-clause-repeated
returns-in-Err-clause-repeated c =
    elim c.if-holds.branch [
      | then-holds w ↦ (λ is. sym (λ i. list_any (eq-same_name i c.args.name) (c.self.view_is i).held) ∙ (sym c.holds.ensures ∙ w.if-holds.true), λ among. ap Err w.result-is)
      | else-holds w ↦
          let kind = w.result-is in
          let held = sym c.holds.ensures ∙ w.if-holds.false in
          (λ is. absurd cc, λ among. let there = (λ i. list_any (eq-same_name i c.args.name) (c.self.view_is i).held) ∙ among in absurd cc)
    ]

pub returns-then-is_ok-clause-repeated : goal.returns-then-is_ok-clause-repeated
returns-then-is_ok-clause-repeated c = (
  λ is. sym (λ i. list_any (eq-same_name i c.args.name) (c.self.view_is i).held) ∙ c.push_row-pushed.ensures.repeated.0 is,
  λ held. c.push_row-pushed.ensures.repeated.1 ((λ i. list_any (eq-same_name i c.args.name) (c.self.view_is i).held) ∙ held),
)

pub returns-else-is_ok-clause-repeated : goal.returns-else-is_ok-clause-repeated
returns-else-is_ok-clause-repeated c = (
  λ is. sym (λ i. list_any (eq-same_name i c.args.name) (c.self.view_is i).held) ∙ c.push_row-pushed.ensures.repeated.0 is,
  λ held. c.push_row-pushed.ensures.repeated.1 ((λ i. list_any (eq-same_name i c.args.name) (c.self.view_is i).held) ∙ held),
)
