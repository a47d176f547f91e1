use Rattle.std.proofs.Common.{◌≡◌, sym, ap, subst, ◌∙◌}
use Rattle.ras_account.specs.Account.{State}
use Rattle.ras_account.specs.Continued.{account_after_mark}
use Rattle.ras_account.specs.Accounts.{IsAccount}
use Rattle.ras_account.specs.View.{View}
use Rattle.ras_account.proofs.AccountLemmas.{account_of-mark}
use Rattle.ras_account.proofs.SoundLemmas.{marked-sound}
use Rattle.ras_account.proofs.StateLemmas.{of_parts}
use Rattle.ras_account.proofs.account.Account.mark.Goals as goal

pub invariant_of-self : goal.invariant_of-self
invariant_of-self c =
    let before : State = of_parts c.self.inside.names.held c.self.inside.in_force.floor c.self.inside.in_force.limit c.self.inside.in_force.module_limit c.self.inside.entries c.self.inside.total c.self.inside.modules.rows c.self.inside.pages.rows in
    subst (λ rows. IsAccount (record before { modules = rows })) (sym c.mark.ensures.rows) (marked-sound before c.self.invariant)

pub returns-clause-history : goal.returns-clause-history
returns-clause-history c = λ history is.
    let before : State = of_parts c.self.inside.names.held c.self.inside.in_force.floor c.self.inside.in_force.limit c.self.inside.in_force.module_limit c.self.inside.entries c.self.inside.total c.self.inside.modules.rows c.self.inside.pages.rows in
    let same : before ≡ c.args.self.now.state = ap (λ (v : View). v.state) c.self.view_is in
    ap (λ rows. record before { modules = rows }) c.mark.ensures.rows ∙ ap account_after_mark (same ∙ is) ∙ sym (account_of-mark history)
