use Rattle.std.proofs.Common.{◌≡◌, ◌+◌, ◌++◌, take, sym, ap, subst, ◌∙◌}
use Rattle.ras_account.specs.Account.{State}
use Rattle.ras_account.specs.Accounts.{IsAccount}
use Rattle.ras_account.specs.View.{View}
use Rattle.ras_account.proofs.StateLemmas.{of_parts, named-sound}
use Rattle.ras_account.proofs.account.Account.count_name.Goals as goal

pub invariant_of-self : goal.invariant_of-self
invariant_of-self c =
    let before : State = of_parts c.self.inside.names.held c.self.inside.in_force.floor c.self.inside.in_force.limit c.self.inside.in_force.module_limit c.self.inside.entries c.self.inside.total c.self.inside.modules.rows c.self.inside.pages.rows in
    let waits : c.self.inside.names.waiting ≡ c.args.self.now.waiting.names = ap (λ (v : View). v.waiting.names) c.self.view_is in
    subst (λ names. IsAccount (record before { names = names; entries = c.self.inside.entries + 1 }))
    (ap (λ ns. c.self.inside.names.held ++ take 1 ns) (sym waits) ∙ sym c.count_next.ensures.held)
    (named-sound before c.args.self.now (ap (λ (v : View). v.state) c.self.view_is) c.self.invariant c.requires)
