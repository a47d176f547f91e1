use Rattle.std.proofs.Common.{◌+◌, ◌≤◌, ◌<◌, ◌^◌, sym, ap, subst, arith}
use Rattle.ras_account.specs.declared.limits.TheConstants.{MOST_ENTRIES}
use Rattle.ras_account.specs.Account.{State}
use Rattle.ras_account.specs.Accounts.{IsAccount}
use Rattle.ras_account.specs.View.{View}
use Rattle.ras_account.proofs.SoundLemmas.{retired-sound}
use Rattle.ras_account.proofs.StateLemmas.{of_parts}
use Rattle.ras_account.proofs.account.Account.retire.Goals as goal

pub invariant_of-self : goal.invariant_of-self
invariant_of-self c =
    let before : State = of_parts c.self.inside.names.held c.self.inside.in_force.floor c.self.inside.in_force.limit c.self.inside.in_force.module_limit c.self.inside.entries c.self.inside.total c.self.inside.modules.rows c.self.inside.pages.rows in
    let valid : c.args.boot < 2 ^ 64 = omega arith in
    let room : c.self.inside.entries + 1 ≤ MOST_ENTRIES = omega (arith, ap (λ (v : View). v.state.entries) c.self.view_is) in
    subst (λ names. IsAccount (record before { names = names; floor = c.args.boot; entries = c.self.inside.entries + 1 })) (sym c.retire.ensures.held)
    (retired-sound before c.args.boot (c.self.inside.entries + 1) c.self.invariant valid room)
