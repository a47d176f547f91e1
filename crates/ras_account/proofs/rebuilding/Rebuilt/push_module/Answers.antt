use Rattle.ras_account.specs.Account.{State}
use Rattle.ras_account.proofs.StateLemmas.{of_parts}
use Rattle.ras_account.proofs.PushLemmas.{taken-new, module-taken}
use Rattle.ras_account.proofs.rebuilding.Rebuilt.push_module.Goals as goal

pub invariant_of-self-inside-in-Some : goal.invariant_of-self-inside-in-Some
invariant_of-self-inside-in-Some c =
    let a = c.self-inside.inside.0.0 in
    let before : State = of_parts a.names.held a.in_force.floor a.in_force.limit a.in_force.module_limit a.entries a.total a.modules.rows a.pages.rows in
    module-taken before c.push.new.self.rows c.in-Some.total c.args.row c.self-inside.invariant c.tell_valid_row.ensures.label c.tell_valid_row.ensures.ten c.requires.count
    c.tell_valid_row.ensures.stamp c.requires.unlabeled c.requires.replace (taken-new c.in_ok-push.field-0 _ c.in_ok-push.ensures.repeated) c.in-Some.ensures.some c.in-Some.ensures.within c.in_ok-push.ensures.ok
