use Rattle.std.proofs.Common.{◌≡◌, ◌<◌, false, length, ap, ◌∙◌, arith}
use Rattle.std.proofs.lemmas.Bool.Decides.{nat_tests}
use Rattle.ras_account.specs.declared.limits.TheConstants.{MOST_NAMES}
use Rattle.ras_account.specs.declared.rebuilding.Rebuilt.TheInside.{Inside}
use Rattle.ras_account.specs.History.{is_retired}
use Rattle.ras_account.specs.Account.{State}
use Rattle.ras_account.proofs.StateLemmas.{of_parts}
use Rattle.ras_account.proofs.PushLemmas.{name-taken}
use Rattle.ras_account.proofs.rebuilding.Rebuilt.push_name.Goals as goal

pub invariant_of-self-inside : goal.invariant_of-self-inside
invariant_of-self-inside c =
    let a = c.self-inside.inside.0.0 in
    let before : State = of_parts a.names.held a.in_force.floor a.in_force.limit a.in_force.module_limit a.entries a.total a.modules.rows a.pages.rows in
    let kept : is_retired before.floor c.args.name ≡ false =
    ap (λ (r : Inside). is_retired r.account.state.floor c.args.name) c.self-inside.view_is
    ∙ ap (λ (s : State). is_retired s.floor c.args.name) c.self.view_is ∙ c.requires in
    let room : length before.names < MOST_NAMES = grind (arith, nat_tests) in
    name-taken before c.push.new.self.held c.args.name c.push.result c.self-inside.invariant c.tell_valid_name.ensures kept room c.push.ensures.ok c.push.ensures.err c.push.ensures.repeated
