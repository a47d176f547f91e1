use Rattle.std.proofs.Common.{ap, ◌∙◌}
use Rattle.erst_store.specs.Actions.{execute_operation}
use Rattle.erst_store.specs.Device.{Device, act, after_command, busy_device}
use Rattle.erst_store.proofs.device.Dev.execute.Goals as goal

pub returns-clause-ok : goal.returns-clause-ok
unfolding act
returns-clause-ok c =
    c.end_command.ensures
    ∙ ap (λ (d : Device). record (busy_device d) { action = execute_operation })
    (c.in_ok-status.ensures.ok ∙ ap (λ (d : Device). after_command d.command c.args.self.now) c.self.view_is)
