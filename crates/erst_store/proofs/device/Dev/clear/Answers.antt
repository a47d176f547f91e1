use Rattle.std.proofs.Common.{◌∙◌, ap, arith, sym, subst}
use Rattle.erst_store.specs.Actions.{execute_operation}
use Rattle.erst_store.specs.Device.{Device, act, after_command, busy_device}
use Rattle.erst_store.specs.DeviceLaws.{IsDevice}
use Rattle.erst_store.specs.Steps.KeptLemmas.{IsDevice-act}
use Rattle.erst_store.specs.Store.{without}
use Rattle.erst_store.specs.StoreFile.{store_bytes}
use Rattle.erst_store.proofs.DeviceLemmas.{cleared-store}
use Rattle.erst_store.proofs.device.Dev.clear.Goals as goal

pub returns-clause-device : goal.returns-clause-device
unfolding act
returns-clause-device c =
    c.end_command.ensures
    ∙ ap (λ (d : Device). record (busy_device d) { action = execute_operation })
    (c.clear_record-status.ensures ∙ ap (λ command. after_command command c.args.self.now) (sym c.requires.begun))

pub returns-clause-file : goal.returns-clause-file
returns-clause-file c =
    c.remove-removed.ensures.rest
    ∙ ap (λ (d : Device). store_bytes (without d.id d.store)) c.self.view_is
    ∙ ap store_bytes (sym (ap (λ (d : Device). d.store) c.end_command.ensures ∙ ap (λ (d : Device). d.store) c.clear_record-status.ensures ∙ cleared-store c.args.self.now))

pub returns-clause-kept : goal.returns-clause-kept
returns-clause-kept c =
    subst IsDevice (sym (returns-clause-device c)) (IsDevice-act execute_operation c.args.self.now (subst IsDevice c.self.view_is c.self.invariant) (omega arith))
