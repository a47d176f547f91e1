use Rattle.std.proofs.Common.{refl, subst, sym}
use Rattle.std.specs.Prelude.{IfSome, Option}
use Rattle.erst_store.specs.Device.{act}
use Rattle.host_system.specs.FolderPast.{FolderPast}
use Rattle.ras_host.specs.Steps.KeptDevice.{IsInStep}
use Rattle.ras_host.specs.declared.kept.Kept.TheVariants.{Here}
use Rattle.ras_host.proofs.KeptLemmas.{in_step_taken, turned_action, turned_ended, turned_or}
use Rattle.ras_host.proofs.kept.Kept.reg_write.Goals as goal

pub returns-in_err-change-in-Action-clause-turned : goal.returns-in_err-change-in-Action-clause-turned
returns-in_err-change-in-Action-clause-turned g c =
    let taken = c.in_ok-saved.ensures in
    let saved = c.in_ok-saved.saved in
    let failed = c.from_residual-in_err-change-in-Action in
    let in_step = subst (λ (o : Option FolderPast). IfSome o (IsInStep (Here saved))) (sym taken.told) (in_step_taken saved _ _ c.requires taken.filed taken.taken) in
    turned_action c.args.reg c.args.value saved c.args.self.now c.act.new.self failed.result _ _ _ c.in-Action.is taken.told taken.taken taken.used
    (turned_ended (act c.args.value) saved c.act.new.self failed.result _ _ failed.ensures.0 refl in_step c.in_err-change-in-Action.ensures.err)

pub returns-in_ok-change-in-Action-clause-turned : goal.returns-in_ok-change-in-Action-clause-turned
returns-in_ok-change-in-Action-clause-turned g c =
    let taken = c.in_ok-saved.ensures in
    let saved = c.in_ok-saved.saved in
    let in_step = subst (λ (o : Option FolderPast). IfSome o (IsInStep (Here saved))) (sym taken.told) (in_step_taken saved _ _ c.requires taken.filed taken.taken) in
    rw c.or.ensures (turned_or _ _ c.save.new.self c.save.result _ _ _
    (turned_action c.args.reg c.args.value saved c.args.self.now c.save.new.self c.save.result _ _ _ c.in-Action.is taken.told taken.taken taken.used
    (c.save.ensures.turned (act c.args.value) saved c.in_ok-change-in-Action.ensures.ok in_step)))
