use Rattle.std.proofs.Common.{arith, get_or}
use Rattle.std.specs.Prelude.{Ok, Err}
use Rattle.std.proofs.lemmas.Bool.Decides.{nat_tests}
use Rattle.std.proofs.lemmas.Result.{err_from_is_err_and}
use Rattle.erst_store.specs.Actions.{end_operation, get_command_status}
use Rattle.erst_driver.specs.declared.refusals.DriverRefused.TheVariants.{Register, Status}
use Rattle.erst_driver.specs.Operations.{step, without_input}
use Rattle.erst_driver.proofs.ActLemmas.{end_inside, ran, ran_badly, ran_device, status_inside, step_inside}
use Rattle.erst_driver.proofs.DeviceLemmas.{called_all, called_device, called_next, called_none, device_before}
use Rattle.erst_driver.proofs.FinishLemmas.{ask_refused, end_refused, finishes_badly, finishes_well, operates_then, steps_refused, wait_refused}
use Rattle.erst_driver.proofs.PlanLemmas.{all_steps, nothing_done, one_more, one_refused}
use Rattle.erst_driver.proofs.driver.Driver.operate.Goals as goal

pub loop-step-init : goal.loop-step-init
loop-step-init g c = record {
  done = nothing_done c.args.self.now _;
  called = called_none c.args.self.now (g.B.Board.seen c.args.board.now).told;
}

pub loop-step-preserved : goal.loop-step-preserved
loop-step-preserved g c =
    let steps = c.args.steps.now in
    let i = c.loop-step.step-index in
    let inside = step_inside steps i (step 0 0) c.requires c.loop-step-test.true in
    record {
      done = one_more c.args.self.now steps i (step 0 0) _ _ _ c.loop-step-test.true c.loop-step.invariant.done c.in_ok-run.field-0
          (ran c.self.inside.table c.args.self.now c.self.view_is c.self.invariant (get_or steps i (step 0 0)) inside _ _ c.in_ok-run.field-0 c.in_ok-run.ensures.runs c.in_ok-run.ensures.admitted);
      called = called_next c.args.self.now i _ _ _ c.loop-step.invariant.called
          (ran_device c.self.inside.table c.args.self.now c.self.view_is c.self.invariant (get_or steps i (step 0 0)) inside _ _ (Ok c.in_ok-run.field-0) c.in_ok-run.ensures.admitted);
    }

pub returns-in_err-run-clause-operates : goal.returns-in_err-run-clause-operates
returns-in_err-run-clause-operates g c =
    let steps = c.args.steps.now in
    let i = c.loop-step.step-index in
    let inside = step_inside steps i (step 0 0) c.requires c.loop-step-test.true in
    let p = err_from_is_err_and c.from_residual.result c.from_residual.ensures.1 in
    rw (p.1, p.2) (steps_refused c.args.self.now steps _ _ Register (one_refused c.args.self.now steps i (step 0 0) _ _ _ c.loop-step-test.true c.loop-step.invariant.done Register
    (ran_badly c.self.inside.table c.args.self.now c.self.view_is c.self.invariant (get_or steps i (step 0 0)) inside _ _ c.in_err-run.field-0.0 c.in_err-run.ensures.runs c.in_err-run.ensures.admitted)))

pub returns-in_err-run-clause-device : goal.returns-in_err-run-clause-device
returns-in_err-run-clause-device g c =
    let steps = c.args.steps.now in
    let i = c.loop-step.step-index in
    let inside = step_inside steps i (step 0 0) c.requires c.loop-step-test.true in
    called_device c.args.self.now i _ _ c.loop-step.invariant.called
    (ran_device c.self.inside.table c.args.self.now c.self.view_is c.self.invariant (get_or steps i (step 0 0)) inside _ _ (Err c.in_err-run.field-0.0) c.in_err-run.ensures.admitted)

pub returns-in_err-wait-clause-operates : goal.returns-in_err-wait-clause-operates
returns-in_err-wait-clause-operates g c =
    let why = c.in_err-wait.field-0.0 in
    let all = all_steps c.args.self.now c.args.steps.now c.loop-step.step-index _ _ c.loop-step-test.false c.loop-step.invariant.done in
    let p = err_from_is_err_and c.from_residual-in_err-wait.result c.from_residual-in_err-wait.ensures.1 in
    rw (p.1, p.2) (operates_then c.args.self.now c.args.steps.now _ _ _ all (Err why) (wait_refused c.args.self.now _ _ why c.in_err-wait.ensures.waits))

pub returns-in_err-wait-clause-device : goal.returns-in_err-wait-clause-device
returns-in_err-wait-clause-device g c = device_before c.args.self.now _ _ (called_all c.args.self.now c.loop-step.step-index _ _ c.loop-step.invariant.called) c.in_err-wait.ensures.device

pub returns-in_err-status-clause-operates : goal.returns-in_err-status-clause-operates
returns-in_err-status-clause-operates g c =
    let all = all_steps c.args.self.now c.args.steps.now c.loop-step.step-index _ _ c.loop-step-test.false c.loop-step.invariant.done in
    let asked =
    ran_badly c.self.inside.table c.args.self.now c.self.view_is c.self.invariant (without_input get_command_status) status_inside _ _ c.in_err-status.field-0.0 c.in_err-status.ensures.runs c.in_err-status.ensures.admitted in
    let p = err_from_is_err_and c.from_residual-in_err-status.result c.from_residual-in_err-status.ensures.1 in
    rw (p.1, p.2) (operates_then c.args.self.now c.args.steps.now _ _ _ all (Err Register) (ask_refused c.args.self.now _ _ c.in_ok-wait.ensures.waits _ Register asked))

pub returns-in_err-status-clause-device : goal.returns-in_err-status-clause-device
returns-in_err-status-clause-device g c = device_before c.args.self.now _ _ (called_all c.args.self.now c.loop-step.step-index _ _ c.loop-step.invariant.called) c.in_ok-wait.ensures.device

pub returns-in_err-run-2-clause-operates : goal.returns-in_err-run-2-clause-operates
returns-in_err-run-2-clause-operates g c =
    let all = all_steps c.args.self.now c.args.steps.now c.loop-step.step-index _ _ c.loop-step-test.false c.loop-step.invariant.done in
    let asked =
    ran c.self.inside.table c.args.self.now c.self.view_is c.self.invariant (without_input get_command_status) status_inside _ _ c.in_ok-status.status c.in_ok-status.ensures.runs c.in_ok-status.ensures.admitted in
    let ended =
    ran_badly c.self.inside.table c.args.self.now c.self.view_is c.self.invariant (without_input end_operation) end_inside _ _ c.in_err-run-2.field-0.0 c.in_err-run-2.ensures.runs c.in_err-run-2.ensures.admitted in
    let p = err_from_is_err_and c.from_residual-in_err-run-2.result c.from_residual-in_err-run-2.ensures.1 in
    rw (p.1, p.2) (operates_then c.args.self.now c.args.steps.now _ _ _ all (Err Register) (end_refused c.args.self.now _ _ c.in_ok-wait.ensures.waits _ c.in_ok-status.status asked _ Register ended))

pub returns-in_err-run-2-clause-device : goal.returns-in_err-run-2-clause-device
returns-in_err-run-2-clause-device g c = device_before c.args.self.now _ _ (called_all c.args.self.now c.loop-step.step-index _ _ c.loop-step.invariant.called) c.in_ok-wait.ensures.device

pub returns-then-status-eq0-clause-operates : goal.returns-then-status-eq0-clause-operates
returns-then-status-eq0-clause-operates g c =
    let all = all_steps c.args.self.now c.args.steps.now c.loop-step.step-index _ _ c.loop-step-test.false c.loop-step.invariant.done in
    let asked =
    ran c.self.inside.table c.args.self.now c.self.view_is c.self.invariant (without_input get_command_status) status_inside _ _ c.in_ok-status.status c.in_ok-status.ensures.runs c.in_ok-status.ensures.admitted in
    let ended =
    ran c.self.inside.table c.args.self.now c.self.view_is c.self.invariant (without_input end_operation) end_inside _ _ c.in_ok-run-2.field-0 c.in_ok-run-2.ensures.runs c.in_ok-run-2.ensures.admitted in
    operates_then c.args.self.now c.args.steps.now _ _ _ all (Ok tt)
    (finishes_well c.args.self.now _ _ c.in_ok-wait.ensures.waits _ c.in_ok-status.status asked _ c.in_ok-run-2.field-0 ended (grind (arith, nat_tests, c.if-status-eq0.true)))

pub returns-then-status-eq0-clause-device : goal.returns-then-status-eq0-clause-device
returns-then-status-eq0-clause-device g c = device_before c.args.self.now _ _ (called_all c.args.self.now c.loop-step.step-index _ _ c.loop-step.invariant.called) c.in_ok-wait.ensures.device

pub returns-else-status-eq0-clause-operates : goal.returns-else-status-eq0-clause-operates
returns-else-status-eq0-clause-operates g c =
    let all = all_steps c.args.self.now c.args.steps.now c.loop-step.step-index _ _ c.loop-step-test.false c.loop-step.invariant.done in
    let asked =
    ran c.self.inside.table c.args.self.now c.self.view_is c.self.invariant (without_input get_command_status) status_inside _ _ c.in_ok-status.status c.in_ok-status.ensures.runs c.in_ok-status.ensures.admitted in
    let ended =
    ran c.self.inside.table c.args.self.now c.self.view_is c.self.invariant (without_input end_operation) end_inside _ _ c.in_ok-run-2.field-0 c.in_ok-run-2.ensures.runs c.in_ok-run-2.ensures.admitted in
    operates_then c.args.self.now c.args.steps.now _ _ _ all (Err (Status c.in_ok-status.status))
    (finishes_badly c.args.self.now _ _ c.in_ok-wait.ensures.waits _ c.in_ok-status.status asked _ c.in_ok-run-2.field-0 ended (λ zero_is. grind (arith, nat_tests, c.if-status-eq0.false, zero_is)))

pub returns-else-status-eq0-clause-device : goal.returns-else-status-eq0-clause-device
returns-else-status-eq0-clause-device g c = device_before c.args.self.now _ _ (called_all c.args.self.now c.loop-step.step-index _ _ c.loop-step.invariant.called) c.in_ok-wait.ensures.device
