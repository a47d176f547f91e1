use Rattle.std.proofs.Common.{arith}
use Rattle.std.specs.Prelude.{Ok, Err}
use Rattle.erst_store.specs.Actions.{check_busy_status}
use Rattle.erst_driver.specs.declared.refusals.DriverRefused.TheVariants.{Register}
use Rattle.erst_driver.specs.Operations.{most_checks, without_input}
use Rattle.erst_driver.proofs.ActLemmas.{check_inside, ran, ran_badly, ran_device}
use Rattle.std.proofs.lemmas.Bool.Decides.{nat_tests}
use Rattle.std.proofs.lemmas.Result.{err_from_is_err_and}
use Rattle.erst_driver.proofs.WaitLemmas.{wait_begins, wait_refused, waits_on, wait_ends, wait_gives_up}
use Rattle.erst_driver.proofs.PlanLemmas.{nothing_done}
use Rattle.erst_driver.proofs.DeviceLemmas.{called_none, called_next, called_device, called_some}
use Rattle.erst_driver.proofs.driver.Driver.wait.Goals as goal

pub loop-init : goal.loop-init
loop-init g c = record {
  waiting = wait_begins c.args.self.now _ (nothing_done c.args.self.now _);
  called = called_none c.args.self.now (g.B.Board.seen c.args.board.now).told;
}

pub returns-in_err-run-clause-waits : goal.returns-in_err-run-clause-waits
returns-in_err-run-clause-waits g c =
    let p = err_from_is_err_and c.from_residual.result c.from_residual.ensures.1 in
    rw (p.1, p.2) (wait_refused most_checks c.args.self.now c.loop.counter _ _ _ c.loop.invariant.waiting c.loop-test.true
    Register (ran_badly c.self.inside.table c.args.self.now c.self.view_is c.self.invariant (without_input check_busy_status) check_inside _ _ c.in_err-run.field-0.0 c.in_err-run.ensures.runs c.in_err-run.ensures.admitted))

pub returns-then-branch-eq0-clause-waits : goal.returns-then-branch-eq0-clause-waits
returns-then-branch-eq0-clause-waits g c = wait_ends most_checks c.args.self.now c.loop.counter _ _ _ c.loop.invariant.waiting c.loop-test.true c.in_ok-run.field-0 (ran c.self.inside.table c.args.self.now c.self.view_is c.self.invariant (without_input check_busy_status) check_inside _ _ c.in_ok-run.field-0 c.in_ok-run.ensures.runs c.in_ok-run.ensures.admitted)
    (grind (arith, nat_tests, c.if-branch-eq0.true))

pub loop-preserved : goal.loop-preserved
loop-preserved g c = record {
  waiting = waits_on most_checks c.args.self.now c.loop.counter _ _ _ c.loop.invariant.waiting c.loop-test.true c.in_ok-run.field-0 (ran c.self.inside.table c.args.self.now c.self.view_is c.self.invariant (without_input check_busy_status) check_inside _ _ c.in_ok-run.field-0 c.in_ok-run.ensures.runs c.in_ok-run.ensures.admitted)
      (λ zero_is. grind (arith, nat_tests, c.if-branch-eq0.false, zero_is));
  called = called_next c.args.self.now c.loop.counter _ _ _ c.loop.invariant.called (ran_device c.self.inside.table c.args.self.now c.self.view_is c.self.invariant (without_input check_busy_status) check_inside _ _ (Ok c.in_ok-run.field-0) c.in_ok-run.ensures.admitted);
}

pub returns-clause-waits : goal.returns-clause-waits
returns-clause-waits g c = wait_gives_up most_checks c.args.self.now c.loop.counter _ _ c.loop.invariant.waiting (omega (arith, c.loop-test.false, c.loop.auto.counter-end))

pub returns-in_err-run-clause-device : goal.returns-in_err-run-clause-device
returns-in_err-run-clause-device g c = called_device c.args.self.now c.loop.counter _ _ c.loop.invariant.called (ran_device c.self.inside.table c.args.self.now c.self.view_is c.self.invariant (without_input check_busy_status) check_inside _ _ (Err c.in_err-run.field-0.0) c.in_err-run.ensures.admitted)

pub returns-then-branch-eq0-clause-device : goal.returns-then-branch-eq0-clause-device
returns-then-branch-eq0-clause-device g c = called_device c.args.self.now c.loop.counter _ _ c.loop.invariant.called (ran_device c.self.inside.table c.args.self.now c.self.view_is c.self.invariant (without_input check_busy_status) check_inside _ _ (Ok c.in_ok-run.field-0) c.in_ok-run.ensures.admitted)

pub returns-clause-device : goal.returns-clause-device
returns-clause-device g c = called_some c.args.self.now c.loop.counter _ _ (omega (arith, c.loop-test.false, c.loop.auto.counter-end)) c.loop.invariant.called
