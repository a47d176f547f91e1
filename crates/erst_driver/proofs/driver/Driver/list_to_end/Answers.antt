use Rattle.std.proofs.Common.{arith}
use Rattle.std.specs.Prelude.{Ok, Err}
use Rattle.erst_store.specs.Actions.{get_record_identifier}
use Rattle.erst_driver.specs.declared.refusals.DriverRefused.TheVariants.{Register}
use Rattle.erst_driver.specs.Operations.{without_input}
use Rattle.erst_driver.proofs.ActLemmas.{list_inside, ran, ran_badly, ran_device}
use Rattle.std.proofs.lemmas.Bool.Decides.{nat_tests}
use Rattle.std.proofs.lemmas.Result.{err_from_is_err_and}
use Rattle.erst_driver.proofs.PlanLemmas.{nothing_done}
use Rattle.erst_driver.proofs.ListLemmas.{listing_begins, list_refused, listing_next, listing_ends}
use Rattle.erst_driver.proofs.DeviceLemmas.{called_none, called_next, called_device, called_some}
use Rattle.erst_driver.proofs.driver.Driver.list_to_end.Goals as goal

pub loop-init : goal.loop-init
loop-init g c = record {
  listing = listing_begins c.args.self.now _ (nothing_done c.args.self.now _);
  called = called_none c.args.self.now (g.B.Board.seen c.args.board.now).told;
}

pub returns-in_err-run-clause-lists : goal.returns-in_err-run-clause-lists
returns-in_err-run-clause-lists g c =
    let p = err_from_is_err_and c.from_residual.result c.from_residual.ensures.1 in
    rw (p.1, p.2) (list_refused c.args.self.now c.loop.counter _ _ _ c.loop.invariant.listing Register (ran_badly c.self.inside.table c.args.self.now c.self.view_is c.self.invariant (without_input get_record_identifier) list_inside _ _ c.in_err-run.field-0.0 c.in_err-run.ensures.runs c.in_err-run.ensures.admitted))

pub loop-preserved : goal.loop-preserved
loop-preserved g c = record {
  listing = listing_next c.args.self.now c.loop.counter _ _ _ c.loop.invariant.listing c.in_ok-run.field-0 (ran c.self.inside.table c.args.self.now c.self.view_is c.self.invariant (without_input get_record_identifier) list_inside _ _ c.in_ok-run.field-0 c.in_ok-run.ensures.runs c.in_ok-run.ensures.admitted)
      (λ end. grind (arith, nat_tests, c.if-branch.false, end));
  called = called_next c.args.self.now c.loop.counter _ _ _ c.loop.invariant.called (ran_device c.self.inside.table c.args.self.now c.self.view_is c.self.invariant (without_input get_record_identifier) list_inside _ _ (Ok c.in_ok-run.field-0) c.in_ok-run.ensures.admitted);
}

pub returns-then-branch-clause-lists : goal.returns-then-branch-clause-lists
returns-then-branch-clause-lists g c = listing_ends c.args.self.now c.loop.counter _ _ _ c.loop.invariant.listing c.in_ok-run.field-0 (ran c.self.inside.table c.args.self.now c.self.view_is c.self.invariant (without_input get_record_identifier) list_inside _ _ c.in_ok-run.field-0 c.in_ok-run.ensures.runs c.in_ok-run.ensures.admitted)
    (grind (arith, nat_tests, c.if-branch.true))

pub returns-in_err-run-clause-device : goal.returns-in_err-run-clause-device
returns-in_err-run-clause-device g c = called_device c.args.self.now c.loop.counter _ _ c.loop.invariant.called (ran_device c.self.inside.table c.args.self.now c.self.view_is c.self.invariant (without_input get_record_identifier) list_inside _ _ (Err c.in_err-run.field-0.0) c.in_err-run.ensures.admitted)

pub returns-then-branch-clause-device : goal.returns-then-branch-clause-device
returns-then-branch-clause-device g c = called_device c.args.self.now c.loop.counter _ _ c.loop.invariant.called (ran_device c.self.inside.table c.args.self.now c.self.view_is c.self.invariant (without_input get_record_identifier) list_inside _ _ (Ok c.in_ok-run.field-0) c.in_ok-run.ensures.admitted)

pub returns-clause-device : goal.returns-clause-device
returns-clause-device g c = called_some c.args.self.now c.loop.counter _ _ (omega (arith, c.loop-test.false, c.loop.auto.counter-end)) c.loop.invariant.called
