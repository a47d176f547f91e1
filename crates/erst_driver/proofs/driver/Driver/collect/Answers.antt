use Rattle.std.proofs.Common.{ℕ, Vec, Global, arith, subst}
use Rattle.erst_store.specs.Actions.{get_record_identifier}
use Rattle.erst_interp.specs.Admission.{IsAdmittedTable}
use Rattle.erst_driver.specs.declared.refusals.DriverRefused.TheVariants.{Register}
use Rattle.erst_driver.specs.Operations.{without_input}
use Rattle.erst_driver.proofs.ActLemmas.{list_inside, ran, ran_badly}
use Rattle.std.proofs.lemmas.Bool.Decides.{nat_tests}
use Rattle.std.proofs.lemmas.Result.{err_from_is_err_and}
use Rattle.erst_driver.proofs.PlanLemmas.{nothing_done}
use Rattle.erst_driver.proofs.ListLemmas.{collecting_begins, collect_refused, collect_starves, collecting_next, collect_ends, collect_full}
use Rattle.erst_driver.proofs.driver.Driver.collect.Goals as goal

pub loop-init : goal.loop-init
loop-init g c = rw c.new-found.ensures.items (collecting_begins c.args.self.now _ (nothing_done c.args.self.now _))

pub returns-in_err-id : goal.returns-in_err-id
returns-in_err-id g c =
    let p = err_from_is_err_and c.from_residual.result c.from_residual.ensures.1 in
    record {
      collects = rw (p.1, p.2) (collect_refused c.args.self.now c.loop.counter c.loop.found.items _ _ _ c.loop.invariant (λ (v : Vec ℕ Global). v.items) c.loop-test.true
          Register (ran_badly c.self.inside.table c.args.self.now c.self.view_is c.self.invariant (without_input get_record_identifier) list_inside _ _ c.in_err-id.field-0.0 c.in_err-id.ensures.runs c.in_err-id.ensures.admitted));
    }

pub returns-then-id : goal.returns-then-id
returns-then-id g c = record {
  collects = collect_ends c.args.self.now c.loop.counter c.loop.found.items _ _ _ c.loop.invariant c.in_ok-id.id (ran c.self.inside.table c.args.self.now c.self.view_is c.self.invariant (without_input get_record_identifier) list_inside _ _ c.in_ok-id.id c.in_ok-id.ensures.runs c.in_ok-id.ensures.admitted)
      (grind (arith, nat_tests, c.if-id.true)) c.loop-test.true;
}

pub returns-in-Err : goal.returns-in-Err
returns-in-Err g c = record {
  collects = collect_starves c.args.self.now c.loop.counter c.loop.found.items _ _ _ c.loop.invariant c.in_ok-id.id (ran c.self.inside.table c.args.self.now c.self.view_is c.self.invariant (without_input get_record_identifier) list_inside _ _ c.in_ok-id.id c.in_ok-id.ensures.runs c.in_ok-id.ensures.admitted) c.loop-test.true (subst IsAdmittedTable c.self.view_is c.self.invariant);
}

pub loop-preserved : goal.loop-preserved
loop-preserved g c = rw c.in-Ok.ensures.items (collecting_next c.args.self.now c.loop.counter c.loop.found.items _ _ _ c.loop.invariant c.in_ok-id.id (ran c.self.inside.table c.args.self.now c.self.view_is c.self.invariant (without_input get_record_identifier) list_inside _ _ c.in_ok-id.id c.in_ok-id.ensures.runs c.in_ok-id.ensures.admitted)
    (λ end. grind (arith, nat_tests, c.if-id.false, end)))

pub returns : goal.returns
returns g c = record {
  collects = collect_full c.args.self.now c.loop.counter c.loop.found.items _ _ c.loop.invariant (omega (arith, c.loop-test.false, c.loop.auto.counter-end));
}
