use Rattle.std.proofs.Common.{◌≤◌, sym, arith}
use Rattle.erst_store.specs.Actions.{get_record_count}
use Rattle.erst_interp.specs.Admission.{IsAdmitted}
use Rattle.erst_interp.proofs.AdmitsLemmas.{admitted-is, not-admitted}
use Rattle.erst_interp.proofs.admission.admits.Goals as goal

pub returns-then-not-admits_list-clause-test : goal.returns-then-not-admits_list-clause-test
returns-then-not-admits_list-clause-test c = sym (not-admitted c.args.table.now (λ are.
    (let inside : c.loop-action.action ≤ get_record_count = omega (arith, c.loop-action-test.true) in
    let here : IsAdmitted c.from.result c.list.result.now = rw (c.from.ensures, c.list.ensures) (are c.loop-action.action inside) in
    let yes = c.admits_list.ensures.1 here in
    let no = c.if-not-admits_list.true in
    absurd cc)))

pub returns-clause-test : goal.returns-clause-test
returns-clause-test c = sym (admitted-is c.args.table.now (λ action small. c.loop-action.invariant action (omega (arith, small, c.loop-action-test.false))))
