use Rattle.std.proofs.Common.{◌∙◌, ◌+◌, ℕ, Option, Ok, None, Some, refl, sym, ap, arith}
use Rattle.std.specs.Option.{option_map}
use Rattle.std.proofs.lemmas.Result.{err_from_is_err_and}
use Rattle.board_core.specs.Doing.{went_well}
use Rattle.ras_account.specs.Account.{State}
use Rattle.ras_recover.specs.Steps.Reading.{front_at}
use Rattle.ras_recover.specs.Steps.Windows.{read_refused_end}
use Rattle.ras_recover.proofs.HoldingLemmas.{next_before, goes_next, goes_end, goes_over, goes_wrong, wrong_before}
use Rattle.ras_recover.proofs.LooksLemmas.{looks_given_up, looks_on}
use Rattle.ras_recover.proofs.walking.last_in.Goals as goal

pub returns-in-None-clause-read : goal.returns-in-None-clause-read
returns-in-None-clause-read g c =
    let told = rw c.in-None.is at c.in_ok-next.ensures in
    let now = front_at c.loop.place c.loop.account.state in
    goes_end c.args.file c.args.window.now _ c.loop.counter (front_at c.args.first c.args.account.now.state) now (front_at c.loop.place c.next_in.new.account.state) c.requires.covers.sees c.loop-test.true c.loop.invariant.goes_on
    (next_before c.args.file _ _ now (Ok None) c.loop.invariant.looks.keeps.here told.read) (ap (λ (a : State). front_at c.loop.place a) (sym ((told.closed refl).0)))

pub returns-in-None-clause-looks : goal.returns-in-None-clause-looks
returns-in-None-clause-looks g c = looks_on went_well c.args.file.no _ _ _ _ _ _ c.loop.invariant.looks c.in_ok-next.ensures.looks

pub returns-in_err-next-clause-read : goal.returns-in_err-next-clause-read
returns-in_err-next-clause-read g c =
    let p = err_from_is_err_and c.from_residual.result c.from_residual.ensures.1 in
    let why = c.in_err-next.field-0.0 in
    let now = front_at c.loop.place c.loop.account.state in
    let view = λ (next : Option _). option_map (λ p. front_at p c.next_in.new.account.state) next in
    rw (p.1, p.2) (goes_wrong view (λ place. front_at place c.next_in.new.account.state) why c.args.file c.args.window.now _ c.loop.counter (front_at c.args.first c.args.account.now.state) now c.requires.covers.sees c.loop-test.true
    c.loop.invariant.goes_on (wrong_before view why c.args.file _ _ now c.loop.invariant.looks.keeps.here c.in_err-next.ensures.read))

pub returns-in_err-next-clause-looks : goal.returns-in_err-next-clause-looks
returns-in_err-next-clause-looks g c =
    let p = err_from_is_err_and c.from_residual.result c.from_residual.ensures.1 in
    rw (p.1, p.2) (looks_on (read_refused_end c.in_err-next.field-0.0) c.args.file.no _ _ _ _ _ _ c.loop.invariant.looks c.in_err-next.ensures.looks)

pub loop-preserved : goal.loop-preserved
loop-preserved g c =
    let told = rw c.in-Some.is at c.in_ok-next.ensures in
    let now = front_at c.loop.place c.loop.account.state in
    let next = front_at c.in-Some.next c.next_in.new.account.state in
    record {
      links = told.next.0 ∙ ap (λ (n : ℕ). n + 1) c.loop.invariant.links;
      covers = told.next.1;
      goes_on = goes_next c.args.file c.args.window.now _ c.loop.counter (front_at c.args.first c.args.account.now.state) now next c.requires.covers.sees c.loop-test.true c.loop.invariant.goes_on
          (next_before c.args.file _ _ now (Ok (Some next)) c.loop.invariant.looks.keeps.here told.read);
      looks = looks_on went_well c.args.file.no _ _ _ _ _ _ c.loop.invariant.looks c.in_ok-next.ensures.looks;
    }

pub returns-clause-read : goal.returns-clause-read
returns-clause-read g c =
    goes_over c.args.file c.args.window.now _ c.loop.counter (front_at c.args.first c.args.account.now.state) (front_at c.loop.place c.loop.account.state) c.requires.covers.sees (omega arith) c.loop.invariant.goes_on

pub returns-clause-looks : goal.returns-clause-looks
returns-clause-looks g c = looks_given_up _ _ _ _ c.loop.invariant.looks
