use Rattle.std.proofs.Common.{◌∙◌, Ok, sym}
use Rattle.std.proofs.lemmas.Result.{err_from_is_err_and}
use Rattle.ras_recover.proofs.LooksLemmas.{front_refused, read_refused}
use Rattle.ras_recover.specs.Steps.Reading.{front_at}
use Rattle.ras_recover.proofs.HoldingLemmas.{seen_before}
use Rattle.ras_recover.proofs.StandingLemmas.{begun_none, begun_refused, begun_some, open_there, shut_there}
use Rattle.ras_recover.proofs.walking.first_in.Goals as goal

pub returns-then-not-has_open_gate-clause-begun : goal.returns-then-not-has_open_gate-clause-begun
returns-then-not-has_open_gate-clause-begun g c =
    begun_none c.args.file c.hold_front.new.window c.rest-front.result.now _ c.in_ok-hold_front.ensures.covers.spans
    (seen_before c.args.file c.hold_front.new.window _ _ c.hold_front.ensures.looks.keeps.here c.in_ok-hold_front.ensures.covers.sees) c.in_ok-hold_front.ensures.held c.rest-front.ensures
    (sym c.has_open_gate.ensures ∙ c.if-not-has_open_gate.true)

pub returns-then-not-has_open_gate-clause-shut : goal.returns-then-not-has_open_gate-clause-shut
returns-then-not-has_open_gate-clause-shut g c =
    shut_there c.is_shut.result c.args.file c.hold_front.new.window c.rest-front.result.now _ c.in_ok-hold_front.ensures.covers.spans
    (seen_before c.args.file c.hold_front.new.window _ _ c.hold_front.ensures.looks.keeps.here c.in_ok-hold_front.ensures.covers.sees) c.in_ok-hold_front.ensures.held c.rest-front.ensures c.is_shut.ensures

pub returns-clause-begun : goal.returns-clause-begun
returns-clause-begun g c =
    begun_some c.args.taken c.args.file c.hold_front.new.window c.rest-front.result.now _ (Ok (front_at c.in_ok-first.first.0 c.in_ok-first.first.1.state)) c.in_ok-hold_front.ensures.covers.spans
    (seen_before c.args.file c.hold_front.new.window _ _ c.hold_front.ensures.looks.keeps.here c.in_ok-hold_front.ensures.covers.sees) c.in_ok-hold_front.ensures.held c.rest-front.ensures
    (sym c.has_open_gate.ensures ∙ c.if-not-has_open_gate.false) c.in_ok-first.ensures.read

pub returns-clause-shut : goal.returns-clause-shut
returns-clause-shut g c =
    open_there c.args.file (Ok (front_at c.in_ok-first.first.0 c.in_ok-first.first.1.state)) c.args.taken _
    (begun_some c.args.taken c.args.file c.hold_front.new.window c.rest-front.result.now _ (Ok (front_at c.in_ok-first.first.0 c.in_ok-first.first.1.state)) c.in_ok-hold_front.ensures.covers.spans
    (seen_before c.args.file c.hold_front.new.window _ _ c.hold_front.ensures.looks.keeps.here c.in_ok-hold_front.ensures.covers.sees) c.in_ok-hold_front.ensures.held c.rest-front.ensures
    (sym c.has_open_gate.ensures ∙ c.if-not-has_open_gate.false) c.in_ok-first.ensures.read)

pub returns-in_err-hold_front-clause-looks : goal.returns-in_err-hold_front-clause-looks
returns-in_err-hold_front-clause-looks g c =
    let p = err_from_is_err_and c.from_residual.result c.from_residual.ensures.1 in
    rw (p.1, p.2) (read_refused c.in_err-hold_front.field-0.0 _ _ _ _ c.in_err-hold_front.ensures.looks)

pub returns-in_err-first-clause-broken : goal.returns-in_err-first-clause-broken
returns-in_err-first-clause-broken g c =
    let p = err_from_is_err_and c.from_residual-in_err-first.result c.from_residual-in_err-first.ensures.1 in
    rw (p.1, p.2) (begun_refused c.in_err-first.field-0.0 c.args.taken c.args.file c.hold_front.new.window c.rest-front.result.now _ c.in_ok-hold_front.ensures.covers.spans
    (seen_before c.args.file c.hold_front.new.window _ _ c.hold_front.ensures.looks.keeps.here c.in_ok-hold_front.ensures.covers.sees) c.in_ok-hold_front.ensures.held c.rest-front.ensures
    (sym c.has_open_gate.ensures ∙ c.if-not-has_open_gate.false) c.in_err-first.ensures.read)

pub returns-in_err-first-clause-looks : goal.returns-in_err-first-clause-looks
returns-in_err-first-clause-looks g c =
    let p = err_from_is_err_and c.from_residual-in_err-first.result c.from_residual-in_err-first.ensures.1 in
    rw (p.1, p.2) (front_refused c.in_err-first.field-0.0 _ _ _ _ _ c.in_err-first.ensures.read c.in_ok-hold_front.ensures.looks)
