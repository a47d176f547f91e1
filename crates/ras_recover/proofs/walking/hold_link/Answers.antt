use Rattle.std.proofs.Common.{refl, arith}
use Rattle.std.proofs.lemmas.Result.{err_from_is_err_and}
use Rattle.ras_recover.proofs.LooksLemmas.{looks_on, read_refused}
use Rattle.ras_recover.proofs.HoldingLemmas.{seen_before, link_none, link_long, link_whole}
use Rattle.ras_recover.proofs.walking.hold_link.Goals as goal

pub returns-in_err-hold-clause-looks : goal.returns-in_err-hold-clause-looks
returns-in_err-hold-clause-looks g c =
    let p = err_from_is_err_and c.from_residual.result c.from_residual.ensures.1 in
    rw (p.1, p.2) (read_refused c.in_err-hold.field-0.0 _ _ _ _ c.in_err-hold.ensures.looks)

pub returns-in_default-clause-held : goal.returns-in_default-clause-held
returns-in_default-clause-held g c =
    link_none c.args.file c.args.gate c.hold.new.self c.rest.result.now _ c.in_ok-hold.ensures.covers.spans
    (seen_before c.args.file c.hold.new.self _ _ c.hold.ensures.looks.keeps.here c.in_ok-hold.ensures.covers.sees) c.in_ok-hold.ensures.held c.rest.ensures (c.in_default.ensures.none refl)

pub returns-then-count-file-clause-held : goal.returns-then-count-file-clause-held
returns-then-count-file-clause-held g c =
    link_long c.args.file c.args.gate c.in-Some.count c.hold.new.self c.rest.result.now _ c.in_ok-hold.ensures.covers.spans
    (seen_before c.args.file c.hold.new.self _ _ c.hold.ensures.looks.keeps.here c.in_ok-hold.ensures.covers.sees) c.in_ok-hold.ensures.held c.rest.ensures c.in-Some.ensures.some (omega arith)

pub returns-clause-held : goal.returns-clause-held
returns-clause-held g c =
    link_whole c.hold-2.result c.args.file c.args.gate c.in-Some.count c.hold.new.self c.hold-2.new.self c.rest.result.now _ _ c.hold.ensures.looks.keeps.here
    c.in_ok-hold.ensures.covers.spans c.in_ok-hold.ensures.covers.sees c.in_ok-hold.ensures.held c.rest.ensures c.in-Some.ensures.some c.in-Some.ensures.least (omega arith) c.hold-2.ensures.held

pub returns-clause-looks : goal.returns-clause-looks
returns-clause-looks g c = looks_on _ c.args.file.no _ _ _ _ _ _ c.in_ok-hold.ensures.looks c.hold-2.ensures.looks
