use Rattle.std.proofs.lemmas.Result.{err_from_is_err_and}
use Rattle.ras_recover.specs.Steps.Reading.{front_at}
use Rattle.ras_recover.proofs.LooksLemmas.{read_refused}
use Rattle.ras_recover.proofs.HoldingLemmas.{seen_before, next_told, damaged_told}
use Rattle.ras_recover.proofs.walking.next_in.Goals as goal

pub returns-in-Ok-None-clause-read : goal.returns-in-Ok-None-clause-read
returns-in-Ok-None-clause-read g c =
    let told = rw c.in-Ok-None.field-0-is at c.in-Ok-None.ensures in
    next_told c.args.file c.hold_link.new.window (front_at c.args.place c.args.account.now.state) c.rest.result.now _ _ c.in_ok-hold_link.ensures.covers.spans
    (seen_before c.args.file c.hold_link.new.window _ _ c.hold_link.ensures.looks.keeps.here c.in_ok-hold_link.ensures.covers.sees) c.in_ok-hold_link.ensures.held c.rest.ensures told.read

pub returns-in-Ok-Some-clause-read : goal.returns-in-Ok-Some-clause-read
returns-in-Ok-Some-clause-read g c =
    let told = rw c.in-Ok-Some.field-0-is at c.in-Ok-Some.ensures in
    next_told c.args.file c.hold_link.new.window (front_at c.args.place c.args.account.now.state) c.rest.result.now _ _ c.in_ok-hold_link.ensures.covers.spans
    (seen_before c.args.file c.hold_link.new.window _ _ c.hold_link.ensures.looks.keeps.here c.in_ok-hold_link.ensures.covers.sees) c.in_ok-hold_link.ensures.held c.rest.ensures told.read

pub returns-in-Err-Damaged-clause-read : goal.returns-in-Err-Damaged-clause-read
returns-in-Err-Damaged-clause-read g c =
    let told = rw c.in-Err-Damaged.field-0-is at c.in-Err-Damaged.ensures in
    damaged_told c.args.file c.hold_link.new.window (front_at c.args.place c.args.account.now.state) c.rest.result.now _ c.in-Err-Damaged.at c.saturating_add.result c.in_ok-hold_link.ensures.covers.spans
    (seen_before c.args.file c.hold_link.new.window _ _ c.hold_link.ensures.looks.keeps.here c.in_ok-hold_link.ensures.covers.sees) c.in_ok-hold_link.ensures.held c.rest.ensures told.read c.saturating_add.ensures

pub returns-in_err-hold_link-clause-looks : goal.returns-in_err-hold_link-clause-looks
returns-in_err-hold_link-clause-looks g c =
    let p = err_from_is_err_and c.from_residual.result c.from_residual.ensures.1 in
    rw (p.1, p.2) (read_refused c.in_err-hold_link.field-0.0 _ _ _ _ c.in_err-hold_link.ensures.looks)
