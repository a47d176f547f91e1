use Rattle.std.proofs.Common.{refl, sym}
use Rattle.std.proofs.lemmas.Result.{err_from_is_err_and}
use Rattle.ras_recover.specs.Steps.Reading.{front_at}
use Rattle.ras_recover.proofs.ReadingLemmas.{count_refused, link_refused, link_counted, link_past}
use Rattle.ras_recover.proofs.links.link_at.Goals as goal

pub returns-in_err-count-clause-read : goal.returns-in_err-count-clause-read
returns-in_err-count-clause-read c =
    let p = err_from_is_err_and c.from_residual.result c.from_residual.ensures.1 in
    rw (p.1, p.2) (count_refused c.in_err-count.field-0.0 (front_at c.args.place c.args.account.now.state) c.args.file.now c.in_err-count.ensures.read)

pub returns-in_err-entries-clause-read : goal.returns-in_err-entries-clause-read
returns-in_err-entries-clause-read c =
    let p = err_from_is_err_and c.from_residual-in_err-entries.result c.from_residual-in_err-entries.ensures.1 in
    rw (p.1, p.2) (link_refused c.in_err-entries.field-0.0 (front_at c.args.place c.args.account.now.state) c.args.file.now c.in_ok-count.count c.in_ok-count.ensures.read c.in_err-entries.ensures.read)

pub returns-then-not-branch-clause-read : goal.returns-then-not-branch-clause-read
returns-then-not-branch-clause-read c =
    let told = rw c.if-not-branch.true at c.in_ok-count_entries.ensures in
    link_past (front_at c.args.place c.args.account.now.state) c.args.file.now c.in_ok-count.count c.in_ok-entries.entries.items c.in_ok-count.ensures.read c.in_ok-entries.ensures.read (sym told.stays)

pub returns-clause-read : goal.returns-clause-read
returns-clause-read c =
    let told = rw c.if-not-branch.false at c.in_ok-count_entries.ensures in
    rw (told.state refl) (link_counted (front_at c.args.place c.args.account.now.state) c.args.file.now c.in_ok-count.count c.in_ok-entries.entries.items c.in_ok-count.ensures.read c.in_ok-entries.ensures.read (sym told.stays))
