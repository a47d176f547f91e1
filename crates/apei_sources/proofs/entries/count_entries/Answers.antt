-- Each entry that is skipped counts as one.
use Rattle.std.proofs.Common.{◌∙◌, ◌+◌, sym, arith}
use Rattle.apei_sources.proofs.EntryLemmas.{Counts, none_counted, one_counted, all_counted}
use Rattle.apei_sources.proofs.entries.count_entries.Goals as goal

pub returns-then-not-has_entry-clause-entries : goal.returns-then-not-has_entry-clause-entries
returns-then-not-has_entry-clause-entries c =
    none_counted c.args.bytes.now c.loop-rest.rest.now c.loop-rest.count
    (grind (arith, c.is_empty.ensures, c.loop-rest-test.true))
    (sym c.has_entry.ensures ∙ c.if-not-has_entry.true) c.loop-rest.invariant.counted

pub loop-rest-preserved : goal.loop-rest-preserved
loop-rest-preserved c =
    let next : Counts c.args.bytes.now c.behind_first-rest.result.now (c.loop-rest.count + 1) =
    one_counted c.args.bytes.now c.loop-rest.rest.now c.behind_first-rest.result.now c.loop-rest.count
    (sym c.has_entry.ensures ∙ c.if-not-has_entry.false) c.behind_first-rest.ensures
    (record { short = c.loop-rest.invariant.short; counted = c.loop-rest.invariant.counted }) in
    record { short = next.short; counted = next.counted }

pub returns-clause-entries : goal.returns-clause-entries
returns-clause-entries c =
    (all_counted c.args.bytes.now c.loop-rest.rest.now c.loop-rest.count
    (grind (arith, c.is_empty.ensures, c.loop-rest-test.false)) c.loop-rest.invariant.counted).cut

pub returns-clause-inside : goal.returns-clause-inside
returns-clause-inside c =
    (all_counted c.args.bytes.now c.loop-rest.rest.now c.loop-rest.count
    (grind (arith, c.is_empty.ensures, c.loop-rest-test.false)) c.loop-rest.invariant.counted).inside
