-- A source whose identifier is new goes last.
use Rattle.std.proofs.Common.{◌≡◌, ◌∙◌, ℕ, nat_eq, None, Ok, sym, ap}
use Rattle.indexmap.proofs.CallerLemmas.{insert_entry-new}
use Rattle.apei_sources.specs.Sources.{source_of}
use Rattle.apei_sources.specs.Hest.{Sources, type_with_id, followed}
use Rattle.apei_sources.proofs.HestLemmas.{followed_new}
use Rattle.apei_sources.proofs.hest_table.add_source.Goals as goal

pub returns-in-Ok-None-clause-answer : goal.returns-in-Ok-None-clause-answer
returns-in-Ok-None-clause-answer c =
    let before : Sources = c.args.sources.now.entries in
    let id : ℕ = c.u16_at-id.result in
    let kind : ℕ = c.u16_at-kind.result in
    let told : source_of c.args.bytes.now ≡ (c.u16_at-id.result, c.u16_at-kind.result) =
    λ i. (sym c.u16_at-id.ensures i, sym c.u16_at-kind.ensures i) in
    let new : type_with_id c.u16_at-id.result before ≡ None = sym c.in-Ok-None.ensures.old ∙ c.in-Ok-None.field-0-is in
    ap (followed before) told
    ∙ followed_new before id kind new
    ∙ ap (λ (sources : Sources). Ok sources)
    (sym (insert_entry-new nat_eq c.args.sources.now id kind new) ∙ sym c.in-Ok-None.ensures.entries)
