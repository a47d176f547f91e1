-- One more section, and a fact that is valid.
use Rattle.std.proofs.Common.{ℕ, ◌≡◌, Ok, arith, ap, sym, ◌∙◌}
use Rattle.cper_records.specs.Descriptors.{section_at}
use Rattle.cper_sections.specs.Sections.{section_of}
use Rattle.ras_facts.specs.Reported.{Read, section_item, record_item}
use Rattle.ras_facts.proofs.ItemLemmas.{items_count, numbered_more, valid_more}
use Rattle.ras_facts.specs.Reports.{section_detail}
use Rattle.ras_facts.specs.declared.details.Detail.{Detail}
use Rattle.ras_facts.proofs.record.report_of_record.Goals as goal

pub loop-i-preserved : goal.loop-i-preserved
loop-i-preserved c =
    let read = c.section-read.ensures in
    let own = c.args.rec.now in
    let found : Ok c.section-read.result.section ≡ section_at own c.loop-i.i = sym read.section ∙ (λ k. section_of (read.guid k) (read.bytes k)) in
    let detail : ℕ → Detail = λ i. section_detail (section_at own i) in (
      record {
        same = numbered_more (record_item c.args.topology.now own) c.loop-i.i _ _ _ c.loop-i.invariant.0.same c.in_ok-push.ensures.ok
            (c.in_ok-section_item.ensures.item ∙ (λ k. section_item c.args.topology.now (read.severity k) (found k)));
        valid = valid_more _ _ _ c.loop-i.invariant.0.valid c.in_ok-push.ensures.ok c.in_ok-section_item.ensures.valid;
      },
      numbered_more detail c.loop-i.i _ _ _ c.loop-i.invariant.1 c.in_ok-push-2.ensures.ok (c.detail_of.ensures ∙ ap (λ (r : Read). section_detail r) found),
    )

pub returns-clause-valid : goal.returns-clause-valid
returns-clause-valid c =
    let count = items_count (record_item c.args.topology.now c.args.rec.now) c.loop-i.i c.loop-i.items c.loop-i.invariant.0 in
    record {
      name = omega arith;
      seconds = omega arith;
      count = omega (arith, count, c.loop-i.auto, c.count-i-end.type_inv);
      items = c.loop-i.invariant.0.valid;
    }
