-- One more entry.
use Rattle.std.proofs.Common.{◌≡◌, ◌<◌, Ok, length, arith, ap, sym, ◌∙◌}
use Rattle.apei_sources.specs.Blocks.{entry_at}
use Rattle.apei_sources.specs.Entries.{entry_guid, entry_data}
use Rattle.cper_sections.specs.Sections.{section_of}
use Rattle.ras_facts.specs.Reported.{Read, entry_item, section_item}
use Rattle.ras_facts.proofs.ItemLemmas.{mapped_more, valid_more}
use Rattle.ras_facts.specs.Reports.{entry_detail, section_detail}
use Rattle.ras_facts.proofs.block.report_of_block.Goals as goal

pub loop-i-preserved : goal.loop-i-preserved
loop-i-preserved c =
    let entries = c.args.block.now.entries in
    let entry = entry_at c.args.block.now c.loop-i.i in
    let read = c.entry-read.ensures in
    let found : Ok c.entry-read.result.section ≡ section_of (entry_guid entry) (entry_data entry) = sym read.section ∙ (λ k. section_of (read.guid k) (read.bytes k)) in
    let below : c.loop-i.i < length entries = omega (arith, c.loop-i-test.true, c.count-i-end.ensures) in (
      record {
        same = mapped_more (entry_item c.args.topology.now) entries c.loop-i.i _ _ _ below c.loop-i.invariant.0.same c.in_ok-push.ensures.ok
            (c.in_ok-section_item.ensures.item ∙ (λ k. section_item c.args.topology.now (read.severity k) (found k)));
        valid = valid_more _ _ _ c.loop-i.invariant.0.valid c.in_ok-push.ensures.ok c.in_ok-section_item.ensures.valid;
      },
      mapped_more entry_detail entries c.loop-i.i _ _ _ below c.loop-i.invariant.1 c.in_ok-push-2.ensures.ok (c.detail_of.ensures ∙ ap (λ (r : Read). section_detail r) found),
    )
