use Rattle.std.proofs.Common.{◌<◌, ap, ◌∙◌, arith}
use Rattle.std.specs.Prelude.{slice_get}
use Rattle.apei_sources.specs.Blocks.{entry_at}
use Rattle.cper_records.specs.Header.{section_count}
use Rattle.cper_pcie.specs.Reports.{block_section, record_section}
use Rattle.cper_pcie.specs.Steps.Filtering.{sections_in}
use Rattle.cper_pcie.proofs.ReportLemmas.{record-at, record-below, block-at, block-below, found-is}
use Rattle.cper_pcie.proofs.reports.Sections.get.Goals as goal

pub overflow_cast-i : goal.overflow_cast-i
overflow_cast-i c =
    let below : c.args.i < section_count c.in-Record.rec = record-below c.args.self.now c.in-Record.rec c.args.i c.in-Record.is c.requires in
    omega arith

pub section-requires : goal.section-requires
section-requires c = record-below c.args.self.now c.in-Record.rec c.args.i c.in-Record.is c.requires

pub returns-in-Record : goal.returns-in-Record
returns-in-Record c =
    ap (λ s. slice_get (sections_in s) c.args.i) c.in-Record.is
    ∙ record-at c.in-Record.rec c.args.i (record-below c.args.self.now c.in-Record.rec c.args.i c.in-Record.is c.requires)
    ∙ found-is (record { guid = c.section.result.guid; severity = c.section.result.severity; bytes = c.section.result.bytes.now }) (record_section c.in-Record.rec c.args.i)
    c.section.ensures.guid c.section.ensures.severity c.section.ensures.bytes

pub returns-in-Block : goal.returns-in-Block
returns-in-Block c =
    ap (λ s. slice_get (sections_in s) c.args.i) c.in-Block.is
    ∙ block-at c.in-Block.block c.args.i (block-below c.args.self.now c.in-Block.block c.args.i c.in-Block.is c.requires)
    ∙ found-is (record { guid = c.entry.result.guid; severity = c.entry.result.severity; bytes = c.entry.result.bytes.now }) (block_section (entry_at c.in-Block.block c.args.i))
    c.entry.ensures.guid c.entry.ensures.severity c.entry.ensures.bytes
