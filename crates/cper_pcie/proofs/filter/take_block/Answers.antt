use Rattle.std.proofs.Common.{◌≤◌, length, sym, ◌∙◌, arith}
use Rattle.cper_pcie.specs.Reports.{block_sections}
use Rattle.cper_pcie.proofs.LineLemmas.{few-on-ok, sections-few}
use Rattle.cper_pcie.proofs.filter.take_block.Goals as goal

pub take-requires : goal.take-requires
take-requires c =
    let few : length (block_sections c.in-Ok.block) ≤ 40000 =
    sections-few 40000 c.args.bytes.now c.in-Ok.block (sym c.read_block.ensures ∙ c.in-Ok.is) c.requires.bytes in
    omega (arith, c.requires.few)

pub returns-in-Ok-clause-few : goal.returns-in-Ok-clause-few
returns-in-Ok-clause-few c =
    let few : length (block_sections c.in-Ok.block) ≤ 40000 =
    sections-few 40000 c.args.bytes.now c.in-Ok.block (sym c.read_block.ensures ∙ c.in-Ok.is) c.requires.bytes in
    few-on-ok c.take.result c.take.new.self.totals.sections c.args.counted.now.totals.sections (length (block_sections c.in-Ok.block)) c.take.ensures.few (omega arith)
