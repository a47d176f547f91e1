-- The block has as many entries as it counts.
use Rattle.std.proofs.Common.{◌∙◌, length, sym, ap}
use Rattle.apei_sources.specs.Blocks.{BlockParts}
use Rattle.apei_sources.proofs.CutLemmas.{length-cut}
use Rattle.apei_sources.proofs.blocks.Block.count.Goals as goal

pub returns : goal.returns
returns c =
    sym (length-cut c.self.inside.count c.self.inside.bytes.now)
    ∙ ap (λ (block : BlockParts). length block.entries) c.self.view_is
