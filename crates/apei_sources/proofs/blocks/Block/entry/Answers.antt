-- The entry is one of those that the block counts, and its section can be read.
use Rattle.std.proofs.Common.{length, ap, arith, ◌<◌}
use Rattle.apei_sources.specs.Blocks.{BlockParts}
use Rattle.apei_sources.proofs.CutLemmas.{length-cut, section_read}
use Rattle.apei_sources.proofs.blocks.Block.entry.Goals as goal

pub nth_entry-requires-clause-within : goal.nth_entry-requires-clause-within
nth_entry-requires-clause-within c =
    omega (
      arith,
      c.requires,
      ap
          (λ (block : BlockParts). length block.entries) c.self.view_is,
      length-cut c.self.inside.count c.self.inside.bytes.now,
    )

pub read-requires : goal.read-requires
read-requires c =
    let count = c.self.inside.count in
    let bytes = c.self.inside.bytes.now in
    let within : c.args.i < count =
    omega (arith, c.requires, ap (λ (block : BlockParts). length block.entries) c.self.view_is, length-cut count bytes) in
    rw (
      c.entry_section.ensures.guid,
      c.entry_section.ensures.bytes,
      c.nth_entry.ensures.entry,
    ) (section_read count c.args.i bytes c.self.invariant.readable within)
