use Rattle.std.proofs.Common.{eqb, w8, arith}
use Rattle.std.proofs.lemmas.Simd.{bitmask_splat, length-chunk}
use lib.Lanes.{chunk}
use Rattle.ras_script.proofs.BlockLemmas.{block_places}
use Rattle.ras_script.proofs.blocks.places_at.Goals as goal

pub returns : goal.returns
returns c =
    let text = c.args.text.now in
    block_places c.args.byte text c.args.at _ c.requires (bitmask_splat w8 eqb (chunk c.args.at 16 text) 16 c.args.byte (length-chunk c.args.at 16 text c.requires) (omega arith))
