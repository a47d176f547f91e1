use Rattle.std.proofs.Common.{◌∙◌, ◌++◌, List, ℕ, take, drop, ap}
use Rattle.ras_base.specs.LittleEndian.{u64_bytes}
use Rattle.ras_recover.proofs.formatting.put_count.Goals as goal

pub returns : goal.returns
unfolding u64_bytes
returns c = ap (λ (l : List ℕ). take 16 c.args.bytes.now ++ (l ++ drop 8 (drop 16 c.args.bytes.now))) (c.copy_from_slice.ensures.after ∙ c.to_le_bytes.ensures)
