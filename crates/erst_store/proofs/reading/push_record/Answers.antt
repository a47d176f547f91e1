use Rattle.erst_store.proofs.ReadingLemmas.{put_parts}
use Rattle.ras_base.specs.LittleEndian.{u32_bytes, u64_bytes}
use Rattle.std.proofs.Common.{length}
use Rattle.erst_store.proofs.reading.push_record.Goals as goal

pub returns : goal.returns
returns c =
    rw (c.in_ok-extend_from_slice.ensures.items, c.in_ok-push_u32.ensures.ok, c.in_ok-push_u64.ensures.ok) (put_parts c.args.out.now.items (u64_bytes c.args.id) (u32_bytes (length c.args.bytes.now)) c.args.bytes.now)
