use Rattle.std.proofs.Common.{take, refl, arith}
use Rattle.erst_store.proofs.DeviceLemmas.{out_short, out_long, found_record}
use Rattle.erst_store.proofs.device.record_in.Goals as goal

pub returns-then-length-lt-HEADER_LENGTH : goal.returns-then-length-lt-HEADER_LENGTH
returns-then-length-lt-HEADER_LENGTH c =
    out_short c.args.range.now c.args.offset c.u32_at-length.result (rw (← c.split_at.ensures.back) c.u32_at-length.ensures) c.if-length-lt-HEADER_LENGTH.true

pub returns-then-rest-length : goal.returns-then-rest-length
returns-then-rest-length c =
    out_long c.args.range.now c.args.offset c.u32_at-length.result c.requires (omega (arith, c.if-offset.false)) (rw (← c.split_at.ensures.back) c.u32_at-length.ensures) (rw (← c.split_at.ensures.back) c.if-rest-length.true)

pub returns : goal.returns
returns c =
    found_record c.args.range.now c.args.offset c.u32_at-length.result c.u64_at.result (take c.u32_at-length.result c.split_at.result.1.now)
    c.requires (omega (arith, c.if-offset.false)) (rw (← c.split_at.ensures.back) c.u32_at-length.ensures)
    c.if-length-lt-HEADER_LENGTH.false (rw (← c.split_at.ensures.back) c.if-rest-length.false)
    (rw (← c.split_at.ensures.back) c.u64_at.ensures) (rw (← c.split_at.ensures.back) refl)
