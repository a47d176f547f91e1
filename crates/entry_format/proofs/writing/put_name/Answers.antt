use Rattle.std.proofs.Common.{◌+◌, arith}
use Rattle.ras_base.specs.LittleEndian.{u16_bytes, u64_bytes}
use Rattle.entry_format.specs.Spelling.{name_bytes}
use Rattle.entry_format.proofs.BlockLemmas.{spelled_over}
use Rattle.entry_format.proofs.writing.put_name.Goals as goal

pub returns-in-Bank-clause-spelled : goal.returns-in-Bank-clause-spelled
unfolding name_bytes u16_bytes u64_bytes
returns-in-Bank-clause-spelled c =
    let added = rw (c.to_le_bytes.ensures, c.to_le_bytes-in-Bank.ensures, c.to_le_bytes-in-Bank-2.ensures) at c.copy_from_slice.ensures.after in
    rw c.in-Bank.is (spelled_over c.args.place _ (c.args.place + 20) c.args.room.now c.copy_from_slice.new.self _ (omega arith) (omega (arith, c.copy_from_slice.ensures.len)) added)

pub returns-in-Record-clause-spelled : goal.returns-in-Record-clause-spelled
unfolding name_bytes u64_bytes
returns-in-Record-clause-spelled c =
    let added = rw c.to_le_bytes-in-Record.ensures at c.copy_from_slice-in-Record.ensures.after in
    rw c.in-Record.is (spelled_over c.args.place _ (c.args.place + 9) c.args.room.now c.copy_from_slice-in-Record.new.self _ (omega arith) (omega (arith, c.copy_from_slice-in-Record.ensures.len)) added)

pub returns-in-Block-clause-spelled : goal.returns-in-Block-clause-spelled
unfolding name_bytes u16_bytes u64_bytes
returns-in-Block-clause-spelled c =
    let added = rw (c.to_le_bytes-in-Block.ensures, c.to_le_bytes-in-Block-2.ensures, c.to_le_bytes-in-Block-3.ensures) at c.copy_from_slice-in-Block.ensures.after in
    rw c.in-Block.is (spelled_over c.args.place _ (c.args.place + 19) c.args.room.now c.copy_from_slice-in-Block.new.self _ (omega arith) (omega (arith, c.copy_from_slice-in-Block.ensures.len)) added)

pub returns-in-Boot-clause-spelled : goal.returns-in-Boot-clause-spelled
unfolding name_bytes u64_bytes
returns-in-Boot-clause-spelled c =
    let added = rw c.to_le_bytes-in-Boot.ensures at c.copy_from_slice-in-Boot.ensures.after in
    rw c.in-Boot.is (spelled_over c.args.place _ (c.args.place + 9) c.args.room.now c.copy_from_slice-in-Boot.new.self _ (omega arith) (omega (arith, c.copy_from_slice-in-Boot.ensures.len)) added)
