use Rattle.ras_base.specs.LittleEndian.{u16_bytes, u64_bytes}
use Rattle.entry_format.specs.Spelling.{name_bytes}
use Rattle.entry_format.proofs.writing.push_name.Goals as goal

pub returns-in_ok-extend_from_slice-in-Bank : goal.returns-in_ok-extend_from_slice-in-Bank
unfolding name_bytes u16_bytes u64_bytes
returns-in_ok-extend_from_slice-in-Bank c =
    let added = rw (c.to_le_bytes.ensures, c.to_le_bytes-in-Bank.ensures, c.to_le_bytes-in-Bank-2.ensures) at c.in_ok-extend_from_slice-in-Bank.ensures.items in
    rw c.in-Bank.is added
