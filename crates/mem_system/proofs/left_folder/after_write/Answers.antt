use Rattle.std.proofs.Common.{◌+◌, length, arith}
use Rattle.mem_system.specs.Steps.MemFiles.{range_of}
use Rattle.mem_system.proofs.LeftLemmas.{unwritten, less_ok}
use Rattle.mem_system.proofs.left_folder.after_write.Goals as goal

pub returns-in-Old : goal.returns-in-Old
returns-in-Old c = unwritten (range_of c.args.write.now) c.args.old.items

pub returns-in-New : goal.returns-in-New
returns-in-New c = less_ok c.lay.result c.args.write.now.place (length c.deref.result.now) (length c.args.write.now.bytes.items + c.args.write.now.missing) c.args.old.items (rw c.deref.ensures.value (omega arith)) c.lay.ensures
