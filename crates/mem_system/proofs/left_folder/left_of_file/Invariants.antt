-- A crash may leave the bytes so far of the file with the writes so far.
use Rattle.std.proofs.Common.{map, take}
use Rattle.board_core.specs.DiskModel.{MayLeaveFile}
use Rattle.mem_system.specs.Steps.MemFiles.{synced_or, range_of}
use Rattle.mem_system.proofs.left_folder.left_of_file.Given as goal

abbrev pub invariant-loop-index : goal.invariant-loop-index
invariant-loop-index l = MayLeaveFile (record { synced = synced_or l.file.synced l.file.bytes.items; written = map range_of (take l.index l.file.written.items) }) l.left.items
