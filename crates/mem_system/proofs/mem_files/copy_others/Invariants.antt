-- The first files are copied.
use Rattle.std.proofs.Common.{◌≡◌, map, take}
use Rattle.mem_system.specs.Steps.MemFiles.{other_seen}
use Rattle.mem_system.proofs.mem_files.copy_others.Given as goal

abbrev pub invariant-loop-other : goal.invariant-loop-other
invariant-loop-other l = map other_seen l.copied.items ≡ map other_seen (take l.other-index l.others)
