use Rattle.std.proofs.Common.{◌≡◌, ◌<◌, List, length, get_or, subst}
use Rattle.mem_system.specs.declared.mem_files.MemWrite.{MemWrite}
use Rattle.mem_system.specs.Steps.MemFiles.{synced_or}
use Rattle.mem_system.proofs.LeftLemmas.{laid_on}
use Rattle.mem_system.proofs.left_folder.left_of_file.Goals as goal

pub loop-index-preserved : goal.loop-index-preserved
loop-index-preserved c =
    laid_on (synced_or c.args.file.now.synced c.args.file.now.bytes.items) c.args.file.now.written.items c.loop-index.index c.write-item.result c.loop-index.left.items c.in_ok-left.left.items
    (subst (λ (writes : List MemWrite). c.loop-index.index < length writes) c.deref-write-items.ensures.value c.loop-index-test.true)
    (subst (λ (writes : List MemWrite). c.write-item.result ≡ get_or writes c.loop-index.index c.write-item.result) c.deref-write-items.ensures.value c.write-item.is)
    c.loop-index.invariant c.in_ok-left.ensures
