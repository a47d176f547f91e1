use Rattle.mem_system.proofs.LeftLemmas.{copied_on}
use Rattle.mem_system.proofs.mem_files.copy_others.Goals as goal

pub loop-other-preserved : goal.loop-other-preserved
loop-other-preserved c =
    copied_on c.args.others.now c.loop-other.other-index c.other-item.result c.in_ok-made.made c.loop-other.copied.items _ c.loop-other-test.true c.other-item.is c.loop-other.invariant c.in_ok-push.ensures.items c.in_ok-made.ensures
