use Rattle.mem_system.proofs.LeftLemmas.{lay_ok}
use Rattle.mem_system.proofs.left_folder.lay.Goals as goal

pub returns : goal.returns
returns c = lay_ok c.overlaid.result c.args.place c.args.bytes.now c.args.old.items c.pad.new.bytes.items c.deref.result.now c.deref.ensures.value c.in_ok-pad.ensures c.overlaid.ensures
