use Rattle.std.proofs.Common.{refl}
use Rattle.ras_host.proofs.KeptLemmas.{put_back_stays}
use Rattle.ras_host.proofs.kept.Kept.act.Goals as goal

pub returns-in_default-clause-err : goal.returns-in_default-clause-err
returns-in_default-clause-err c = put_back_stays _ c.args.saved c.args.saved _ c.put_back.ensures.here c.put_back.ensures.device refl
