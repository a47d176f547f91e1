use Rattle.std.specs.Prelude.{vec_len, vec_capacity}
use Rattle.mem_system.proofs.LeftLemmas.{never}
use Rattle.mem_system.proofs.mem_files.MemFiles.rename.Goals as goal

pub returns-clause-err : goal.returns-clause-err
returns-clause-err c = never c.renew-2.result _ (vec_len c.reserve.new.self) (vec_capacity c.reserve.new.self) c.in_ok-reserve.ensures.ok c.renew-2.ensures.full
