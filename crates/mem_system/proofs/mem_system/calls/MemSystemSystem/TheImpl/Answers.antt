-- Each call obeys the clauses of `System`.
use Rattle.std.proofs.Common.{rules, Some}
use Rattle.mem_system.specs.SystemCall.{to_print}
use Rattle.host_system.specs.FolderPast.{IfTold, MayPrint}
use Rattle.mem_system.proofs.CallLemmas.{failed_told, may_print}
use Rattle.mem_system.proofs.mem_system.calls.MemSystemSystem.TheImpl.Goals as goal

pub print-tells : goal.print-tells
print-tells c =
    let bytes = c.args.bytes.now in
    record {
      told = search rules;
      failed = failed_told (to_print bytes) c.result c.args.self.now c.new.self.now (λ p. IfTold (MayPrint bytes) (Some c.args.self.now.past) (Some p)) (λ work. may_print bytes work c.args.self.now.past) c.ensures.performs;
      cause = search rules;
    }
