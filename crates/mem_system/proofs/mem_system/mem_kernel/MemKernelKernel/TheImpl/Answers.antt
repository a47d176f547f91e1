-- Each call obeys the clauses of `Kernel`.
use Rattle.std.proofs.Common.{rules, Some}
use Rattle.host_system.specs.FolderPast.{IfTold, MayPrint}
use Rattle.mem_system.specs.SystemCall.{to_print}
use Rattle.mem_system.proofs.CallLemmas.{refused_told, may_print}
use Rattle.mem_system.proofs.mem_system.mem_kernel.MemKernelKernel.TheImpl.Goals as goal

pub write-tells : goal.write-tells
write-tells c =
    let bytes = c.args.bytes.now in
    let old = c.args.self.now.system in
    record {
      told = search rules;
      failed = refused_told (to_print bytes) c.result old c.new.self.now.system (λ p. IfTold (MayPrint bytes) (Some old.past) (Some p)) (λ work. may_print bytes work old.past) c.ensures.serves;
      cause = c.ensures.cause;
    }
