-- A kernel in memory: what it has beside its system, and which of the system's calls its calls are.
use Rattle.std.specs.Prelude.{◌≡◌, Option, None, Some, Result, Ok, Err}
use Rattle.host_system.specs.Folder.{FolderChange, opens, locks}
use Rattle.host_system.specs.declared.kernel.Refusal.{Refusal}
use Rattle.host_system.specs.declared.kernel.Refusal.TheVariants.{Other}
use Rattle.mem_system.specs.MemSystem.{MemState, Performs}
use Rattle.mem_system.specs.SystemCall.{SystemCall, did, failed}
use Rattle.mem_system.specs.declared.mem_system.mem_kernel.Prepared.{Prepared}
use Rattle.mem_system.specs.declared.mem_system.mem_kernel.Prepared.TheVariants.{Nothing, Opened, Locked}

-- the change that the last calls have prepared
abbrev pub change_prepared : Prepared → Option FolderChange
change_prepared Nothing = None
change_prepared (Opened name) = Some (opens name)
change_prepared (Locked name) = Some (locks name)

-- The kernel's call was this call of the system: it succeeded or failed as the system's did.
abbrev pub Serves : SystemCall → Result (Unit {0}) Refusal → MemState → MemState → Type 0
Serves call (Ok done) old new = Performs call did old new
Serves call (Err why) old new = (why ≡ Other) × Performs call failed old new
