use Rattle.std.proofs.Common.{◌≡◌, ◌++◌, length, take}
use Rattle.std.specs.List.{flat_map}
use Rattle.ras_base.specs.LittleEndian.{u64_bytes}
use Rattle.journal_format.specs.Checkpoints.{module_bytes}
use Rattle.entry_format.specs.declared.version.Version.TheVariants.{Two}
use Rattle.journal_format.proofs.encoding.push_modules.Given as goal

abbrev pub invariant-loop-i : goal.invariant-loop-i
invariant-loop-i l =
    l.bytes.items ≡ l.fn.bytes.items ++ u64_bytes (length l.account.state.modules) ++ flat_map (module_bytes Two) (take l.i l.account.state.modules)
