use Rattle.std.proofs.Common.{◌≡◌, ◌≤◌, ◌*◌, length, take}
use Rattle.std.specs.List.{flat_map}
use Rattle.entry_format.specs.declared.version.Version.TheVariants.{Two}
use Rattle.journal_format.specs.Checkpoints.{module_bytes}
use Rattle.journal_format.proofs.sizes.modules_len.Given as goal

abbrev pub invariant-loop-i : goal.invariant-loop-i
invariant-loop-i l = record {
  length_is : l.total ≡ length (flat_map (module_bytes Two) (take l.i l.account.state.modules));
  most : l.total ≤ 131 * l.i;
}
