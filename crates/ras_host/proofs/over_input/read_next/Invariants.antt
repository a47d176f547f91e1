-- The interrupted reads took no bytes, and none of them counts as failed.
use Rattle.std.proofs.Common.{◌≡◌}
use Rattle.ras_host.proofs.over_input.read_next.Given as goal

abbrev pub invariant-loop : goal.invariant-loop
invariant-loop g l = (g.I.KernelInput.left l.input ≡ g.I.KernelInput.left l.initial.input) × (g.I.KernelInput.fails l.input ≡ g.I.KernelInput.fails l.initial.input)
