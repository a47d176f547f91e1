use Rattle.std.proofs.Common.{◌≡◌}
use Rattle.ras_host.proofs.reading.read_journal.Given as goal

abbrev pub invariant-loop : goal.invariant-loop
invariant-loop g l = (g.S.System.told l.system ≡ g.S.System.told l.fn.system) × (g.S.System.faults l.system ≡ g.S.System.faults l.fn.system)
