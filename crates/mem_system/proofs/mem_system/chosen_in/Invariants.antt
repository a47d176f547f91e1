-- No failure so far was chosen for this call.
use Rattle.std.proofs.Common.{◌≡◌, map, drop}
use Rattle.mem_system.specs.MemSystem.{chosen_at}
use Rattle.mem_system.specs.Steps.Calls.{choice_seen}
use Rattle.mem_system.proofs.mem_system.chosen_in.Given as goal

abbrev pub invariant-loop-choice : goal.invariant-loop-choice
invariant-loop-choice l = chosen_at l.call (map choice_seen l.fails) ≡ chosen_at l.call (map choice_seen (drop l.choice-index l.fails))
