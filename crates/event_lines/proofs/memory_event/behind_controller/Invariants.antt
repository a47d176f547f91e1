use Rattle.std.proofs.Common.{◌≡◌, length}
use Rattle.std.specs.Option.{option_map, option_or}
use Rattle.event_lines.specs.Memory.{behind_controller}
use Rattle.event_lines.proofs.memory_event.behind_controller.Given as goal

-- the last ` (mc:` is in the rest, or is the last one found so far
abbrev pub invariant-loop-behind : goal.invariant-loop-behind
invariant-loop-behind l = option_or (behind_controller l.rest) (option_map (λ found. found.now) l.found) ≡ behind_controller l.text

abbrev pub decreases-loop-behind : goal.decreases-loop-behind
decreases-loop-behind l = length l.rest
