-- What the events so far wrote is set.
use Rattle.std.proofs.Common.{take}
use Rattle.board_core.specs.Steps.FileHistory.{ranges_of}
use Rattle.board_core.specs.Pick.{IsFilled}
use Rattle.board_core.proofs.leaving.fill.Given as goal

abbrev pub invariant-loop-event : goal.invariant-loop-event
invariant-loop-event l = IsFilled l.byte (ranges_of l.number (take l.event-index l.events)) l.initial.bytes l.bytes
