-- The bytes are the bytes after the events so far.
use Rattle.std.proofs.Common.{◌≡◌, take}
use Rattle.board_core.specs.Steps.FileHistory.{bytes_after_all}
use Rattle.board_core.proofs.leaving.repeat.Given as goal

abbrev pub invariant-loop-event : goal.invariant-loop-event
invariant-loop-event l = l.bytes.items ≡ bytes_after_all l.number (take l.event-index l.events) l.initial.bytes.items
