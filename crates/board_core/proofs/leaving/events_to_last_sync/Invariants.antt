-- The events so far are parted at the last sync among them.
use Rattle.std.proofs.Common.{◌≤◌, take, drop}
use Rattle.board_core.specs.Steps.FileHistory.{ArePartedAtSync}
use Rattle.board_core.proofs.leaving.events_to_last_sync.Given as goal

abbrev pub invariant-loop-place : goal.invariant-loop-place
invariant-loop-place l = record {
  within : l.count ≤ l.place;
  parted : ArePartedAtSync l.number (take l.count l.events) (drop l.count (take l.place l.events)) (take l.place l.events);
}
