-- The lists have the entries so far, and the rest has those that follow.
use Rattle.std.proofs.Common.{◌-◌, ◌*◌, ◌≤◌, length, map}
use Rattle.erst_interp.specs.declared.entries.TheConstants.{ENTRY_LENGTH}
use Rattle.erst_interp.specs.Table.{instructions_at}
use Rattle.erst_interp.proofs.ListLemmas.{Hold}
use Rattle.erst_interp.proofs.table.lists_at.Given as goal

abbrev pub invariant-loop-done : goal.invariant-loop-done
invariant-loop-done l = record {
  room : ENTRY_LENGTH * (l.count - l.done) ≤ length l.rest;
  held : Hold (instructions_at l.count l.fn.bytes) (map (λ v. v.items) l.lists.items) (instructions_at (l.count - l.done) l.rest);
}
