use Rattle.std.proofs.Common.{◌≡◌}
use Rattle.ras_account.proofs.ModuleRowLemmas.{mark_first}
use Rattle.ras_account.proofs.modules.Modules.mark.Given as goal

-- The rows so far have lost their buckets.
abbrev pub invariant-loop-place : goal.invariant-loop-place
invariant-loop-place l = record {
  rows : l.self-inside.table.rows ≡ mark_first l.place l.initial.self-inside.table.rows;
  waiting : l.self-inside.table.waiting ≡ l.initial.self-inside.table.waiting;
}
