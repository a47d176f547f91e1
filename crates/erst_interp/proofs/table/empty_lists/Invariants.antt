-- There are this many lists, and all are empty.
use Rattle.std.proofs.Common.{◌≡◌, ℕ, [], length, map}
use Rattle.erst_interp.specs.Table.{list_of}
use Rattle.erst_interp.proofs.table.empty_lists.Given as goal

abbrev pub invariant-loop : goal.invariant-loop
invariant-loop l = record {
  count : length l.lists.items ≡ l.counter;
  empty : (action : ℕ) → list_of action (map (λ v. v.items) l.lists.items) ≡ [];
}
