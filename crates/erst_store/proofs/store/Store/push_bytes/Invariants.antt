use Rattle.std.proofs.Common.{◌≡◌, ◌++◌, length, take}
use Rattle.std.specs.List.{flat_map}
use Rattle.erst_store.specs.StoreFile.{heading, record_bytes}
use Rattle.erst_store.proofs.store.Store.push_bytes.Given as goal

abbrev pub invariant-loop-i : goal.invariant-loop-i
invariant-loop-i l = l.out.items ≡ (l.fn.out.items ++ heading (length l.self)) ++ flat_map record_bytes (take l.i l.self)
