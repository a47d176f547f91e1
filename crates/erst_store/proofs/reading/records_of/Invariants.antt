use Rattle.std.proofs.Common.{◌≡◌, ◌-◌, []}
use Rattle.erst_store.specs.StoreReading.{records_at}
use Rattle.erst_store.proofs.reading.records_of.Given as goal

abbrev pub invariant-loop : goal.invariant-loop
invariant-loop l = records_at (l.count - l.counter) l.store l.rest ≡ records_at l.count [] l.bytes
