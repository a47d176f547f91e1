-- The records so far are copied.
use Rattle.std.proofs.Common.{◌≡◌, take}
use Rattle.erst_store.specs.Steps.View.{views}
use Rattle.erst_store.proofs.store.copies.Given as goal

abbrev pub invariant-loop-record : goal.invariant-loop-record
invariant-loop-record l = views l.copied.items ≡ views (take l.record-index l.records)
