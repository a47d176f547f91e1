use Rattle.std.specs.Vec.Iter.{into_iter_items, into_iter_len}
use Rattle.ras_recover.proofs.ReadingLemmas.{Counting}
use Rattle.ras_recover.proofs.links.count_entries.Given as goal

-- The entries that are left, and the account once they are counted too.
abbrev pub invariant-loop-entry : goal.invariant-loop-entry
invariant-loop-entry l = Counting l.fn.account.state l.fn.entries.items (into_iter_items l.entry-iterator) (into_iter_len l.entry-iterator) l.account
