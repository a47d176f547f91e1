-- The records so far are counted.
use Rattle.std.proofs.Common.{◌≡◌, ◌+◌, ◌*◌, ◌≤◌, length}
use Rattle.erst_store.proofs.FileLemmas.{front}
use Rattle.erst_store.proofs.file.length_before.Given as goal

abbrev pub invariant-loop-i : goal.invariant-loop-i
invariant-loop-i l = (l.before ≡ 12 + length (front l.store l.i)) × (l.before ≤ 12 + 16396 * l.i)
