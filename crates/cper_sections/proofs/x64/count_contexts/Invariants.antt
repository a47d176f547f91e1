-- The contexts that were counted and the contexts left are all.
use Rattle.std.proofs.Common.{◌≡◌, ◌+◌, ◌-◌, length}
use Rattle.cper_sections.specs.X64.{contexts_in}
use Rattle.cper_sections.proofs.x64.count_contexts.Given as goal

abbrev pub invariant-loop-count : goal.invariant-loop-count
invariant-loop-count l =
    l.count + length (contexts_in (l.stated - l.count) l.rest) ≡ length (contexts_in l.stated l.fn.bytes)
