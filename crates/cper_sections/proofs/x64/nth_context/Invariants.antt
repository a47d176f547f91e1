-- The requested context is among the contexts left.
use Rattle.std.proofs.Common.{◌≡◌, ◌+◌, ◌-◌, length}
use Rattle.std.specs.Prelude.{slice_get}
use Rattle.cper_sections.specs.X64.{contexts_in}
use Rattle.cper_sections.proofs.x64.nth_context.Given as goal

abbrev pub invariant-loop-passed : goal.invariant-loop-passed
invariant-loop-passed l =
    (l.passed + length (contexts_in (l.stated - l.passed) l.rest) ≡ length (contexts_in l.stated l.fn.bytes))
    × (slice_get (contexts_in (l.stated - l.passed) l.rest) (l.i - l.passed) ≡ slice_get (contexts_in l.stated l.fn.bytes) l.i)
