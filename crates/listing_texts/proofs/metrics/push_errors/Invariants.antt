-- The lines so far are those of the rows so far.
use Rattle.std.proofs.Common.{◌≡◌, ◌++◌, take}
use Rattle.listing_texts.proofs.MetricsLemmas.{error_lines}
use Rattle.std.specs.List.{flat_map}
use Rattle.listing_texts.proofs.metrics.push_errors.Given as goal

abbrev pub invariant-loop-i : goal.invariant-loop-i
invariant-loop-i l = l.text.items ≡ l.fn.text.items ++ flat_map error_lines (take l.i l.account.state.modules)
