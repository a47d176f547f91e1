-- The lines so far are those of the metrics so far.
use Rattle.std.proofs.Common.{◌≡◌, ◌++◌, take}
use Rattle.std.specs.List.{flat_map}
use Rattle.listing_texts.specs.Metrics.{family_text}
use Rattle.listing_texts.proofs.metrics.push_families.Given as goal

abbrev pub invariant-loop-i : goal.invariant-loop-i
invariant-loop-i l = l.text.items ≡ l.fn.text.items ++ flat_map (family_text l.account.state) (take l.i l.metrics)
