-- The lines so far are those of the classes so far.
use Rattle.std.proofs.Common.{◌≡◌, ◌++◌, take}
use Rattle.std.specs.List.{flat_map, zip}
use Rattle.listing_texts.specs.Metrics.{error_sample, sample_text}
use Rattle.listing_texts.proofs.metrics.push_class_errors.Given as goal

abbrev pub invariant-loop-i : goal.invariant-loop-i
invariant-loop-i l = l.text.items ≡ l.fn.text.items ++ flat_map (λ sum. sample_text (error_sample l.label sum)) (take l.i (zip l.classes l.sums))
