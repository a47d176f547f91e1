-- The weights so far are those of the classes so far.
use Rattle.std.proofs.Common.{◌≡◌, ◌++◌, take}
use Rattle.std.specs.List.{flat_map, zip}
use Rattle.listing_texts.specs.Listing.{class_count}
use Rattle.listing_texts.proofs.listing.push_class_counts.Given as goal

abbrev pub invariant-loop-i : goal.invariant-loop-i
invariant-loop-i l = l.text.items ≡ l.fn.text.items ++ flat_map class_count (take l.i (zip l.classes l.sums))
