-- The lines so far are those of the rows so far.
use Rattle.std.proofs.Common.{◌≡◌, ◌++◌, take}
use Rattle.std.specs.List.{flat_map}
use Rattle.listing_texts.specs.Listing.{counts_line}
use Rattle.listing_texts.proofs.listing.push_all_counts.Given as goal

abbrev pub invariant-loop-i : goal.invariant-loop-i
invariant-loop-i l = l.text.items ≡ l.fn.text.items ++ flat_map counts_line (take l.i l.account.state.modules)
