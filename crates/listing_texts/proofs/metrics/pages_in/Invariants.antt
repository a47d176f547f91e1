-- The count so far is the count of the pages so far.
use Rattle.std.proofs.Common.{◌≡◌, take}
use Rattle.std.specs.Prelude.{count_by}
use Rattle.listing_texts.specs.Metrics.{is_page_in}
use Rattle.listing_texts.proofs.metrics.pages_in.Given as goal

abbrev pub invariant-loop-i : goal.invariant-loop-i
invariant-loop-i l = l.count ≡ count_by (is_page_in l.state) (take l.i l.fn.account.state.pages)
