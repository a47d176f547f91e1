-- What a report does to the pages that have a row and the reserved pages.
use Rattle.std.specs.Prelude.{ℕ, ◌≡◌, nat_eq, if◌then◌else◌, List, drop}
use Rattle.row_tables.specs.Held.{Held, is_held, new_keys}
use Rattle.page_policy.specs.declared.buckets.Bucket.{Bucket}
use Rattle.page_policy.specs.declared.rows.PageRow.{PageRow}
use Rattle.page_policy.specs.declared.rows.PageState.{PageState}
use Rattle.page_policy.specs.Rows.{PageReport}
use Rattle.page_policy.specs.Histories.{rows_after}

-- The pages after a report is counted: a reserved page has a row now, and the other pages are still reserved.
abbrev pub pages_after : Held ℕ PageRow → PageReport → Held ℕ PageRow
pages_after held r = record {
  rows = rows_after held.rows r;
  waiting = if is_held nat_eq held.rows r.page then held.waiting else drop 1 held.waiting;
}

-- The reserved pages are exactly the pages that reports of these pages would add, so the reports can be counted in
-- turn.
abbrev pub AreReservedFor : Held ℕ PageRow → List ℕ → Type 0
AreReservedFor held pages = held.waiting ≡ new_keys nat_eq held.rows pages

-- a page with its bucket and its state
abbrev pub page_entry : ℕ → Bucket → PageState → ℕ × PageRow
page_entry page bucket state = (page, record { bucket = bucket; state = state })
