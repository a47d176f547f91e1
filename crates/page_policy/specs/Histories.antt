-- What a list of reports gives: a row for each page, and the orders.
use Rattle.std.specs.Prelude.{ℕ, ◌≡◌, ◌≢◌, ◌+◌, ◌<◌, ◌≤◌, ◌⊎◌, true, nat_eq, Option, Some, List, [], ◌∷◌, ◌++◌, All, fold, map}
use Rattle.std.specs.List.{filter_map}
use Rattle.std.specs.Map.{lookup}
use Rattle.std.specs.Option.{option_map_or}
use Rattle.ras_base.specs.Places.{places}
use Rattle.page_policy.specs.declared.buckets.Limit.{Limit}
use Rattle.page_policy.specs.declared.rows.Order.{Order}
use Rattle.page_policy.specs.declared.rows.Order.TheVariants.{Soft, Hard, Module}
use Rattle.page_policy.specs.declared.rows.PageState.{PageState}
use Rattle.page_policy.specs.declared.rows.PageState.TheVariants.{Kept}
use Rattle.page_policy.specs.declared.rows.PageState.TheVariants as state
use Rattle.page_policy.specs.declared.rows.PageRow.{PageRow}
use Rattle.page_policy.specs.Rows.{PageReport, height, higher, new_row, row_after, is_corrected, order_between}
use Rattle.row_tables.specs.Tables.{of_key, table, updated_rows}

-- the page that a report names
abbrev pub page_in : PageReport → Option ℕ
page_in r = Some r.page

-- the reports of a page in a history, in order
abbrev pub page_history : List PageReport → ℕ → List PageReport
page_history history page = of_key nat_eq page_in history page

-- the pages that reports name, in order
abbrev pub pages_named : List PageReport → List ℕ
pages_named reports = map (λ (r : PageReport). r.page) reports

-- the time of the first report of a list
abbrev pub first_seconds : List PageReport → ℕ
first_seconds [] = 0
first_seconds (r ∷ rs) = r.seconds

-- the row that the reports of one page give, taken in order, from a new row at the time of the first
abbrev pub page_row : List PageReport → PageRow
page_row reports = fold row_after (new_row (first_seconds reports)) reports

-- the rows of a history: each page in first-seen order, with the row that its own reports give
abbrev pub page_rows_of : List PageReport → List (ℕ × PageRow)
page_rows_of history = table nat_eq page_in page_row history

-- The state of a page in a table. A page without a row is Kept.
abbrev pub state_in : List (ℕ × PageRow) → ℕ → PageState
state_in rows page = option_map_or (λ (row : PageRow). row.state) (lookup (nat_eq page) rows) Kept

-- A table of rows continued by a report: the report changes its page's row, or appends a row.
abbrev pub rows_after : List (ℕ × PageRow) → PageReport → List (ℕ × PageRow)
rows_after rows r = updated_rows nat_eq r.page (row_after (new_row r.seconds) r) (λ row. row_after row r) rows

-- the order for a page when one table becomes another
abbrev pub order_at : ℕ → List (ℕ × PageRow) → List (ℕ × PageRow) → Option Order
order_at page before now = order_between page (state_in before page) (state_in now page)

-- From one table to the next, no page's state falls.
abbrev pub NeverFalls : List (ℕ × PageRow) → List (ℕ × PageRow) → Type 0
NeverFalls before now = (page : ℕ) → height (state_in before page) ≤ height (state_in now page)

-- From one table to the next, only this page's row may change.
abbrev pub OthersStay : ℕ → List (ℕ × PageRow) → List (ℕ × PageRow) → Type 0
OthersStay page before now =
    (other : ℕ) → other ≢ page → lookup (nat_eq other) now ≡ lookup (nat_eq other) before

-- The order of a report after the earlier reports of its page. There is an order if and only if the page's state
-- rises.
abbrev pub order_behind : ℕ → List PageReport → PageReport → Option Order
order_behind page earlier r = order_between page (page_row earlier).state (page_row (earlier ++ r ∷ [])).state

-- the order of a report after a history, which depends only on the reports of the same page
abbrev pub order_in : List PageReport → PageReport → Option Order
order_in history r = order_behind r.page (page_history history r.page) r

-- the orders of a page in a history, in order
abbrev pub orders_of : List PageReport → ℕ → List Order
orders_of history page = filter_map (λ p. order_behind page p.0 p.1) (places (page_history history page))

-- the state that an order asks for
abbrev pub state_asked : Order → PageState
state_asked (Soft page) = state.Soft
state_asked (Hard page) = state.Hard
state_asked (Module place) = Kept

-- the highest state that these orders ask for
abbrev pub state_under : List Order → PageState
state_under [] = Kept
state_under (order ∷ orders) = higher (state_asked order) (state_under orders)

-- The orders that a page may ever get: at most one Soft and one Hard, the Soft first.
abbrev pub AreOnceInOrder : ℕ → List Order → Type 0
AreOnceInOrder page orders =
    (orders ≡ [])
    ⊎ (orders ≡ Soft page ∷ [])
    ⊎ (orders ≡ Hard page ∷ [])
    ⊎ (orders ≡ Soft page ∷ Hard page ∷ [])

-- A report of one corrected error, under this limit and within a period after this time.
pub record IsSingle (limit : Limit) (from : ℕ) (r : PageReport) : Type 0 where
  pub corrected : is_corrected r.class ≡ true
  pub one : r.weight ≡ 1
  pub limit_is : r.limit ≡ limit
  pub within : r.seconds < from + limit.period

-- Reports of one corrected error each, under this limit and within a period of the first.
abbrev pub AreSingle : Limit → List PageReport → Type 0
AreSingle limit reports = All (IsSingle limit (first_seconds reports)) reports
