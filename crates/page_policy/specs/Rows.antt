-- What one report of a page does to the page's row, and the order that follows. These rules are this project's own: a
-- page is soft-offlined at too many corrected errors or at an uncorrected one that nothing has used yet, and
-- hard-offlined at each other uncorrected error of a known class.
use Rattle.std.specs.Prelude.{ℕ, ◌≡◌, Bool, true, false, nat_lt, if◌then◌else◌, Option, Some, None}
use Rattle.mca_status.specs.declared.classes.ItemClass.{ItemClass}
use Rattle.mca_status.specs.declared.classes.ItemClass.TheVariants.{Ce, Ucna, Srao, Srar, Uc, Odd, Corrected, Recoverable, Fatal, Informational}
use Rattle.page_policy.specs.declared.buckets.Limit.{Limit}
use Rattle.page_policy.specs.declared.rows.Order.{Order}
use Rattle.page_policy.specs.declared.rows.Order as Ordered
use Rattle.page_policy.specs.declared.rows.PageState.{PageState}
use Rattle.page_policy.specs.declared.rows.PageState.TheVariants.{Kept, Soft, Hard}
use Rattle.page_policy.specs.declared.rows.PageRow.{PageRow}
use Rattle.page_policy.specs.Buckets.{trips, bucket_after}

-- A report of a page: an item that names the page, with its time in seconds and the limit in force.
pub record PageReport : Type 0 where
  pub page : ℕ
  pub class : ItemClass
  pub seconds : ℕ
  pub weight : ℕ
  pub limit : Limit

abbrev pub report : ℕ → ItemClass → ℕ → ℕ → Limit → PageReport
report page class seconds weight limit = record { page = page; class = class; seconds = seconds; weight = weight; limit = limit }

-- Whether an item reports corrected errors, which fill the page's bucket.
abbrev pub is_corrected : ItemClass → Bool
is_corrected Ce = true
is_corrected Corrected = true
is_corrected Ucna = false
is_corrected Srao = false
is_corrected Srar = false
is_corrected Uc = false
is_corrected Odd = false
is_corrected Recoverable = false
is_corrected Fatal = false
is_corrected Informational = false

-- The state that an item calls for. The Bool is whether the item makes the bucket trip.
abbrev pub state_called_for : ItemClass → Bool → PageState
state_called_for Ce trip = if trip then Soft else Kept
state_called_for Corrected trip = if trip then Soft else Kept
state_called_for Ucna trip = Soft
state_called_for Srao trip = Hard
state_called_for Srar trip = Hard
state_called_for Recoverable trip = Hard
state_called_for Uc trip = Hard
state_called_for Fatal trip = Hard
state_called_for Odd trip = Kept
state_called_for Informational trip = Kept

-- A class calls for a hard order, whatever the bucket does.
abbrev pub CallsForHard : ItemClass → Type 0
CallsForHard class = state_called_for class false ≡ Hard

-- how high a state is
abbrev pub height : PageState → ℕ
height Kept = 0
height Soft = 1
height Hard = 2

-- the higher of two states
abbrev pub higher : PageState → PageState → PageState
higher one other = if nat_lt (height one) (height other) then other else one

-- the row of a page that is first reported at this time
abbrev pub new_row : ℕ → PageRow
new_row seconds = record { bucket = record { count = 0; stamp = seconds }; state = Kept }

-- the state that a report of a page with this row calls for
abbrev pub state_called_by : PageRow → PageReport → PageState
state_called_by row r = state_called_for r.class (trips r.limit r.seconds r.weight row.bucket)

-- the row after a report of its page: corrected errors fill the bucket, and the state only rises
abbrev pub row_after : PageRow → PageReport → PageRow
row_after row r = record {
  bucket = if is_corrected r.class then bucket_after r.limit r.seconds r.weight row.bucket else row.bucket;
  state = higher row.state (state_called_by row r);
}

-- the order that takes a page to a state
abbrev pub order_to : ℕ → PageState → Option Order
order_to page Kept = None
order_to page Soft = Some (Ordered.TheVariants.Soft page)
order_to page Hard = Some (Ordered.TheVariants.Hard page)

-- The order when a page's state changes from one to another. There is an order if and only if the state rose.
abbrev pub order_between : ℕ → PageState → PageState → Option Order
order_between page before now = if nat_lt (height before) (height now) then order_to page now else None
