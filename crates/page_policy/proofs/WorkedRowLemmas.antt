-- Rows that were worked out by hand; the definitions compute the same rows.
use Rattle.std.proofs.Common.{◌≡◌, ℕ, List, [], ◌∷◌, ◌++◌, Some, map, refl}
use Rattle.mca_status.specs.declared.classes.ItemClass.TheVariants.{Ce, Ucna, Srao}
use Rattle.page_policy.specs.declared.buckets.Limit.{Limit}
use Rattle.page_policy.specs.declared.rows.Order.TheVariants.{Soft as OrderSoft, Hard as OrderHard}
use Rattle.page_policy.specs.declared.rows.PageState.TheVariants.{Kept, Soft}
use Rattle.page_policy.specs.Rows.{PageReport, report}
use Rattle.page_policy.specs.Histories.{page_rows_of, orders_of, order_behind}

-- ten errors a day
abbrev ten_a_day : Limit
ten_a_day = record { capacity = 10; period = 86400 }

abbrev corrected : ℕ → PageReport
corrected seconds = report 74565 Ce seconds 1 ten_a_day

abbrev nine : List PageReport
nine = map corrected (1000 ∷ 1000 ∷ 1000 ∷ 1000 ∷ 1000 ∷ 1000 ∷ 1000 ∷ 1000 ∷ 1000 ∷ [])

-- The tenth within a day trips the bucket.
tenth_within : page_rows_of (nine ++ corrected 87399 ∷ []) ≡ (74565, record { bucket = record { count = 0; stamp = 1000 }; state = Soft }) ∷ []
tenth_within = refl

tenth_ordered : order_behind 74565 nine (corrected 87399) ≡ Some (OrderSoft 74565)
tenth_ordered = refl

-- After a whole day the nine have leaked out.
tenth_later : page_rows_of (nine ++ corrected 87400 ∷ []) ≡ (74565, record { bucket = record { count = 1; stamp = 87400 }; state = Kept }) ∷ []
tenth_later = refl

-- Many at once trip it too, and two pages have separate buckets.
at_once : page_rows_of (corrected 5 ∷ report 7 Ce 5 32767 ten_a_day ∷ [])
    ≡ (74565, record { bucket = record { count = 1; stamp = 5 }; state = Kept }) ∷ (7, record { bucket = record { count = 0; stamp = 5 }; state = Soft }) ∷ []
at_once = refl

-- Each order is given once, and no order after a hard one.
each_once : orders_of (report 7 Ucna 5 1 ten_a_day ∷ report 7 Ucna 6 1 ten_a_day ∷ report 8 Ucna 6 1 ten_a_day ∷ report 7 Srao 7 1 ten_a_day ∷ report 7 Srao 8 1 ten_a_day ∷ report 7 Ucna 9 1 ten_a_day ∷ []) 7
    ≡ OrderSoft 7 ∷ OrderHard 7 ∷ []
each_once = refl
