-- The table of pages: a report's row that replaces its page's row, and small buckets.
use Rattle.std.proofs.Common.{◌≡◌, ℕ, zero, suc, ◌≤◌, Bool, true, false, nat_eq, cond, if◌then◌else◌, List, [], ◌∷◌, ◌++◌, Some, unwrap_or, sym, ap, slice_get, subst, arith}
use Rattle.std.specs.Map.{values_of, lookup}
use Rattle.row_tables.specs.Tables.{updated_rows}
use Rattle.row_tables.specs.Held.{Held, with_row}
use Rattle.row_tables.proofs.TableLemmas.{updated-looked}
use Rattle.page_policy.specs.declared.rows.PageRow.{PageRow}
use Rattle.page_policy.specs.Buckets.{most_count}
use Rattle.page_policy.specs.Rows.{PageReport, new_row, row_after}
use Rattle.page_policy.specs.Pages.{pages_after}
use Rattle.page_policy.specs.Steps.AreSmall.{AreSmall}

-- the row of a report's page, or a new one
abbrev pub row_for : List (ℕ × PageRow) → PageReport → PageRow
row_for rows r = unwrap_or (lookup (nat_eq r.page) rows) (new_row r.seconds)

-- The pages once the row after a report replaces the page's row.
pub with_row-after : (held : Held ℕ PageRow) (r : PageReport) (row : PageRow) → row ≡ row_after (row_for held.rows r) r → with_row nat_eq held r.page row ≡ pages_after held r
with_row-after held r row is =
    ap (λ (rows : List (ℕ × PageRow)). record (with_row nat_eq held r.page row) { rows = rows })
    (updated-looked nat_eq r.page (new_row r.seconds) (λ (row : PageRow). row_after row r) row held.rows is)

-- small buckets
pub small-lookup : (rows : List (ℕ × PageRow)) (page seconds : ℕ) → AreSmall rows → (unwrap_or (lookup (nat_eq page) rows) (new_row seconds)).bucket.count ≤ most_count
small-lookup [] page seconds all = omega arith
small-lookup (e ∷ es) page seconds all = by (nat_eq page e.0) (small-lookup es page seconds all.1)
  where
    by : (b : Bool) → (unwrap_or (lookup (nat_eq page) es) (new_row seconds)).bucket.count ≤ most_count
        → (unwrap_or (cond b (Some e.1) (lookup (nat_eq page) es)) (new_row seconds)).bucket.count ≤ most_count
    by true ih = all.0
    by false ih = ih

small-updated : (page : ℕ) (row : PageRow) (rows : List (ℕ × PageRow)) → row.bucket.count ≤ most_count → AreSmall rows → AreSmall (updated_rows nat_eq page row (λ old. row) rows)
small-updated page row [] small all = (small, tt)
small-updated page row (e ∷ es) small all = by (nat_eq page e.0) (small-updated page row es small all.1)
  where
    by : (b : Bool) → AreSmall (updated_rows nat_eq page row (λ old. row) es) → AreSmall (if b then (e.0, row) ∷ es else e ∷ updated_rows nat_eq page row (λ old. row) es)
    by true ih = (small, all.1)
    by false ih = (all.0, ih)

pub small-with_row : (held now : Held ℕ PageRow) (page : ℕ) (row : PageRow) → now ≡ with_row nat_eq held page row → row.bucket.count ≤ most_count → AreSmall held.rows → AreSmall now.rows
small-with_row held now page row is small all = subst (λ (v : Held ℕ PageRow). AreSmall v.rows) (sym is) (small-updated page row held.rows small all)

pub small-behind : (rows : List (ℕ × PageRow)) (page : ℕ) (row : PageRow) → row.bucket.count ≤ most_count → AreSmall rows → AreSmall (rows ++ (page, row) ∷ [])
small-behind [] page row small all = (small, tt)
small-behind (e ∷ es) page row small all = (all.0, small-behind es page row small all.1)

pub small-at : (rows : List (ℕ × PageRow)) (i : ℕ) (row : PageRow) → slice_get (values_of rows) i ≡ Some row → AreSmall rows → row.bucket.count ≤ most_count
small-at [] i row is all = cc
small-at (e ∷ es) zero row is all = let here : e.1 ≡ row = cc in omega (arith, all.0, ap (λ (r : PageRow). r.bucket.count) here)
small-at (e ∷ es) (suc i) row is all = small-at es i row is all.1
