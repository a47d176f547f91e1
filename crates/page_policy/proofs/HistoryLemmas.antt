-- How a report continues the rows of a history, and what it does to the states.
use Rattle.std.proofs.Common.{◌≡◌, ℕ, ◌<◌, ◌≤◌, Bool, true, false, cond, if◌then◌else◌, List, [], ◌∷◌, ◌++◌, length, Option, None, Some, nat_eq, ◌||◌, ◌↔◌, Contains, map, take, drop, refl, sym, ap, subst, ◌∙◌, unwrap_or, arith}
use Rattle.std.specs.List.{list_any, filter_map, IsDistinct}
use Rattle.std.specs.Cmp.{nat_eq_equiv}
use Rattle.std.specs.Map.{keys_of, lookup}
use Rattle.std.specs.Option.{option_map_or}
use Rattle.std.proofs.lemmas.List.Sums.{fold-append}
use Rattle.mca_status.specs.declared.classes.ItemClass.{ItemClass}
use Rattle.mca_status.specs.declared.classes.ItemClass.TheVariants.{Ce, Ucna, Srao, Srar, Uc, Odd, Corrected, Recoverable, Fatal, Informational}
use Rattle.page_policy.specs.declared.rows.Order as Ordered
use Rattle.page_policy.specs.declared.rows.PageState.{PageState}
use Rattle.page_policy.specs.declared.rows.PageState.TheVariants.{Kept, Soft, Hard}
use Rattle.page_policy.specs.declared.rows.PageRow.{PageRow}
use Rattle.page_policy.specs.Rows.{PageReport, height, higher, new_row, row_after, state_called_for, state_called_by, order_between}
use Rattle.page_policy.specs.Buckets.{trips}
use Rattle.row_tables.specs.Tables.{added_keys, distinct_keys}
use Rattle.row_tables.specs.Held.{Held, is_held, is_ready}
use Rattle.page_policy.specs.Pages.{pages_after}
use Rattle.page_policy.specs.Histories.{page_in, page_history, page_row, page_rows_of, state_in, rows_after, order_behind}
use Rattle.row_tables.proofs.TableLemmas.{Contains-list_any, table-more, lookup-table, lookup-updated-own, lookup-updated-other, of_key-own, of_key-unnamed, keys-updated, keys-table, distinct-once, any-distinct}
use Rattle.std.proofs.lemmas.Map.Views.{list_any-from_Contains}
use Rattle.std.proofs.lemmas.List.Folds.{list_any-append}
use Rattle.ras_base.specs.Steps.ExactLemmas.{nat_exact, nat_own}
use Rattle.page_policy.proofs.PageLemmas.{row_for}

page_row-more : (rs : List PageReport) (r : PageReport) → 0 < length rs → page_row (rs ++ r ∷ []) ≡ row_after (page_row rs) r
page_row-more [] r some = absurd (omega arith)
page_row-more (q ∷ rs) r some = fold-append row_after (new_row q.seconds) (q ∷ rs) (r ∷ [])

-- The rows of a history with one more report are the rows of the history, continued by the report.
pub page_rows_of-more : (history : List PageReport) (r : PageReport) → page_rows_of (history ++ r ∷ []) ≡ rows_after (page_rows_of history) r
page_rows_of-more history r =
    table-more nat_eq nat_exact nat_own page_in page_row (λ (r : PageReport). row_after (new_row r.seconds) r) row_after (λ r. refl) page_row-more history r

-- A page's state in the rows of a history is the state in the row that its own reports give.
pub state_in-rows_of : (history : List PageReport) (page : ℕ) → state_in (page_rows_of history) page ≡ (page_row (page_history history page)).state
state_in-rows_of history page =
    ap (λ o. option_map_or (λ (row : PageRow). row.state) o Kept) (lookup-table nat_eq nat_exact nat_own page_in page_row history page)
    ∙ by (list_any (nat_eq page) (filter_map page_in history)) refl
  where
    own : PageRow
    own = page_row (page_history history page)

    by : (b : Bool) → list_any (nat_eq page) (filter_map page_in history) ≡ b → option_map_or (λ (row : PageRow). row.state) (cond b (Some own) None) Kept ≡ own.state
    by true there = refl
    by false none = ap (λ rs. (page_row rs).state) (sym (of_key-unnamed nat_eq nat_exact nat_own page_in page history none))

pub page_history-more : (history : List PageReport) (r : PageReport) → page_history (history ++ r ∷ []) r.page ≡ page_history history r.page ++ r ∷ []
page_history-more history r = of_key-own nat_eq nat_exact nat_own page_in history r r.page refl

pub order-history : (history : List PageReport) (r : PageReport)
    → order_between r.page (state_in (page_rows_of history) r.page) (state_in (page_rows_of (history ++ r ∷ [])) r.page) ≡ order_behind r.page (page_history history r.page) r
order-history history r = λ i. order_between r.page (state_in-rows_of history r.page i) (later i)
  where
    later : state_in (page_rows_of (history ++ r ∷ [])) r.page ≡ (page_row (page_history history r.page ++ r ∷ [])).state
    later = state_in-rows_of (history ++ r ∷ []) r.page ∙ ap (λ rs. (page_row rs).state) (page_history-more history r)

pub state_in-before : (rows : List (ℕ × PageRow)) (r : PageReport) → (row_for rows r).state ≡ state_in rows r.page
state_in-before rows r = by (lookup (nat_eq r.page) rows)
  where
    by : (o : Option PageRow) → (unwrap_or o (new_row r.seconds)).state ≡ option_map_or (λ (row : PageRow). row.state) o Kept
    by None = refl
    by (Some row) = refl

pub state_in-after : (rows : List (ℕ × PageRow)) (r : PageReport) → (row_after (row_for rows r) r).state ≡ state_in (rows_after rows r) r.page
state_in-after rows r =
    by (lookup (nat_eq r.page) rows)
    ∙ ap (λ o. option_map_or (λ (row : PageRow). row.state) o Kept) (sym (lookup-updated-own nat_eq nat_exact nat_own r.page (row_after (new_row r.seconds) r) (λ row. row_after row r) rows))
  where
    by : (o : Option PageRow) → (row_after (unwrap_or o (new_row r.seconds)) r).state ≡ (option_map_or (λ row. row_after row r) o (row_after (new_row r.seconds) r)).state
    by None = refl
    by (Some row) = refl

-- A report changes no other page's row.
pub lookup-rows_after : (rows : List (ℕ × PageRow)) (r : PageReport) (other : ℕ) → nat_eq other r.page ≡ false → lookup (nat_eq other) (rows_after rows r) ≡ lookup (nat_eq other) rows
lookup-rows_after rows r other apart =
    lookup-updated-other nat_eq nat_exact nat_own other r.page (row_after (new_row r.seconds) r) (λ row. row_after row r) rows apart

-- No state falls.
rises : (one other : PageState) → height one ≤ height (higher one other)
rises Kept Kept = omega arith
rises Kept Soft = omega arith
rises Kept Hard = omega arith
rises Soft Kept = omega arith
rises Soft Soft = omega arith
rises Soft Hard = omega arith
rises Hard Kept = omega arith
rises Hard Soft = omega arith
rises Hard Hard = omega arith

pub never_falls : (rows : List (ℕ × PageRow)) (r : PageReport) (other : ℕ) → height (state_in rows other) ≤ height (state_in (rows_after rows r) other)
never_falls rows r other = by (nat_eq other r.page) refl
  where
    by : (b : Bool) → nat_eq other r.page ≡ b → height (state_in rows other) ≤ height (state_in (rows_after rows r) other)
    by true is =
        let here : r.page ≡ other = sym (nat_exact other r.page is) in
        let own : height (row_for rows r).state ≤ height (row_after (row_for rows r) r).state = rises (row_for rows r).state (state_called_by (row_for rows r) r) in
        omega (arith, own, ap height (state_in-before rows r), ap height (state_in-after rows r), ap (λ p. height (state_in rows p)) here, ap (λ p. height (state_in (rows_after rows r) p)) here)
    by false is = omega (arith, ap (λ o. height (option_map_or (λ (row : PageRow). row.state) o Kept)) (lookup-rows_after rows r other is))

-- What an order implies for the state before it, and for the state called for.
pub soft-order : (page : ℕ) (before called : PageState) → order_between page before (higher before called) ≡ Some (Ordered.TheVariants.Soft page) → before ≡ Kept
soft-order page Kept called is = refl
soft-order page Soft Kept is = cc
soft-order page Soft Soft is = cc
soft-order page Soft Hard is = cc
soft-order page Hard Kept is = cc
soft-order page Hard Soft is = cc
soft-order page Hard Hard is = cc

hard-called : (page : ℕ) (before called : PageState) → order_between page before (higher before called) ≡ Some (Ordered.TheVariants.Hard page) → called ≡ Hard
hard-called page Kept Kept is = cc
hard-called page Kept Soft is = cc
hard-called page Kept Hard is = refl
hard-called page Soft Kept is = cc
hard-called page Soft Soft is = cc
hard-called page Soft Hard is = refl
hard-called page Hard Kept is = cc
hard-called page Hard Soft is = cc
hard-called page Hard Hard is = refl

hard-class : (class : ItemClass) (trip : Bool) → state_called_for class trip ≡ Hard → state_called_for class false ≡ Hard
hard-class Ce true is = cc
hard-class Ce false is = is
hard-class Corrected true is = cc
hard-class Corrected false is = is
hard-class Ucna trip is = is
hard-class Srao trip is = is
hard-class Srar trip is = is
hard-class Uc trip is = is
hard-class Odd trip is = is
hard-class Recoverable trip is = is
hard-class Fatal trip is = is
hard-class Informational trip is = is

pub hard-order : (page : ℕ) (row : PageRow) (r : PageReport) → order_between page row.state (row_after row r).state ≡ Some (Ordered.TheVariants.Hard page) → state_called_for r.class false ≡ Hard
hard-order page row r is = hard-class r.class (trips r.limit r.seconds r.weight row.bucket) (hard-called page row.state (state_called_by row r) is)

-- The reserved pages of a list after one more report.
pub keys-rows_after : (rows : List (ℕ × PageRow)) (r : PageReport) → keys_of (rows_after rows r) ≡ (if is_held nat_eq rows r.page then keys_of rows else keys_of rows ++ r.page ∷ [])
keys-rows_after rows r = keys-updated nat_eq nat_exact nat_own r.page (row_after (new_row r.seconds) r) (λ row. row_after row r) rows

pub in_turn : (pages : Held ℕ PageRow) (r : PageReport) (more : List ℕ) → pages.waiting ≡ added_keys nat_eq (keys_of pages.rows) (r.page ∷ more)
    → (pages_after pages r).waiting ≡ added_keys nat_eq (keys_of (pages_after pages r).rows) more
in_turn pages r more wait =
    by (is_held nat_eq pages.rows r.page) wait ∙ ap (λ ks. added_keys nat_eq ks more) (sym (keys-rows_after pages.rows r))
  where
    by : (b : Bool) → pages.waiting ≡ (if b then added_keys nat_eq (keys_of pages.rows) more else r.page ∷ added_keys nat_eq (keys_of pages.rows ++ r.page ∷ []) more)
        → (if b then pages.waiting else drop 1 pages.waiting) ≡ added_keys nat_eq (if b then keys_of pages.rows else keys_of pages.rows ++ r.page ∷ []) more
    by true wait = wait
    by false wait = ap (drop 1) wait

pub ready : (pages : Held ℕ PageRow) (first : ℕ) (more : List ℕ) → pages.waiting ≡ added_keys nat_eq (keys_of pages.rows) (first ∷ more) → is_ready nat_eq pages first ≡ true
ready pages first more wait = list_any-append (nat_eq first) (keys_of pages.rows) (take 1 pages.waiting) ∙ by (is_held nat_eq pages.rows first) refl wait
  where
    by : (b : Bool) → is_held nat_eq pages.rows first ≡ b → pages.waiting ≡ (if b then added_keys nat_eq (keys_of pages.rows) more else first ∷ added_keys nat_eq (keys_of pages.rows ++ first ∷ []) more)
        → (is_held nat_eq pages.rows first || list_any (nat_eq first) (take 1 pages.waiting)) ≡ true
    by true held wait = ap (λ b. b || list_any (nat_eq first) (take 1 pages.waiting)) held
    by false new wait =
        (λ i. new i || list_any (nat_eq first) (take 1 (wait i))) ∙ ap (λ b. b || false) (nat_own first)

-- the pages of a history
pages_named : (history : List PageReport) → filter_map page_in history ≡ map (λ (r : PageReport). r.page) history
pages_named [] = refl
pages_named (r ∷ rs) = ap (λ ps. r.page ∷ ps) (pages_named rs)

keys-rows_of : (history : List PageReport) → keys_of (page_rows_of history) ≡ distinct_keys nat_eq (filter_map page_in history)
keys-rows_of history = keys-table nat_eq nat_exact nat_own page_in page_row history

pub page_rows_of-once : (history : List PageReport) → IsDistinct nat_eq (keys_of (page_rows_of history))
page_rows_of-once history = subst (IsDistinct nat_eq) (sym (keys-rows_of history)) (distinct-once nat_eq nat_exact nat_own (filter_map page_in history))

pub page_rows_of-named : (history : List PageReport) (page : ℕ) → Contains (keys_of (page_rows_of history)) page ↔ Contains (map (λ (r : PageReport). r.page) history) page
page_rows_of-named history page = (
  λ there. Contains-list_any nat_eq nat_exact (map (λ (r : PageReport). r.page) history) page (sym same ∙ list_any-from_Contains nat_eq_equiv page (keys_of (page_rows_of history)) there),
  λ there. Contains-list_any nat_eq nat_exact (keys_of (page_rows_of history)) page (same ∙ list_any-from_Contains nat_eq_equiv page (map (λ (r : PageReport). r.page) history) there),
)
  where
    same : list_any (nat_eq page) (keys_of (page_rows_of history)) ≡ list_any (nat_eq page) (map (λ (r : PageReport). r.page) history)
    same = ap (list_any (nat_eq page)) (keys-rows_of history) ∙ any-distinct nat_eq nat_exact nat_own page (filter_map page_in history) ∙ ap (list_any (nat_eq page)) (pages_named history)
