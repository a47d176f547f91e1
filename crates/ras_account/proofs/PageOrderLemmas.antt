-- The orders of a history for one page are the orders that the page's own reports give.
use Rattle.std.proofs.Common.{◌≡◌, ℕ, Bool, true, false, cond, if◌then◌else◌, nat_eq, nat_lt, List, [], ◌∷◌, ◌++◌, map, Option, Some, None, refl, sym, ap, ◌∙◌, append_assoc, append-nil}
use Rattle.std.specs.Prelude.{option_to_list}
use Rattle.std.specs.List.{filter_map, cons_option}
use Rattle.std.proofs.lemmas.List.Elements.{filter-append, filter_map-append}
use Rattle.ras_base.specs.Places.{places}
use Rattle.ras_base.specs.Steps.PlacesLemmas.{places-snoc}
use Rattle.page_policy.specs.declared.rows.Order.{Order}
use Rattle.page_policy.specs.declared.rows.Order as Ordered
use Rattle.page_policy.specs.declared.rows.PageState.{PageState}
use Rattle.page_policy.specs.declared.rows.PageState.TheVariants.{Kept, Soft, Hard}
use Rattle.page_policy.specs.Rows.{PageReport, report, height, order_to, order_between}
use Rattle.row_tables.specs.Tables.{distinct_keys}
use Rattle.dimm_topology.specs.Labels.{same_label}
use Rattle.page_policy.specs.Histories.{page_in, page_history, page_row, order_behind, orders_of}
use Rattle.row_tables.proofs.TableLemmas.{of_key-own}
use Rattle.ras_base.specs.Steps.ExactLemmas.{nat_exact, nat_own}
use Rattle.ras_account.specs.History.{History, empty, with_entry, with_mark}
use Rattle.ras_account.specs.Sightings.{Sighting, sightings, sightings_since_mark, sightings_behind, label_of, report_of, reports_of}
use Rattle.ras_account.specs.Orders.{page_order, module_order, trips_first, item_orders, orders_behind, orders, place_of}
use Rattle.ras_account.specs.Asked.{is_for_page, orders_for_page}
use Rattle.ras_account.proofs.AccountLemmas.{at_page}
use Rattle.ras_account.proofs.OrderLemmas.{orders_from}

module _ (page : ℕ) where
  -- An order for a page is for this page, and for no other.
  between-own : (before now : PageState) → orders_for_page page (option_to_list (order_between page before now)) ≡ option_to_list (order_between page before now)
  between-own before now = by (nat_lt (height before) (height now)) now
    where
      by : (b : Bool) (now : PageState) → orders_for_page page (option_to_list (if b then order_to page now else None)) ≡ option_to_list (if b then order_to page now else None)
      by true Kept = refl
      by true Soft = ap (λ b. cond b (Ordered.TheVariants.Soft page ∷ []) []) (nat_own page)
      by true Hard = ap (λ b. cond b (Ordered.TheVariants.Hard page ∷ []) []) (nat_own page)
      by false now = refl

  between-other : (other : ℕ) (before now : PageState) → nat_eq page other ≡ false → orders_for_page page (option_to_list (order_between other before now)) ≡ []
  between-other other before now apart = by (nat_lt (height before) (height now)) now
    where
      by : (b : Bool) (now : PageState) → orders_for_page page (option_to_list (if b then order_to other now else None)) ≡ []
      by true Kept = refl
      by true Soft = ap (λ b. cond b (Ordered.TheVariants.Soft other ∷ []) []) apart
      by true Hard = ap (λ b. cond b (Ordered.TheVariants.Hard other ∷ []) []) apart
      by false now = refl

  -- One more report of this page, or of another page.
  report-own : (rs : List PageReport) (r : PageReport) → nat_eq page r.page ≡ true
      → orders_of rs page ++ orders_for_page page (option_to_list (order_behind r.page (page_history rs r.page) r)) ≡ orders_of (rs ++ r ∷ []) page
  report-own rs r own =
      ap (λ p. orders_of rs page ++ orders_for_page page (option_to_list (order_behind p (page_history rs p) r))) (sym (nat_exact page r.page own))
      ∙ ap (λ os. orders_of rs page ++ os) (between-own (page_row (page_history rs page)).state (page_row (page_history rs page ++ r ∷ [])).state)
      ∙ ap (λ os. orders_of rs page ++ os) (single (order_behind page (page_history rs page) r))
      ∙ sym (ap (filter_map (λ p. order_behind page p.0 p.1)) (ap places (of_key-own nat_eq nat_exact nat_own page_in rs r page (ap Some (sym (nat_exact page r.page own)))) ∙ places-snoc (page_history rs page) r)
      ∙ filter_map-append (λ p. order_behind page p.0 p.1) (places (page_history rs page)) ((page_history rs page, r) ∷ []))
    where
      single : (o : Option Order) → option_to_list o ≡ cons_option o []
      single None = refl
      single (Some order) = refl

  report-other : (rs : List PageReport) (r : PageReport) → nat_eq page r.page ≡ false
      → orders_of rs page ++ orders_for_page page (option_to_list (order_behind r.page (page_history rs r.page) r)) ≡ orders_of (rs ++ r ∷ []) page
  report-other rs r apart =
      ap (λ os. orders_of rs page ++ os) (between-other r.page (page_row (page_history rs r.page)).state (page_row (page_history rs r.page ++ r ∷ [])).state apart)
      ∙ append-nil (orders_of rs page)
      ∙ ap (λ (own : List PageReport). filter_map (λ p. order_behind page p.0 p.1) (places own)) (sym unchanged)
    where
      unchanged : page_history (rs ++ r ∷ []) page ≡ page_history rs page
      unchanged = filter-append (λ (q : PageReport). nat_eq page q.page) rs (r ∷ []) ∙ ap (λ b. page_history rs page ++ cond b (r ∷ []) []) apart ∙ append-nil (page_history rs page)

  -- One more item.
  item-page : (earlier since : List Sighting) (s : Sighting)
      → orders_of (reports_of earlier) page ++ orders_for_page page (item_orders earlier since s) ≡ orders_of (reports_of (earlier ++ s ∷ [])) page
  item-page earlier since s =
      ap (λ os. orders_of (reports_of earlier) page ++ os) (filter-append (is_for_page page) (option_to_list (page_order earlier s)) (option_to_list (module_order earlier since s)))
      ∙ ap (λ os. orders_of (reports_of earlier) page ++ (orders_for_page page (option_to_list (page_order earlier s)) ++ os)) (none (trips_first since s) (place_of (label_of s) (distinct_keys same_label (map label_of (earlier ++ s ∷ [])))))
      ∙ ap (λ os. orders_of (reports_of earlier) page ++ os) (append-nil (orders_for_page page (option_to_list (page_order earlier s))))
      ∙ by s.item.page
      ∙ ap (λ rs. orders_of rs page) (sym (filter_map-append report_of earlier (s ∷ [])))
    where
      none : (b : Bool) (place : ℕ) → orders_for_page page (option_to_list (if b then Some (Ordered.TheVariants.Module place) else None)) ≡ []
      none true place = refl
      none false place = refl

      by : (p : Option ℕ) → orders_of (reports_of earlier) page ++ orders_for_page page (option_to_list (page_order earlier (at_page s p))) ≡ orders_of (reports_of earlier ++ reports_of (at_page s p ∷ [])) page
      by None = append-nil (orders_of (reports_of earlier) page) ∙ ap (λ rs. orders_of rs page) (sym (append-nil (reports_of earlier)))
      by (Some p) = at (nat_eq page p) refl
        where
          r : PageReport
          r = report p s.item.class s.seconds s.item.weight s.limit

          at : (b : Bool) → nat_eq page p ≡ b → orders_of (reports_of earlier) page ++ orders_for_page page (option_to_list (order_behind p (page_history (reports_of earlier) p) r)) ≡ orders_of (reports_of earlier ++ r ∷ []) page
          at true is = report-own (reports_of earlier) r is
          at false is = report-other (reports_of earlier) r is

  -- More items.
  items-page : (ss since before more : List Sighting)
      → orders_of (reports_of (ss ++ before)) page ++ orders_for_page page (orders_from ss since before more) ≡ orders_of (reports_of ((ss ++ before) ++ more)) page
  items-page ss since before [] = append-nil (orders_of (reports_of (ss ++ before)) page) ∙ ap (λ ts. orders_of (reports_of ts) page) (sym (append-nil (ss ++ before)))
  items-page ss since before (s ∷ more) =
      ap (λ os. orders_of (reports_of (ss ++ before)) page ++ os) (filter-append (is_for_page page) (item_orders (ss ++ before) (since ++ before) s) (orders_from ss since (before ++ s ∷ []) more))
      ∙ sym (append_assoc (orders_of (reports_of (ss ++ before)) page) (orders_for_page page (item_orders (ss ++ before) (since ++ before) s)) (orders_for_page page (orders_from ss since (before ++ s ∷ []) more)))
      ∙ ap (λ os. os ++ orders_for_page page (orders_from ss since (before ++ s ∷ []) more)) (item-page (ss ++ before) (since ++ before) s)
      ∙ ap (λ ts. orders_of (reports_of ts) page ++ orders_for_page page (orders_from ss since (before ++ s ∷ []) more)) (append_assoc ss before (s ∷ []))
      ∙ items-page ss since (before ++ s ∷ []) more
      ∙ ap (λ ts. orders_of (reports_of ts) page) (ap (λ ts. ts ++ more) (sym (append_assoc ss before (s ∷ []))) ∙ append_assoc (ss ++ before) (s ∷ []) more)

  -- the law
  pub page-orders : (h : History) → orders_for_page page (orders h) ≡ orders_of (reports_of (sightings h)) page
  page-orders empty = refl
  page-orders (with_mark h) = page-orders h
  page-orders (with_entry h e) =
      filter-append (is_for_page page) (orders h) (orders_behind h e)
      ∙ ap (λ os. os ++ orders_for_page page (orders_behind h e)) (page-orders h)
      ∙ ap (λ ts. orders_of (reports_of ts) page ++ orders_for_page page (orders_behind h e)) (sym (append-nil (sightings h)))
      ∙ items-page (sightings h) (sightings_since_mark h) [] (sightings_behind h e)
      ∙ ap (λ ts. orders_of (reports_of (ts ++ sightings_behind h e)) page) (append-nil (sightings h))
