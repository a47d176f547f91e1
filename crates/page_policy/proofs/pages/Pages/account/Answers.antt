use Rattle.std.proofs.Common.{ℕ, ◌≡◌, ◌≤◌, nat_eq, ◌∙◌, sym, ap, subst, unwrap_or}
use Rattle.std.specs.Map.{keys_of}
use Rattle.row_tables.specs.Tables.{added_keys}
use Rattle.row_tables.specs.Held.{Held, with_row}
use Rattle.page_policy.specs.declared.rows.PageRow.{PageRow}
use Rattle.page_policy.specs.Buckets.{most_count}
use Rattle.page_policy.specs.Rows.{PageReport, report, row_after, order_between}
use Rattle.page_policy.specs.Histories.{rows_after, state_in}
use Rattle.page_policy.specs.Pages.{pages_after}
use Rattle.page_policy.proofs.PageLemmas.{row_for, with_row-after, small-lookup, small-with_row}
use Rattle.page_policy.proofs.HistoryLemmas.{state_in-before, state_in-after, in_turn}
use Rattle.page_policy.proofs.pages.Pages.account.Goals as goal

pub after-after-requires-clause-count : goal.after-after-requires-clause-count
after-after-requires-clause-count c =
    subst (λ (row : PageRow). row.bucket.count ≤ most_count)
    (sym (c.unwrap_or-before.ensures ∙ (λ i. unwrap_or (c.find-place.ensures.row i) (c.new.ensures i))))
    (small-lookup c.self.inside.table.rows c.args.page c.args.seconds c.self.invariant)

pub invariant_of-self : goal.invariant_of-self
invariant_of-self c =
    small-with_row c.self.inside.table c.put.new.self c.args.page c.after-after.result (c.put.ensures c.args.page c.find-place.ensures.place) c.after-after.ensures.count c.self.invariant

module _ (c : goal.After-order_for) where
  abbrev taken_in : PageReport
  taken_in = report c.args.page c.args.class c.args.seconds c.args.weight c.args.limit

  known : c.unwrap_or-before.result ≡ row_for c.args.self.now.rows taken_in
  known =
      c.unwrap_or-before.ensures ∙ (λ i. unwrap_or (c.find-place.ensures.row i) (c.new.ensures i))
      ∙ ap (λ (v : Held ℕ PageRow). row_for v.rows taken_in) c.self.view_is

  taken_is : c.put.new.self ≡ pages_after c.args.self.now taken_in
  taken_is =
      c.put.ensures c.args.page c.find-place.ensures.place
      ∙ ap (λ (v : Held ℕ PageRow). with_row nat_eq v c.args.page c.after-after.result) c.self.view_is
      ∙ with_row-after c.args.self.now taken_in c.after-after.result (c.after-after.ensures.row c.args.page ∙ ap (λ row. row_after row taken_in) known)

  before_is : c.unwrap_or-before.result.state ≡ state_in c.args.self.now.rows c.args.page
  before_is = ap (λ row. row.state) known ∙ state_in-before c.args.self.now.rows taken_in

  ordered : c.order_for.result ≡ order_between c.args.page (state_in c.args.self.now.rows c.args.page) (state_in (rows_after c.args.self.now.rows taken_in) c.args.page)
  ordered =
      let after : c.after-after.result.state ≡ state_in (rows_after c.args.self.now.rows taken_in) c.args.page =
      ap (λ row. row.state) (c.after-after.ensures.row c.args.page) ∙ ap (λ row. (row_after row taken_in).state) known ∙ state_in-after c.args.self.now.rows taken_in in
      c.order_for.ensures ∙ (λ i. order_between c.args.page (before_is i) (after i))

pub returns-clause-pages : goal.returns-clause-pages
returns-clause-pages c = taken_is c

pub returns-clause-order : goal.returns-clause-order
returns-clause-order c =
    ordered c ∙ ap (λ (v : Held ℕ PageRow). order_between c.args.page (state_in c.args.self.now.rows c.args.page) (state_in v.rows c.args.page)) (sym (taken_is c))

pub returns-clause-in_turn : goal.returns-clause-in_turn
returns-clause-in_turn c = λ pages wait.
    ap (λ (v : Held ℕ PageRow). v.waiting) (taken_is c) ∙ in_turn c.args.self.now (taken_in c) pages wait ∙ ap (λ (v : Held ℕ PageRow). added_keys nat_eq (keys_of v.rows) pages) (sym (taken_is c))
