-- What the eras of a journal order, one after another, and what is outstanding after them.
use Rattle.std.proofs.Common.{◌≡◌, ℕ, List, [], ◌∷◌, ◌++◌, Some, refl, sym, ap, ◌∙◌, subst, append_assoc, append-nil}
use Rattle.std.specs.Prelude.{if◌then◌else◌}
use Rattle.std.specs.Map.{lookup}
use Rattle.std.proofs.lemmas.List.{append_cancel_left}
use Rattle.board_core.specs.Stop.{Left}
use Rattle.dimm_topology.specs.Labels.{Bytes, same_label}
use Rattle.page_policy.specs.Histories.{AreOnceInOrder, state_in, state_under}
use Rattle.page_policy.specs.declared.rows.Order.{Order}
use Rattle.ras_account.specs.Account.{State, account_of, module_errors}
use Rattle.ras_account.specs.Asked.{HasRow, module_place, orders_for_module, orders_for_page, replace_order}
use Rattle.ras_account.specs.History.{History, with_entries, with_entry}
use Rattle.ras_account.specs.Modules.{Module, has_tripped}
use Rattle.ras_account.specs.Orders.{orders, orders_behind, orders_since_mark}
use Rattle.ras_account.proofs.ModuleOrderLemmas.{module-orders}
use Rattle.ras_facts.specs.declared.entry.Entry.{Entry}
use Rattle.ras_journal.specs.Recovered.{Recovers}
use Rattle.ras_events.specs.Preparing.{orders_along_entries}
use Rattle.ras_run.specs.Sites.{Start}
use Rattle.ras_daemon.specs.Machine.{Run}
use Rattle.ras_daemon.specs.RunOf.{run_of}
use Rattle.ras_daemon.specs.Runs.{BeginsWith, ordered}
use Rattle.ras_daemon.proofs.HistoryLemmas.{orders-entries, with_entries-append}
use Rattle.ras_daemon.proofs.RunLawLemmas.{module-state, orders-follow, page-state, pages-once}
use Rattle.era_laws.specs.Eras.{AreEras, CountsEach, Era, left_after, ordered_in, orders_upto, reported_in, reports_upto}
use Rattle.era_laws.proofs.EraLemmas.{begins-with, histories-along, leaves-history, one-account}
use Rattle.era_laws.proofs.TakesLemmas.{reports-same}

-- the orders of a history that grows: all of them, or those since the last upgrade marker
module _ (given : History → List Order) (grows : (h : History) (e : Entry) → given (with_entry h e) ≡ given h ++ orders_behind h e) where
  given-follow : (run : Run) (history : History) → run.account ≡ account_of history → (n : ℕ)
      → given (with_entries history (reports_upto run n)) ≡ given history ++ orders_upto run n
  given-follow run history is n =
      let entries : List Entry = reports_upto run n in
      orders-entries given grows history entries ∙ ap (λ (a : State). given history ++ orders_along_entries a entries) (sym is)

  given-along : (eras : List Era) (counts : List ℕ) (history : History) (here : Left) → Recovers (account_of history) here → AreEras here eras → CountsEach eras counts
      → given (with_entries history (reported_in eras counts)) ≡ given history ++ ordered_in eras counts
  given-along [] [] history here opens follow counted = sym (append-nil (given history))
  given-along [] (n ∷ counts) history here opens follow counted = absurd counted
  given-along (era ∷ eras) [] history here opens follow counted = absurd counted
  given-along (era ∷ eras) (n ∷ counts) history here opens (begins, is, follow) (one, others) =
      let entries : List Entry = reports_upto era.run n in
      ap given (with_entries-append history entries (reported_in eras counts))
      ∙ given-along eras counts (with_entries history entries) era.left (leaves-history history here era begins is opens n one) follow others
      ∙ ap (λ (os : List Order). os ++ ordered_in eras counts) (given-follow era.run history (begins-with history here era begins is opens) n)
      ∙ append_assoc (given history) (orders_upto era.run n) (ordered_in eras counts)

-- the run of a script orders what the script's lines order
pub orders-same : (history : History) (start : Start) (script : List ℕ) (n : ℕ) → BeginsWith history start → orders_upto (run_of start script) n ≡ ordered start script n
orders-same history start script n is =
    append_cancel_left (orders history) (orders_upto (run_of start script) n) (ordered start script n)
    (sym (given-follow orders (λ h e. refl) (run_of start script) history is n)
    ∙ ap (λ (es : List Entry). orders (with_entries history es)) (reports-same start script n)
    ∙ orders-follow history start is script n)

module _ (history : History) (here : Left) (eras : List Era) (counts : List ℕ) (opens : Recovers (account_of history) here) (follow : AreEras here eras) (counted : CountsEach eras counts) where
  abbrev after : History
  after = with_entries history (reported_in eras counts)

  pub orders-along : orders after ≡ orders history ++ ordered_in eras counts
  orders-along = given-along orders (λ h e. refl) eras counts history here opens follow counted

  pub pages-along : (page : ℕ) → AreOnceInOrder page (orders_for_page page (orders history ++ ordered_in eras counts))
  pages-along page = subst (λ (given : List Order). AreOnceInOrder page (orders_for_page page given)) orders-along (pages-once after page)

  pub modules-along : (label : Bytes) → HasRow after label
      → orders_for_module (module_place after label) (orders_since_mark history ++ ordered_in eras counts)
      ≡ (if has_tripped (module_errors after label) then replace_order after label ∷ [] else [])
  modules-along label row =
      ap (orders_for_module (module_place after label)) (sym (given-along orders_since_mark (λ h e. refl) eras counts history here opens follow counted))
      ∙ module-orders after label row

  -- ---- what is outstanding in the account that is left

  module _ (now : State) (of : Recovers now (left_after here eras)) where
    account-is : now ≡ account_of after
    account-is = one-account now (account_of after) (left_after here eras) of (histories-along history here eras counts opens follow counted)

    pub page-stands-along : (page : ℕ) → state_in now.pages page ≡ state_under (orders_for_page page (orders history ++ ordered_in eras counts))
    page-stands-along page =
        ap (λ (a : State). state_in a.pages page) account-is
        ∙ page-state after page
        ∙ ap (λ (given : List Order). state_under (orders_for_page page given)) orders-along

    pub module-stands-along : (label : Bytes) (row : Module) → lookup (same_label label) now.modules ≡ Some row → row.replace ≡ has_tripped (module_errors after label)
    module-stands-along label row there = module-state after label row (ap (λ (a : State). lookup (same_label label) a.modules) (sym account-is) ∙ there)
