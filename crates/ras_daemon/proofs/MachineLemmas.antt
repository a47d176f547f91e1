-- The run of a script has the script's account, record store and text.
use Rattle.std.proofs.Common.{◌≡◌, ℕ, List, [], ◌∷◌, ◌++◌, map, take, refl, ap, ◌∙◌}
use Rattle.std.specs.List.{flat_map, fold}
use Rattle.std.proofs.lemmas.List.{take-map}
use Rattle.std.proofs.lemmas.List.Folds.{flat_map-map}
use Rattle.std.proofs.lemmas.Simd.{map-map}
use Rattle.erst_store.specs.Store.{Stored}
use Rattle.ras_account.specs.Continued.{account_after_all}
use Rattle.ras_facts.specs.declared.entry.Entry.{Entry}
use Rattle.ras_run.specs.Sites.{Start}
use Rattle.ras_run.specs.Places.{Place, deed_at, site_at}
use Rattle.ras_daemon.specs.Script.{events_of, is_event, reads_of, places_taken}
use Rattle.ras_events.specs.Deeds.{Asking}
use Rattle.ras_run.specs.Deeds.{store_done}
use Rattle.ras_events.specs.Deeds as asking
use Rattle.ras_run.specs.Output.{output_at}
use Rattle.ras_texts.specs.Orders.{standing_lines}
use Rattle.ras_daemon.specs.Headline.{account_with, laid_with, store_by}
use Rattle.ras_daemon.specs.Machine.{Run, RunEvent, account_upto, changes_upto, store_changed, store_upto, text_of, text_upto}
use Rattle.ras_daemon.specs.RunOf.{change_at, change_by, run_event_at, run_of}
use Rattle.ras_daemon.specs.RunOutput.{closing_line, output_upto, run_output}
use Rattle.ras_daemon.specs.RunStatus.{run_exit}
use Rattle.ras_daemon.proofs.ListLemmas.{flat_map-passing}
use Rattle.ras_daemon.proofs.RunLawLemmas.{prints-none}

-- ---- what a place does to the store

pub change-left : (asks : Asking) (store : List Stored) → store_changed store (change_by asks) ≡ store_done asks store
change-left (asking.puts r) store = refl
change-left (asking.saves r) store = refl
change-left (asking.polls seconds) store = refl
change-left asks store = refl

changes-laid : (store : List Stored) (ps : List Place) → fold store_changed store (map change_at ps) ≡ fold store_by store ps
changes-laid store [] = refl
changes-laid store (p ∷ ps) = ap (λ (s : List Stored). fold store_changed s (map change_at ps)) (change-left (deed_at p).asks store) ∙ changes-laid (store_by store p) ps

-- ---- the run of a script

module _ (start : Start) (script : List ℕ) where
  abbrev run : Run
  run = run_of start script

  -- what the first n events give
  events-flat : {X : Type 0} (f : RunEvent → List X) (n : ℕ) → flat_map f (take n run.does) ≡ flat_map (λ p. f (run_event_at p)) (take n (events_of start script))
  events-flat f n = ap (flat_map f) (take-map run_event_at n (events_of start script)) ∙ flat_map-map f run_event_at (take n (events_of start script))

  pub account-same : (n : ℕ) → account_upto run n ≡ account_with start script n
  account-same n = ap (λ (entries : List Entry). account_after_all start.account entries) (events-flat (λ (event : RunEvent). event.reports) n)

  pub text-same : (n : ℕ) → text_upto run n ≡ output_upto start script n
  text-same n = ap (λ (text : List ℕ). standing_lines start.account ++ text) (events-flat (λ (event : RunEvent). event.prints) n)

  pub changes-same : (n : ℕ) → changes_upto run n ≡ map change_at (take n (events_of start script))
  changes-same n =
      ap (map (λ (event : RunEvent). event.change)) (take-map run_event_at n (events_of start script))
      ∙ map-map (λ (event : RunEvent). event.change) run_event_at (take n (events_of start script))

  pub store-same : (n : ℕ) → store_upto run n ≡ laid_with start script n
  store-same n = ap (fold store_changed start.store) (changes-same n) ∙ changes-laid start.store (take n (events_of start script))

  -- all that the run prints
  pub output-same : text_of run ≡ run_output start script
  output-same =
      let closing : List ℕ = closing_line (site_at start (reads_of script)).account (run_exit start script) in
      ap (λ (text : List ℕ). standing_lines start.account ++ (text ++ closing))
      (flat_map-map (λ (event : RunEvent). event.prints) run_event_at (events_of start script) ∙ flat_map-passing is_event output_at prints-none (places_taken start script))
