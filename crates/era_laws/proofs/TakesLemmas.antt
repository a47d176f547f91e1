-- An era of a script: what its run reports and logs, by the lines of the script.
use Rattle.std.proofs.Common.{◌≡◌, ℕ, List, length, take, ap, ◌∙◌}
use Rattle.std.specs.List.{flat_map}
use Rattle.std.proofs.lemmas.List.{length-map, take-map}
use Rattle.std.proofs.lemmas.List.Folds.{flat_map-map}
use Rattle.ras_account.specs.Numbers.{fresh_entries_in}
use Rattle.ras_run.specs.Sites.{Start}
use Rattle.ras_daemon.specs.Script.{events_of}
use Rattle.ras_daemon.specs.Headline.{account_with, reported}
use Rattle.ras_daemon.specs.Machine.{Run, RunEvent, account_upto}
use Rattle.ras_daemon.specs.RunOf.{run_event_at, run_of}
use Rattle.ras_daemon.specs.Runs.{event_count, logged}
use Rattle.ras_daemon.proofs.MachineLemmas.{account-same}
use Rattle.era_laws.specs.Eras.{Era, TakesScript, logs_upto, reports_upto}

pub reports-same : (start : Start) (script : List ℕ) (n : ℕ) → reports_upto (run_of start script) n ≡ reported start script n
reports-same start script n =
    ap (flat_map (λ (event : RunEvent). event.reports)) (take-map run_event_at n (events_of start script))
    ∙ flat_map-map (λ (event : RunEvent). event.reports) run_event_at (take n (events_of start script))

pub logs-same : (start : Start) (script : List ℕ) (n : ℕ) → logs_upto (run_of start script) n ≡ logged start script n
logs-same start script n = ap (fresh_entries_in start.account) (reports-same start script n)

-- all that the run of a script reports and logs
module _ (start : Start) (script : List ℕ) where
  abbrev whole : Run
  whole = run_of start script

  count-same : length whole.does ≡ event_count start script
  count-same = length-map (events_of start script) run_event_at

  pub whole-account : account_upto whole (length whole.does) ≡ account_with start script (event_count start script)
  whole-account = account-same start script (length whole.does) ∙ ap (account_with start script) count-same

  pub whole-logs : logs_upto whole (length whole.does) ≡ logged start script (event_count start script)
  whole-logs = logs-same start script (length whole.does) ∙ ap (logged start script) count-same

module _ (script : List ℕ) (era : Era) (takes : TakesScript script era) where
  pub takes-reports : (n : ℕ) → reports_upto era.run n ≡ reported takes.start script n
  takes-reports n = ap (λ (run : Run). reports_upto run n) takes.is ∙ reports-same takes.start script n

  pub takes-logs : (n : ℕ) → logs_upto era.run n ≡ logged takes.start script n
  takes-logs n = ap (λ (run : Run). logs_upto run n) takes.is ∙ logs-same takes.start script n

  pub takes-account : (n : ℕ) → account_upto era.run n ≡ account_with takes.start script n
  takes-account n = ap (λ (run : Run). account_upto run n) takes.is ∙ account-same takes.start script n

  pub takes-count : length era.run.does ≡ event_count takes.start script
  takes-count = ap (λ (run : Run). length run.does) takes.is ∙ count-same takes.start script

  -- the account at the start of the run
  pub takes-start : era.run.account ≡ takes.start.account
  takes-start = ap (λ (run : Run). run.account) takes.is

  pub takes-store : era.run.store ≡ takes.start.store
  takes-store = ap (λ (run : Run). run.store) takes.is
