-- The account of a run over a made-up script, which begins over empty files.
use Rattle.std.proofs.Common.{◌≡◌, ℕ, List, Ok, IfOk, refl, sym, ap, ◌∙◌, subst}
use Rattle.board_core.specs.Told.{Told}
use Rattle.ras_account.specs.Account.{State, account_of}
use Rattle.ras_account.specs.History.{empty}
use Rattle.ras_recover.specs.Opening.{standing_opened}
use Rattle.ras_run.specs.Sites.{Start}
use Rattle.ras_run.specs.Places.{site_at}
use Rattle.ras_daemon.specs.Script.{reads_of}
use Rattle.ras_exit.specs.declared.exit.Exit.{Exit}
use Rattle.ras_exit.specs.declared.exit.Exit.TheVariants.{Done}
use Rattle.ras_journal.specs.File.{front_of}
use Rattle.ras_journal.specs.Recovered.{Recovers, journal_of, recovered}
use Rattle.ras_load.specs.LoadScript.{load_script}
use Rattle.ras_daemon.specs.Loading.{load_account, nothing_there}
use Rattle.ras_daemon.specs.RunStatus.{start_of}
use Rattle.ras_daemon.specs.Steps.Running.{RunEnds}
use Rattle.ras_daemon.proofs.FirstLinesLemmas.{account-all}

-- empty files give the account of the empty history
nothing_recovered : Recovers (account_of empty) nothing_there
unfolding front_of journal_of recovered
nothing_recovered = record { is = refl }

-- the files after a successful run give the account of all lines
done_account : (start : Start) (script : List ℕ) (old now : Told) → RunEnds start script Done old.here.out now → recovered now.here.file0 now.here.file1 ≡ Ok (site_at start (reads_of script)).account
done_account start script old now ends =
    ends.recovers.is ∙ ap (λ (account : State). Ok account) (account-all start script ends.before ends.all.all ends.all.exit_is)

-- what a successful run over the script leaves in files that were empty
load_recovered : (n : ℕ) (script : List ℕ) (exit : Exit) (old now : Told) → script ≡ load_script n → old.here ≡ nothing_there → old.volatile.slow ≡ 0 → exit ≡ Done
    → ((account : State) → Recovers account old.here → RunEnds (start_of account old) script exit old.here.out now)
    → recovered now.here.file0 now.here.file1 ≡ Ok (load_account n)
load_recovered n script exit old now script_is here_is slow_is done runs =
    let starts : Recovers (account_of empty) old.here = subst (Recovers (account_of empty)) (sym here_is) nothing_recovered in
    done_account (start_of (account_of empty) old) script old now (subst (λ (e : Exit). RunEnds (start_of (account_of empty) old) script e old.here.out now) done (runs (account_of empty) starts))
    ∙ (λ i. Ok (site_at (record { account = account_of empty; standing = standing_opened (here_is i).file0 (here_is i).file1; store = (here_is i).store; slow = slow_is i }) (reads_of (script_is i))).account)

-- The account that is recovered after the run is the account of all its lines. Nothing else is needed of the run.
pub load_found : (n : ℕ) (script : List ℕ) (exit : Exit) (old now : Told) (state : State) → script ≡ load_script n → old.here ≡ nothing_there → old.volatile.slow ≡ 0 → exit ≡ Done
    → ((account : State) → Recovers account old.here → RunEnds (start_of account old) script exit old.here.out now)
    → recovered now.here.file0 now.here.file1 ≡ Ok state → state ≡ load_account n
load_found n script exit old now state script_is here_is slow_is done runs found =
    subst (λ r. IfOk r (λ a. state ≡ a)) (sym found ∙ load_recovered n script exit old now script_is here_is slow_is done runs) refl
