-- How a run ends.
use Rattle.std.specs.Prelude.{ℕ, List, [], ◌∷◌, Option, None, Some}
use Rattle.std.specs.Option.{option_map_or}
use Rattle.board_core.specs.Told.{Told}
use Rattle.ras_account.specs.Account.{State, account_of}
use Rattle.ras_account.specs.History.{empty}
use Rattle.ras_recover.specs.Opening.{standing_opened}
use Rattle.ras_run.specs.Sites.{Start}
use Rattle.ras_run.specs.Places.{Place}
use Rattle.ras_daemon.specs.Script.{places_of}
use Rattle.ras_exit.specs.declared.exit.Exit.{Exit}
use Rattle.ras_exit.specs.ScriptEnd.{script_exit}
use Rattle.ras_run.specs.Status.{refusal_at}

-- where a run starts: over files that give this account, on a board with this model
abbrev pub start_of : State → Told → Start
start_of account t = record {
  account = account;
  standing = standing_opened t.here.file0 t.here.file1;
  store = t.here.store;
  slow = t.volatile.slow;
}

-- where a run starts over empty files, with the empty account and no record, over a device that is never busy
abbrev pub empty_start : Start
empty_start = record { account = account_of empty; standing = standing_opened [] []; store = []; slow = 0 }

-- the first rejected line, at its place, and why it is rejected
abbrev pub refused_or : Option Exit → Place → Option (Place × Exit) → Option (Place × Exit)
refused_or None place later = later
refused_or (Some why) place later = Some (place, why)

abbrev pub first_refused : List Place → Option (Place × Exit)
first_refused [] = None
first_refused (place ∷ places) = refused_or (refusal_at place) place (first_refused places)

abbrev pub script_refused : Start → List ℕ → Option (Place × Exit)
script_refused start script = first_refused (places_of start script)

-- how a run over a script ends: as its first rejected line says, or as the script's list of lines ends
abbrev pub run_exit : Start → List ℕ → Exit
run_exit start script =
    option_map_or (λ (refused : Place × Exit). refused.1) (script_refused start script) (script_exit script)
