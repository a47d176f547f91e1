-- What is printed for a run over a made-up script of n reports: the line that sums up the run's account. The run has
-- its own files, which are empty at first.
use Rattle.std.specs.Prelude.{ℕ, List, []}
use Rattle.board_core.specs.Stop.{Left}
use Rattle.ras_account.specs.Account.{State}
use Rattle.ras_load.specs.LoadScript.{load_script}
use Rattle.ras_load.specs.Summary.{load_line}
use Rattle.ras_run.specs.Places.{site_at}
use Rattle.ras_daemon.specs.RunStatus.{empty_start}
use Rattle.ras_daemon.specs.Script.{reads_of}

-- empty files, a store without records, and nothing printed
abbrev pub nothing_there : Left
nothing_there = record { file0 = []; file1 = []; store = []; out = [] }

-- the account after all lines of the made-up script of n reports
abbrev pub load_account : ℕ → State
load_account n = (site_at empty_start (reads_of (load_script n))).account

-- the line that sums up the run of n reports
abbrev pub load_output : ℕ → List ℕ
load_output n = load_line n (load_account n)
