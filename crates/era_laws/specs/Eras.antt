-- Runs on one journal and record store, one after another: each begins with what a crash left of the run before it,
-- or with what that run left at its end.
use Rattle.std.specs.Prelude.{◌≡◌, ℕ, ◌+◌, ◌<◌, ◌≤◌, ◌⊎◌, nat_eq, Bool, false, if◌then◌else◌, List, [], ◌∷◌, ◌++◌, length, drop, take, All, Contains, Option, Ok, ⊤}
use Rattle.std.specs.List.{flat_map, fold}
use Rattle.std.specs.Option.{option_or}
use Rattle.board_core.specs.Stop.{Left}
use Rattle.board_core.specs.Told.{Told}
use Rattle.erst_store.specs.Store.{Stored, bytes_under}
use Rattle.page_policy.specs.declared.rows.Order.{Order}
use Rattle.ras_account.specs.Account.{State, account_of}
use Rattle.ras_account.specs.History.{History}
use Rattle.ras_account.specs.Numbers.{fresh_entries_in}
use Rattle.ras_facts.specs.declared.entry.Entry.{Entry}
use Rattle.ras_facts.specs.declared.name.Name.{Name}
use Rattle.ras_journal.specs.Recovered.{Recovers}
use Rattle.ras_panic.specs.Reading.{stored_name}
use Rattle.ras_events.specs.Preparing.{orders_along_entries}
use Rattle.ras_events.specs.Stores.{read_stored}
use Rattle.ras_base.specs.Prefix.{IsPrefixOf}
use Rattle.ras_run.specs.Sites.{Start}
use Rattle.ras_script.specs.Lines.{script_lines}
use Rattle.ras_events.specs.DoneLines.{done_count}
use Rattle.ras_daemon.specs.Headline.{Headline}
use Rattle.ras_daemon.specs.Machine.{Run, RunEvent, StoreChange, account_upto, change_next, changes_upto, last_changed, puts, text_upto}
use Rattle.ras_daemon.specs.RunOf.{run_of}
use Rattle.ras_daemon.specs.RunStatus.{start_of}
use Rattle.ras_daemon.specs.Runs.{BeginsWith, IsTakenWhole, PollsNothing}

-- A run up to a crash at any point of it, or to its end: what was there at its start, and what was left.
pub record Era : Type 0 where
  pub run : Run
  pub here : Left
  pub left : Left

-- The run begins with the account that the files give and with the record store. What was left is what a
-- crash at some point of the run may leave.
pub record IsEra (era : Era) : Type 0 where
  pub opens : Recovers era.run.account era.here
  pub store : era.run.store ≡ era.here.store
  pub leaves : Headline era.run era.here era.left

-- A run begins with these files and this record store. Its printed text starts from scratch.
pub record BeginsOver (here : Left) (era : Era) : Type 0 where
  pub zero : era.here.file0 ≡ here.file0
  pub one : era.here.file1 ≡ here.file1
  pub store : era.here.store ≡ here.store

-- Eras follow one another: the first begins over `here`, and each other era over what the era before it left.
abbrev pub AreEras : Left → List Era → Type 0
AreEras here [] = ⊤
AreEras here (era ∷ eras) = BeginsOver here era × IsEra era × AreEras era.left eras

-- what the last era left
abbrev pub left_after : Left → List Era → Left
left_after here [] = here
left_after here (era ∷ eras) = left_after era.left eras

-- ---- what was counted

-- what an era printed, and how many of its events are done, by the done lines in that text
abbrev pub printed_in : Era → List ℕ
printed_in era = drop (length era.here.out) era.left.out

abbrev pub done_in : Era → ℕ
done_in era = done_count (printed_in era)

-- The files that an era left count the first n of its events: those that are done by what it printed, or one more.
-- They count one more if a byte of the next event's text is printed.
pub record Counts (era : Era) (n : ℕ) : Type 0 where
  pub recovers : Recovers (account_upto era.run n) era.left
  pub whole : (n ≡ done_in era) ⊎ (n ≡ done_in era + 1)
  pub acknowledged : length (text_upto era.run (done_in era)) < length (printed_in era) → n ≡ done_in era + 1

-- a number of events for each era
abbrev pub CountsEach : List Era → List ℕ → Type 0
CountsEach [] [] = ⊤
CountsEach (era ∷ eras) (n ∷ counts) = Counts era n × CountsEach eras counts
CountsEach eras counts = ⊥

-- what the first n events of a run report
abbrev pub reports_upto : Run → ℕ → List Entry
reports_upto run n = flat_map (λ (event : RunEvent). event.reports) (take n run.does)

-- what these events log, which is the entries that are new when each event comes, and the orders that they then give
abbrev pub logs_upto : Run → ℕ → List Entry
logs_upto run n = fresh_entries_in run.account (reports_upto run n)

abbrev pub orders_upto : Run → ℕ → List Order
orders_upto run n = orders_along_entries run.account (reports_upto run n)

-- what the counted events report, era by era
abbrev pub reported_in : List Era → List ℕ → List Entry
reported_in (era ∷ eras) (n ∷ counts) = reports_upto era.run n ++ reported_in eras counts
reported_in eras counts = []

-- what the counted events log, era by era
abbrev pub logged_in : List Era → List ℕ → List Entry
logged_in (era ∷ eras) (n ∷ counts) = logs_upto era.run n ++ logged_in eras counts
logged_in eras counts = []

-- what the counted events order, era by era
abbrev pub ordered_in : List Era → List ℕ → List Order
ordered_in (era ∷ eras) (n ∷ counts) = orders_upto era.run n ++ ordered_in eras counts
ordered_in eras counts = []

-- ---- the records

-- a change puts a record under this identifier
abbrev pub is_put_by : StoreChange → ℕ → Bool
is_put_by (puts r) id = nat_eq r.id id
is_put_by change id = false

-- The bytes last stored under an identifier at the end of an era, if `before` was stored at its start. They are
-- stored by its done events. If the next event puts a record there too, the crash may have come before or after that:
-- then the bytes that were left there count, and if none were left, the older record.
abbrev pub laid_in : ℕ → Option (List ℕ) → Era → Option (List ℕ)
laid_in id before era =
    let older = fold (last_changed id) before (changes_upto era.run (done_in era)) in
    if is_put_by (change_next era.run (done_in era)) id then option_or (bytes_under id era.left.store) older else older

-- the bytes last stored under an identifier after all eras, over the records that are here
abbrev pub last_laid_in : Left → List Era → ℕ → Option (List ℕ)
last_laid_in here eras id = fold (laid_in id) (bytes_under id here.store) eras

-- ---- the eras of scripts

-- the era of a script, over an account and what the board's model says
abbrev pub era_of : State → Told → List ℕ → Left → Era
era_of account t script left = record { run = run_of (start_of account t) script; here = t.here; left = left }

-- the run of an era is the run of a script, from some start
pub record TakesScript (script : List ℕ) (era : Era) : Type 0 where
  pub start : Start
  pub is : era.run ≡ run_of start script

-- the run of an era is the run of a script whose lines are the first lines of another script, or all of them
pub record TakesFirst (script : List ℕ) (era : Era) : Type 0 where
  pub own : List ℕ
  pub takes : TakesScript own era
  pub first : IsPrefixOf (script_lines own).whole (script_lines script).whole

-- A script without polls is run again from its first line after each crash, until a last run has done all of its
-- events. Meanwhile the script may grow at its end: each run takes as many lines as there were at that time.
pub record IsReplayed (history : History) (undisturbed : Start) (script : List ℕ) (here : Left) (eras : List Era) (last : Era) : Type 0 where
  -- The files give the account of a history, with which the uninterrupted run begins too.
  pub opens : Recovers (account_of history) here
  pub begins : BeginsWith history undisturbed
  -- All eras run first lines of the script, and the last one all of it.
  pub follow : AreEras here (eras ++ last ∷ [])
  pub takes : All (TakesFirst script) eras
  pub ends : TakesScript script last
  pub polls : PollsNothing script
  -- Neither the uninterrupted run nor the last run rejects a line, and the last run printed all done lines.
  pub whole : IsTakenWhole undisturbed script
  pub taken : IsTakenWhole ends.start script
  pub done : length last.run.does ≤ done_in last

-- a readable record in a store has this name
pub record IsReadableIn (store : List Stored) (name : Name) : Type 0 where
  pub stored : Stored
  pub there : Contains store stored
  pub own : List ℕ
  pub reads : read_stored stored ≡ Ok own
  pub is : name ≡ stored_name own
