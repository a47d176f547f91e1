-- What a crash at any point of a run leaves, and what a run leaves when it ends.
use Rattle.std.specs.Prelude.{◌≡◌, ℕ, ◌+◌, ◌<◌, ◌⊎◌, List, ◌++◌, length, take, Option, Some, Ok, ⊤}
use Rattle.std.specs.List.{flat_map, fold}
use Rattle.board_core.specs.Clock.{Adds, Always, Clock, LeftNow, Rests}
use Rattle.board_core.specs.Doing.{Act, Seen, after_acts}
use Rattle.board_core.specs.Stop.{Left}
use Rattle.board_core.specs.Told.{Told}
use Rattle.cper_records.specs.Readable.{filled, read_under}
use Rattle.erst_store.specs.Store.{Stored, bytes_under}
use Rattle.ras_base.specs.Prefix.{IsPrefixOf}
use Rattle.ras_account.specs.Account.{State}
use Rattle.ras_account.specs.Continued.{account_after_all}
use Rattle.ras_facts.specs.declared.entry.Entry.{Entry}
use Rattle.ras_journal.specs.Recovered.{HasFewLinks, Recovers}
use Rattle.ras_recover.specs.OpeningActs.{AreOpeningActs}
use Rattle.ras_recover.specs.Recovering.{MaySync, SyncsFirst}
use Rattle.ras_run.specs.Sites.{Start}
use Rattle.ras_run.specs.Places.{Place, deed_at, entries_at}
use Rattle.ras_daemon.specs.Script.{events_of}
use Rattle.ras_run.specs.Deeds.{store_done}
use Rattle.ras_events.specs.DoneLines.{done_count}
use Rattle.ras_exit.specs.declared.exit.Exit.{Exit}
use Rattle.ras_exit.specs.declared.exit.Exit.TheVariants.{DiskFault, NoMemory}
use Rattle.ras_panic.specs.Reading.{stored_name}
use Rattle.ras_daemon.specs.Machine.{Run, account_upto, change_next, clears, last_upto, store_upto, text_of, text_upto}
use Rattle.ras_daemon.specs.RunOf.{run_of}
use Rattle.ras_daemon.specs.RunStatus.{start_of}
use Rattle.ras_daemon.specs.StoreDuring.{HasPut, KnownBy, KnowsReadable, StoreDuring, store_at_end}
use Rattle.ras_daemon.specs.declared.word.Task.{Task}
use Rattle.ras_daemon.specs.declared.word.Task.TheVariants as tasks

-- what the first n events of a script report, and the account at the start with these reports
abbrev pub reported : Start → List ℕ → ℕ → List Entry
reported start script n = flat_map entries_at (take n (events_of start script))

abbrev pub account_with : Start → List ℕ → ℕ → State
account_with start script n = account_after_all start.account (reported start script n)

-- the record store after one more event, and after the first n events
abbrev pub store_by : List Stored → Place → List Stored
store_by store place = store_done (deed_at place).asks store

abbrev pub laid_with : Start → List ℕ → ℕ → List Stored
laid_with start script n = fold store_by start.store (take n (events_of start script))

-- What a crash leaves of a run.
pub record Headline (run : Run) (here left : Left) : Type 0 where
  -- The text is what was printed before the run, and then a beginning of what the run prints. By this text,
  -- `done` events are done.
  pub printed : List ℕ
  pub text : left.out ≡ here.out ++ printed
  pub begins : IsPrefixOf printed (text_of run)
  pub done : ℕ
  pub counted : done_count printed ≡ done
  -- The files give the account at the start with what these events report, or with what the next event reports too.
  -- Once a byte of the next event's text is printed, the account has that event's reports.
  pub account : State
  pub recovers : Recovers account left
  pub whole : (account ≡ account_upto run done) ⊎ (account ≡ account_upto run (done + 1))
  pub acknowledged : length (text_upto run done) < length printed → account ≡ account_upto run (done + 1)
  -- The record store is what these events left, or a state while the next event changes it. No record is
  -- cleared before the account knows the name of each readable record.
  pub store : StoreDuring (change_next run done) (store_upto run done) left.store
  pub cleared :
      change_next run done ≡ clears → ¬ (left.store ≡ store_upto run done)
      → KnowsReadable (store_upto run done) (KnownBy account)
  -- Each readable record that was last put, or was there at the start, is in the store, or the account knows
  -- its name, or the record that the next event puts has replaced it.
  pub kept :
      (id : ℕ) (bytes own : List ℕ) → last_upto run done id ≡ Some bytes → read_under id (filled bytes) ≡ Ok own
      → HasPut (change_next run done) id left.store
      ⊎ ((bytes_under id left.store ≡ Some bytes) ⊎ KnownBy account (stored_name own))

-- What a run leaves if no call of the board failed: only whole events, exactly those that are done by what
-- was printed. The store also depends on how the run ended.
pub record IsWhole (run : Run) (exit : Exit) (before now : Told) : Type 0 where
  pub printed : List ℕ
  pub text : now.here.out ≡ before.here.out ++ printed
  pub done : ℕ
  pub counted : done_count printed ≡ done
  pub recovers : Recovers (account_upto run done) now.here
  pub store : now.here.store ≡ store_at_end exit (change_next run done) (store_upto run done)

-- What a crash leaves while the journal is opened and both files are synced: the files give the account at the start,
-- and store and text are unchanged.
pub record AtOpening (start : Start) (out : List ℕ) (left : Left) : Type 0 where
  pub recovers : Recovers start.account left
  pub store : left.store ≡ start.store
  pub text : left.out ≡ out

-- The journal was never open, because a disk call failed or memory ran out; `t` is the model at the run's start. The
-- source is left alone. A crash leaves what a crash at the start may have left, or, once both syncs of the opening
-- had returned `Ok`, the account at the start.
pub record NeverOpens {X : Type 0} (see : X → Seen) (exit : Exit) (Same : Type 0) (start : Start) (t : Told) (old new : X) : Type 0 where
  pub cut : (exit ≡ DiskFault) ⊎ (exit ≡ NoMemory)
  pub unread : Same
  pub syncs : MaySync see (AtOpening start t.here.out) t old new

-- The journal's opening has just ended; `before` is the model before it. Both files are synced. Exactly the acts of
-- an opening are done, and a crash leaves exactly what the model says.
pub record IsJustOpen (before : Told) (told : Option Told) (clock : Clock) : Type 0 where
  pub acts : List Act
  pub are : AreOpeningActs before.here acts
  pub rests : Rests (after_acts acts before) told clock

-- A run opened its journal; `t` is the model at the run's start. Until both syncs of the opening had returned `Ok`, a
-- crash leaves what a crash at the start may have left. From then on the headline holds, whatever a crash at the
-- start may leave; until the journal is open, a crash leaves the account at the start. From then on, too, no file has
-- more than 256 links, if none had at the start.
pub record Settles {X : Type 0} (see : X → Seen) (start : Start) (script : List ℕ) (t : Told) (old new : X) : Type 0 where
  -- the board when the journal was open; `syncs.synced` is the board when both syncs had returned `Ok`
  pub opened : X
  pub syncs : SyncsFirst see (AtOpening start t.here.out) t old opened
  pub just : IsJustOpen t (see opened).told (see opened).clock
  pub behind : Adds (Headline (run_of start script) t.here) (see opened).clock (see new).clock
  pub from : Always (see new).clock (see syncs.synced).clock.now (Headline (run_of start script) t.here)
  pub few : HasFewLinks t.here → Always (see new).clock (see syncs.synced).clock.now HasFewLinks

-- a crash left a run's account and record store as they were at the run's start
pub record GivesStart (start : Start) (left : Left) : Type 0 where
  pub recovers : Recovers start.account left
  pub store : left.store ≡ start.store

-- Whatever a crash at the start of a run may leave has this account and this store.
abbrev pub StopsRecover : Start → Clock → Type 0
StopsRecover start clock = (left : Left) → LeftNow clock left → GivesStart start left

-- `P` holds, provided that the arguments ask for a run, source and board are modelled, and the files give an account.
abbrev pub OverRun : (Start → List ℕ → Told → Type 0) → Option Task → Option (List ℕ) → Option Told → Type 0
OverRun P (Some tasks.Run) (Some script) (Some t) =
    (account : State) → Recovers account t.here → P (start_of account t) script t
OverRun P task script told = ⊤
