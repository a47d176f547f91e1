-- How each part of a run ends, and what it has done by then.
use Rattle.std.specs.Prelude.{◌≡◌, ℕ, Bool, true, false, List, ◌++◌, IfErr, IfOk, IfSome, Option, None, Some, Result, Ok, Err, ⊤}
use Rattle.board_core.specs.Cause.{Faults, disk_call, print_call}
use Rattle.board_core.specs.Doing.{Seen}
use Rattle.board_core.specs.Stop.{Left}
use Rattle.board_core.specs.Told.{Told}
use Rattle.ras_account.specs.Account.{State}
use Rattle.ras_account.specs.Accounts.{IsAccount}
use Rattle.ras_account.specs.Continued.{account_after_all}
use Rattle.ras_account.specs.Numbers.{fresh_entries_in}
use Rattle.ras_facts.specs.declared.entry.Entry.{Entry}
use Rattle.entry_format.specs.declared.version.Version.TheVariants.{Two}
use Rattle.journal_format.specs.Links.{CanLink, link_bytes}
use Rattle.ras_journal.specs.Recovered.{Refusal, recovered}
use Rattle.ras_recover.specs.declared.refused.OpenRefused.{OpenRefused}
use Rattle.ras_recover.specs.declared.refused.OpenRefused.TheVariants as opening
use Rattle.ras_recover.specs.Opening.{standing_opened}
use Rattle.ras_run.specs.declared.ledger.Ledger.{Ledger}
use Rattle.ras_run.specs.Keeping.{Stands}
use Rattle.ras_events.specs.declared.preparing.News.{News}
use Rattle.ras_events.specs.declared.made.Piece.{Piece}
use Rattle.ras_events.specs.Making.{entries_in}
use Rattle.ras_events.specs.Deeds.{made_in}
use Rattle.ras_events.specs.declared.event.Event.{Event}
use Rattle.ras_events.specs.declared.event.LineRefusal.{LineRefusal}
use Rattle.ras_events.specs.declared.settings.Settings.{Settings}
use Rattle.ras_events.specs.Sizes.{IsFit}
use Rattle.ras_exit.specs.declared.exit.Exit.{Exit}
use Rattle.ras_exit.specs.declared.exit.Exit.TheVariants.{DiskFault, Damaged, Full, NoMemory, TooLong}
use Rattle.ras_exit.specs.Causes.{BoardCause, Causes}
use Rattle.ras_exit.specs.Endings.{AnyFault, EndsBy, IsStop, OnlyFault, ending_of}
use Rattle.ras_run.specs.declared.run.Run.{Run}
use Rattle.ras_run.specs.Files.{refusal_exit}
use Rattle.ras_run.specs.Moments.{CourseMoment, course_at}
use Rattle.ras_run.specs.News.{has_no_room_for, lacks_room_for, standing_with_news}
use Rattle.ras_run.specs.Places.{Place, event_at}
use Rattle.ras_run.specs.Sites.{Site}
use Rattle.ras_run.specs.Status.{site_refusal}

-- The printed text grew by a piece.
abbrev pub Prints : List ℕ → Told → Told → Type 0
Prints piece old new = new.here.out ≡ old.here.out ++ piece

-- If the board has a model, its files contain the ledger's account at the journal's position.
abbrev pub LedgerStands : Ledger → Seen → Type 0
LedgerStands ledger seen = Stands ledger.journal.standing ledger.account.state seen.told seen.clock

-- The files contain the ledger's account, and its journal hasn't failed: the run can process the next line.
pub record IsReady (ledger : Ledger) (seen : Seen) : Type 0 where
  pub usable : ledger.journal.failed ≡ false
  pub stands : LedgerStands ledger seen

-- The exit of a part that only prints: printing failed, or memory ran out.
abbrev pub IsPrintExit : Exit → Type 0
IsPrintExit exit = EndsBy ⊥ ⊤ (OnlyFault print_call) (ending_of exit)

-- ---- a line

-- An event is accepted at a site: it isn't rejected, and its new entries can be one link.
pub record IsAcceptedIn (site : Site) (number : ℕ) (event : Result Event LineRefusal) : Type 0 where
  pub taken : site_refusal site number event ≡ None
  pub fit : IsFit (made_in site.settings.topology site.store event)

-- A run has this machine description, and has counted these pieces after a site.
pub record HasCounted (site : Site) (told : Settings) (made : List Piece) (run : Run) : Type 0 where
  pub settings : run.settings ≡ told
  pub account : run.ledger.account.state ≡ account_after_all site.account (entries_in made)
  pub standing :
      run.ledger.journal.standing
      ≡ standing_with_news site.account site.standing (fresh_entries_in site.account (entries_in made))

-- An event was processed at a site, or the run ends there: the event is rejected, memory ran out, or a call of the
-- board failed.
abbrev pub TakesIn : Site → ℕ → Settings → Result Event LineRefusal → Result (Unit {0}) Exit → Run → Type 0
TakesIn site number told event (Ok done) run =
    IsAcceptedIn site number event × HasCounted site told (made_in site.settings.topology site.store event) run
TakesIn site number told event (Err exit) run = EndsBy (site_refusal site number event ≡ Some exit) ⊤ AnyFault (ending_of exit)

-- The event of a line is accepted at the line's place.
abbrev pub IsAccepted : Place → Type 0
IsAccepted place = IsAcceptedIn place.0 place.1.0 (event_at place)

-- what a crash leaves while a line is processed over these files
abbrev pub LineMoment : Place → Left → Left → Type 0
LineMoment place here left = CourseMoment (IsAccepted place) (course_at place) here.out left

-- ---- a record that is put or saved

-- A part of a run succeeds only if nothing rejects it.
abbrev pub EndsUnless : Option Exit → Result (Unit {0}) Exit → Type 0
EndsUnless refusal (Ok done) = refusal ≡ None
EndsUnless refusal (Err exit) = EndsBy (refusal ≡ Some exit) ⊤ AnyFault (ending_of exit)

-- ---- the new entries of an event, appended to the journal and counted

-- The link of these new entries is one that the journal can contain.
pub record CanBeKept (news : News) : Type 0 where
  pub bytes : news.link ≡ link_bytes news.entries.items
  pub can : CanLink Two news.entries.items

-- How a part of a run ends that may lack room: with Full if and only if there is no room. Memory may run out in either
-- case, and a call of the board fails only if there is room.
abbrev pub EndsByRoom : Bool → Exit → Type 0
EndsByRoom lacks exit = EndsBy ((exit ≡ Full) × (lacks ≡ true)) ⊤ (λ kind. lacks ≡ false) (ending_of exit)

-- What becomes of a ledger: new entries are counted, if there is room for them.
abbrev pub CountsNews : List Entry → Result (Unit {0}) Exit → Ledger → Ledger → Type 0
CountsNews news (Ok done) old new =
    (lacks_room_for old.account.state old.journal.standing news ≡ false)
    × (new.account.state ≡ account_after_all old.account.state news)
    × (new.journal.standing ≡ standing_with_news old.account.state old.journal.standing news)
CountsNews news (Err exit) old new = EndsByRoom (lacks_room_for old.account.state old.journal.standing news) exit

-- What becomes of a ledger: the new entries among the pieces of a line are counted, if there is room for them.
abbrev pub CountsMade : {T : Type 0} → List Piece → Result T Exit → Ledger → Ledger → Type 0
CountsMade made (Ok done) old new =
    (has_no_room_for old.account.state old.journal.standing (entries_in made) ≡ false)
    × (new.account.state ≡ account_after_all old.account.state (entries_in made))
    × (new.journal.standing
    ≡ standing_with_news old.account.state old.journal.standing (fresh_entries_in old.account.state (entries_in made)))
CountsMade made (Err exit) old new = EndsByRoom (has_no_room_for old.account.state old.journal.standing (entries_in made)) exit

-- What becomes of a ledger: the new entries among the pieces of a poll are counted, unless the poll is rejected.
abbrev pub CountsPolled : Option Exit → List Piece → Result (Unit {0}) Exit → Ledger → Ledger → Type 0
CountsPolled refusal made (Ok done) old new =
    (refusal ≡ None) × IsFit made
    × (new.account.state ≡ account_after_all old.account.state (entries_in made))
    × (new.journal.standing
    ≡ standing_with_news old.account.state old.journal.standing (fresh_entries_in old.account.state (entries_in made)))
CountsPolled refusal made (Err exit) old new = EndsBy (refusal ≡ Some exit) ⊤ AnyFault (ending_of exit)

-- ---- an opening

-- how a run ends if its journal can't be opened
abbrev pub unopened_exit : OpenRefused → Exit
unopened_exit opening.Disk = DiskFault
unopened_exit opening.TooLong = TooLong
unopened_exit (opening.Damaged file place) = Damaged file place
unopened_exit opening.NoMemory = NoMemory

-- An opening returns the account that the files contain, or the exit for files that reject a run.
abbrev pub OpensLedger : Result Ledger Exit → Result State Refusal → Type 0
OpensLedger (Ok ledger) held = held ≡ Ok ledger.account.state
OpensLedger (Err exit) held = EndsBy (refusal_exit held ≡ Some exit) ⊤ (OnlyFault disk_call) (ending_of exit)

-- An opening returns the account and the journal's position that the files contain. The journal can be written.
pub record Opened (result : Result Ledger Exit) (told : Option Told) (now : Seen) : Type 0 where
  pub held : IfSome told (λ t. OpensLedger result (recovered t.here.file0 t.here.file1))
  pub standing : IfOk result (λ ledger. IfSome told (λ t. ledger.journal.standing ≡ standing_opened t.here.file0 t.here.file1))
  pub ready : IfOk result (λ ledger. IsReady ledger now)
  pub account : IfOk result (λ ledger. IsAccount ledger.account.state)

-- How an opening ends, and which fault count rose.
pub record EndsOpening (result : Result Ledger Exit) (faults faults' : Faults) : Type 0 where
  pub stop : IfErr result IsStop
  pub cause : Causes BoardCause result faults faults'

-- Opening the journal again during a run doesn't change the account or the position. A journal that the run has opened
-- isn't rejected.
abbrev pub Reopens : Result (Unit {0}) Exit → Ledger → Ledger → Type 0
Reopens (Ok done) old new = (new.account.state ≡ old.account.state) × (new.journal.standing ≡ old.journal.standing)
Reopens (Err exit) old new = EndsBy ⊥ ⊤ AnyFault (ending_of exit)
