-- The stages of a line, and what a crash leaves at each of them: one relation for every kind of line.
use Rattle.std.specs.Prelude.{◌≡◌, ℕ, ◌⊎◌, Bool, List, ◌++◌, Result, if◌then◌else◌}
use Rattle.board_core.specs.Stop.{Becomes, Begins, Left}
use Rattle.erst_store.specs.Store.{Stored}
use Rattle.ras_account.specs.Account.{State}
use Rattle.ras_journal.specs.Recovered.{Recovers}
use Rattle.ras_events.specs.declared.event.Event.{Event}
use Rattle.ras_events.specs.declared.event.LineRefusal.{LineRefusal}
use Rattle.ras_events.specs.Stores.{unreadable, without_first}
use Rattle.ras_exit.specs.declared.exit.Exit.{Exit}
use Rattle.ras_exit.specs.declared.exit.Exit.TheVariants.{ErstBusy}
use Rattle.ras_events.specs.Deeds.{Deed, deed_of}
use Rattle.ras_run.specs.Deeds.{clears_by, deed_done, deed_text, store_asked}
use Rattle.ras_run.specs.Places.{Place, deed_at, site_after}
use Rattle.ras_run.specs.Sites.{Site}

-- The stages of a line start from: the account before the line and after it; the record store before the line, and
-- once its record is stored; whether the line clears the readable records; its text and its done line.
pub record Course : Type 0 where
  pub before : State
  pub after : State
  pub store : List Stored
  pub stored : List Stored
  pub clears : Bool
  pub text : List ℕ
  pub done : List ℕ

-- The store once the first n records are cleared, and once all are.
abbrev pub store_cleared : Course → ℕ → List Stored
store_cleared c count = if c.clears then without_first count c.stored else c.stored

abbrev pub store_left : Course → List Stored
store_left c = if c.clears then unreadable c.stored else c.stored

-- The line's new entries aren't in the journal yet. Its record is stored or isn't.
pub record IsBegun (c : Course) (out : List ℕ) (left : Left) : Type 0 where
  pub recovers : Recovers c.before left
  pub store : Becomes c.stored c.store left.store
  pub text : left.out ≡ out

-- The new entries are in the journal, and a beginning of the text is printed.
pub record IsKept (c : Course) (out : List ℕ) (left : Left) : Type 0 where
  pub recovers : Recovers c.after left
  pub store : left.store ≡ c.stored
  pub text : Begins c.text out left.out

-- The text is printed, and the first records are cleared.
pub record IsClearing (c : Course) (out : List ℕ) (left : Left) : Type 0 where
  pub recovers : Recovers c.after left
  pub count : ℕ
  pub store : left.store ≡ store_cleared c count
  pub text : left.out ≡ out ++ c.text

-- All readable records are cleared, and a beginning of the done line is printed.
pub record IsEnding (c : Course) (out : List ℕ) (left : Left) : Type 0 where
  pub recovers : Recovers c.after left
  pub store : left.store ≡ store_left c
  pub text : Begins c.done (out ++ c.text) left.out

-- Only an accepted line appends its new entries.
abbrev pub CourseMoment : Type 0 → Course → List ℕ → Left → Type 0
CourseMoment Accepted c out left =
    IsBegun c out left ⊎ (Accepted × (IsKept c out left ⊎ (IsClearing c out left ⊎ IsEnding c out left)))

-- ---- the stages of a deed, and of a line at its place

-- The stages of a deed at a site, if this is the account afterwards.
abbrev pub course_to : Site → ℕ → Deed → State → Course
course_to site number deed after = record {
  before = site.account;
  after = after;
  store = site.store;
  stored = store_asked deed.asks site.store;
  clears = clears_by deed.asks;
  text = deed_text site deed;
  done = deed_done number deed;
}

-- The store once an event's own record is in it; and whether an event clears records.
abbrev pub stored_by : Result Event LineRefusal → List Stored → List Stored
stored_by event store = store_asked (deed_of event).asks store

abbrev pub clears_store : Result Event LineRefusal → Bool
clears_store event = clears_by (deed_of event).asks

-- The store after a rejected line: a device that was busy for too long has stored the line's record anyway.
abbrev pub refused_store : Exit → Result Event LineRefusal → List Stored → List Stored
refused_store ErstBusy event store = stored_by event store
refused_store exit event store = store

-- The stages of a line at its place; the account afterwards is the account of the next site.
abbrev pub course_at : Place → Course
course_at place = course_to place.0 place.1.0 (deed_at place) (site_after place.0 place.1).account
