-- What happens to a journal: calls that work on it, one after another, and crashes of the machine at any
-- point.
use Rattle.std.specs.Prelude.{◌≡◌, ℕ, ◌⊎◌, List, [], ◌∷◌, ◌++◌, fold, Option, None, Some}
use Rattle.board_core.specs.Clock.{LeftNow, Adds}
use Rattle.board_core.specs.Doing.{Does, Ended, IsMade, Seen, went_well}
use Rattle.board_core.specs.Stop.{Left}
use Rattle.board_core.specs.Told.{Told}
use Rattle.ras_facts.specs.declared.entry.Entry.{Entry}
use Rattle.ras_account.specs.Account.{State}
use Rattle.ras_account.specs.Continued.{account_after_all}
use Rattle.ras_account.specs.History.{History, with_entries}
use Rattle.ras_journal.specs.declared.standing.Standing.{Standing}
use Rattle.ras_journal.specs.Recovered.{Recovers}
use Rattle.ras_journal.specs.Appending.{HasRoom, Links, append_acts, standing_with}
use Rattle.ras_recover.specs.Opening.{Opening, IsOpened}
use Rattle.ras_recover.specs.Recovering.{RestsHere}
use Rattle.ras_recover.specs.Switching.{CanSwitch, switch_acts, switched}

-- A call that works on a journal: an append of a link of these entries, a switch to the other file, or an opening of
-- the two files.
pub data JournalCall : Type 0 where
  an_append : List Entry → JournalCall
  a_switch : JournalCall
  an_opening : JournalCall

-- What has happened to a journal so far, the latest last: a call returned Ok; or a call was cut, by a crash of the
-- machine at any point or by a fault; or the machine crashed between two calls.
pub data Life : Type 0 where
  start : Life
  done : Life → JournalCall → Life
  cut : Life → JournalCall → Life
  stopped : Life → Life

-- an account continued by the entries of each link, in order
abbrev pub account_after_links : State → List (List Entry) → State
account_after_links account links = fold account_after_all account links

-- The links in the journal, each by its entries: all whose append returned Ok, in order. A link whose append was cut
-- may be in the journal or not.
abbrev pub AreKept : Life → List (List Entry) → Type 0
AreKept start links = links ≡ []
AreKept (done life (an_append entries)) links = (front : List (List Entry)) × AreKept life front × (links ≡ front ++ entries ∷ [])
AreKept (cut life (an_append entries)) links =
    AreKept life links ⊎ ((front : List (List Entry)) × AreKept life front × (links ≡ front ++ entries ∷ []))
AreKept (done life call) links = AreKept life links
AreKept (cut life call) links = AreKept life links
AreKept (stopped life) links = AreKept life links

-- An account is another account, continued by the entries of the links in the journal.
pub record Continues (account : State) (life : Life) (now : State) : Type 0 where
  pub links : List (List Entry)
  pub kept : AreKept life links
  pub is : now ≡ account_after_links account links

-- A crash leaves files that give an account continued in this way, and so are never damaged.
pub record RecoversBehind (account : State) (life : Life) (left : Left) : Type 0 where
  pub now : State
  pub continues : Continues account life now
  pub recovers : Recovers now left

-- a history with the entries of links after it
abbrev pub with_links : History → List (List Entry) → History
with_links history links = fold with_entries history links

-- ---- what one call does

-- a board, and the position of the journal that is open on it, if any
pub record Site (B : Type 0) : Type 0 where
  pub board : B
  pub journal : Option Standing

-- a board on which a journal is open at this position
abbrev pub open_site : {B : Type 0} → B → Standing → Site B
open_site board standing = record { board = board; journal = Some standing }

-- The files give this account.
abbrev pub IsHeld : Option Told → State → Type 0
IsHeld told account = (t : Told) → told ≡ Some t → Recovers account t.here

-- A link of these entries can continue the account that the files give.
abbrev pub CanLinkHere : Option Told → List Entry → List ℕ → Type 0
CanLinkHere told entries link = (account : State) (t : Told) → told ≡ Some t → Recovers account t.here → Links account entries link

-- An append is called, of a link of these entries.
pub record CallsAppend {B : Type 0} (see : B → Seen) (entries : List Entry) (site : Site B) : Type 0 where
  pub standing : Standing
  pub link : List ℕ
  pub journal : site.journal ≡ Some standing
  pub links : CanLinkHere (see site.board).told entries link

-- A switch is called, with the account that the files give.
pub record CallsSwitch {B : Type 0} (see : B → Seen) (site : Site B) : Type 0 where
  pub standing : Standing
  pub account : State
  pub journal : site.journal ≡ Some standing
  pub held : IsHeld (see site.board).told account

-- An opening is called, of a modelled board.
pub record CallsOpening {B : Type 0} (see : B → Seen) (site : Site B) : Type 0 where
  pub there : Told
  pub tells : (see site.board).told ≡ Some there

-- A call is in progress, or has returned, with any result: an append or a switch does its acts, or begins them. What
-- crashes leave of an opening is what the function's clause says.
abbrev pub Works : {B : Type 0} → (B → Seen) → JournalCall → Site B → B → Type 0
Works see (an_append entries) old new =
    (c : CallsAppend see entries old) × (ended : Ended) × (IsMade ended → HasRoom c.standing c.link)
    × Does see (append_acts c.standing c.link) ended old.board new
Works see a_switch old new =
    (c : CallsSwitch see old) × (ended : Ended) × (IsMade ended → CanSwitch c.standing c.account)
    × Does see (switch_acts c.standing c.account) ended old.board new
Works see an_opening old new =
    (c : CallsOpening see old) × Adds (Opening (see old.board).clock c.there.here) (see old.board).clock (see new).clock

-- An opening returned Ok, with this account.
pub record OpensJournal {B : Type 0} (see : B → Seen) (account : State) (old new : Site B) : Type 0 where
  pub call : CallsOpening see old
  pub standing : Standing
  pub recovers : Recovers account call.there.here
  pub is : IsOpened standing account (see new.board).told (see new.board).clock
  pub journal : new.journal ≡ Some standing

-- A call returned Ok: an append and a switch have done their acts, and the journal has this position.
abbrev pub IsAnswered : {B : Type 0} → (B → Seen) → JournalCall → Site B → Site B → Type 0
IsAnswered see (an_append entries) old new =
    (c : CallsAppend see entries old) × (new.journal ≡ Some (standing_with c.standing c.link)) × HasRoom c.standing c.link
    × Does see (append_acts c.standing c.link) went_well old.board new.board
IsAnswered see a_switch old new =
    (c : CallsSwitch see old) × (new.journal ≡ Some (switched c.standing c.account)) × CanSwitch c.standing c.account
    × Does see (switch_acts c.standing c.account) went_well old.board new.board
IsAnswered see an_opening old new = (account : State) × OpensJournal see account old new

-- ---- crashes

-- The machine was started again over what a crash left: the board's model says that, a crash now leaves
-- exactly that, and no journal is open.
pub record StartsOver {B : Type 0} (see : B → Seen) (left : Left) (site : Site B) : Type 0 where
  pub rests : RestsHere left (see site.board).told (see site.board).clock
  pub journal : site.journal ≡ None

-- A life begins here with this account: the machine was started over files that give the account, or an open journal
-- has it.
abbrev pub BeginsWith : {B : Type 0} → (B → Seen) → State → Site B → Type 0
BeginsWith see account site =
    ((here : Left) × Recovers account here × StartsOver see here site)
    ⊎ ((standing : Standing) × (site.journal ≡ Some standing) × IsOpened standing account (see site.board).told (see site.board).clock)

-- A call was cut: by a crash at any point, after which the machine was started again; or by a fault, after
-- which no journal is open on the board.
abbrev pub IsCut : {B : Type 0} → (B → Seen) → JournalCall → Site B → Site B → Type 0
IsCut {B} see call old new =
    (board : B) × Works see call old board
    × (((left : Left) × (see board).clock.may_leave_since (see old.board).clock.now left × StartsOver see left new)
    ⊎ (new ≡ record { board = board; journal = None }))

-- The machine crashed between two calls, and was started again.
abbrev pub IsStopped : {B : Type 0} → (B → Seen) → Site B → Site B → Type 0
IsStopped see old new = (left : Left) × LeftNow (see old.board).clock left × StartsOver see left new

-- A life as a relation of its first and last site: all of this happened, one after the other.
abbrev pub Lives : {B : Type 0} → (B → Seen) → Life → Site B → Site B → Type 0
Lives see start first last = last ≡ first
Lives {B} see (done life call) first last = (mid : Site B) × Lives see life first mid × IsAnswered see call mid last
Lives {B} see (cut life call) first last = (mid : Site B) × Lives see life first mid × IsCut see call mid last
Lives {B} see (stopped life) first last = (mid : Site B) × Lives see life first mid × IsStopped see mid last
