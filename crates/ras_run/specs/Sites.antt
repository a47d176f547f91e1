-- Where a run begins, and its site before each line: all that decides what the next line does.
use Rattle.std.specs.Prelude.{◌≡◌, ℕ, List, [], IfSome, IsTrue, Option, unwrap_or}
use Rattle.board_core.specs.Told.{Told}
use Rattle.erst_interp.specs.Walk.{is_admitted}
use Rattle.erst_store.specs.Store.{Stored}
use Rattle.ras_account.specs.Account.{State}
use Rattle.ras_journal.specs.declared.standing.Standing.{Standing}
use Rattle.ras_events.specs.Events.{Lists, no_settings}
use Rattle.ras_events.specs.declared.settings.Settings.{Settings}
use Rattle.ras_run.specs.declared.run.Run.{Run}

-- Where a run begins: the account in the journal, the journal's position, the record store, and how many busy answers
-- a command of the store's device takes.
pub record Start : Type 0 where
  pub account : State
  pub standing : Standing
  pub store : List Stored
  pub slow : ℕ

-- What a run has before a line: the machine description, the account, the journal's position, the record store, and
-- how many busy answers a command of the store's device takes.
pub record Site : Type 0 where
  pub settings : Settings
  pub account : State
  pub standing : Standing
  pub store : List Stored
  pub slow : ℕ

-- the site of a run's first line: no line has described the machine yet
abbrev pub first_site : Start → Site
first_site start = record {
  settings = no_settings;
  account = start.account;
  standing = start.standing;
  store = start.store;
  slow = start.slow;
}

-- the lists that drive the record store; empty if no line gave them
abbrev pub driving_lists : Site → Lists
driving_lists site = unwrap_or site.settings.driver []

-- Lists that drive the record store are admitted.
abbrev pub IsDrivable : Option Lists → Type 0
IsDrivable driver = IfSome driver (λ lists. IsTrue (is_admitted lists))

-- the site of a run, over a board with this model
abbrev pub site_of : Run → Told → Site
site_of run t = record {
  settings = run.settings;
  account = run.ledger.account.state;
  standing = run.ledger.journal.standing;
  store = t.here.store;
  slow = t.volatile.slow;
}

-- A run has the site's machine description, account and journal position.
pub record IsRunAt (site : Site) (run : Run) : Type 0 where
  pub settings : run.settings ≡ site.settings
  pub account : run.ledger.account.state ≡ site.account
  pub standing : run.ledger.journal.standing ≡ site.standing

-- A board has the site's record store and device.
pub record IsBoardAt (site : Site) (t : Told) : Type 0 where
  pub store : t.here.store ≡ site.store
  pub slow : t.volatile.slow ≡ site.slow
