-- A line that reports nothing new, recognized before its event is built.
use Rattle.std.specs.Prelude.{◌≡◌, false, List, [], Some, Ok, ℕ}
use Rattle.ras_account.specs.Account.{State}
use Rattle.ras_account.specs.Continued.{is_fresh_in}
use Rattle.ras_account.specs.Numbers.{HasRoomFor, fresh_entries_in}
use Rattle.ras_facts.specs.Facts.{bank_fact}
use Rattle.ras_facts.specs.declared.bank.BankReport.{BankReport}
use Rattle.ras_facts.specs.declared.entry.Entry.TheVariants as entry
use Rattle.ras_facts.specs.declared.fact.Fact.{Fact}
use Rattle.ras_script.specs.declared.line.ErrorReport.TheVariants.{Bank}
use Rattle.ras_script.specs.declared.line.Line.{Line}
use Rattle.ras_script.specs.declared.line.Line.TheVariants as asks
use Rattle.ras_events.specs.declared.event.Event.TheVariants.{Counted}
use Rattle.ras_events.specs.declared.settings.Settings.{Settings}
use Rattle.ras_events.specs.Events.{event_of, settings_after}
use Rattle.ras_events.specs.declared.made.Piece.{Piece}
use Rattle.ras_events.specs.Making.{entries_in}
use Rattle.ras_events.specs.Preparing.{text_along}
use Rattle.ras_events.specs.Sizes.{IsFit}

-- A line reports entries none of which is new to an account, and this text is their lines. So the line changes neither
-- the account nor the settings, and there is room for it.
pub record IsRepeat (account : State) (settings : Settings) (line : Line) (text : List ℕ) : Type 0 where
  pub made : List Piece
  pub asked : event_of settings line ≡ Ok (Counted made)
  pub settled : settings_after settings line ≡ settings
  pub fit : IsFit made
  pub none : fresh_entries_in account (entries_in made) ≡ []
  pub room : HasRoomFor account (entries_in made)
  pub lines : text ≡ text_along account made

-- A line reports a machine-check error that the account already knows.
pub record IsKnownBank (account : State) (settings : Settings) (line : Line) : Type 0 where
  pub bank : BankReport
  pub fact : Fact
  pub line_is : line ≡ asks.Report (Bank bank)
  pub fact_is : bank_fact bank settings.topology ≡ Some fact
  pub known : is_fresh_in account (entry.Fact fact) ≡ false
