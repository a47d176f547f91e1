-- An event that needs the driver of the record store finds a driver, and doesn't change the machine description.
use Rattle.std.proofs.Common.{◌≡◌, Some, Result, Ok, IfOk, refl, subst}
use Rattle.ras_script.specs.declared.line.Line.{Line}
use Rattle.ras_script.specs.declared.line.Line.TheVariants as asks
use Rattle.ras_events.specs.declared.event.Event.{Event}
use Rattle.ras_events.specs.declared.event.LineRefusal.{LineRefusal}
use Rattle.ras_events.specs.declared.settings.Settings.{Settings}
use Rattle.ras_events.specs.Events.{Lists, event_of, settings_after}
use Rattle.ras_events.proofs.AskedLemmas.{Asks, of-line}
use Rattle.ras_events.specs.Deeds.{Asking, deed_of, polls, saves}

-- The driver does what the deed asks of the store.
abbrev pub IsByDriver : Asking → Type 0
IsByDriver (saves r) = Unit {0}
IsByDriver (polls seconds) = Unit {0}
IsByDriver asks = ⊥

abbrev pub IsDriven : Event → Type 0
IsDriven event = IsByDriver (deed_of (Ok event)).asks

pub record Driven (settings : Settings) (line : Line) : Type 0 where
  pub lists : Lists
  pub driver : settings.driver ≡ Some lists
  pub same : settings_after settings line ≡ settings

-- An event that needs the driver has it in the settings under which its line is processed.
abbrev Wants : Settings → Line → Result Event LineRefusal → Type 0
Wants settings line event = IfOk event (λ asked. IsDriven asked → Driven settings line)

module _ (settings : Settings) where
  line_driven : (line : Line) → Wants settings line (event_of settings line)
  line_driven line = of-line (Wants settings line) (λ why. tt) settings line (by line)
    where
      by : (line : Line) → Asks (Wants settings line) settings line
      by (asks.Report report) = λ made never. absurd never
      by (asks.Panic id bank) = λ lists is none driven. record { lists = lists; driver = is; same = refl }
      by (asks.Poll seconds) = λ lists is driven. record { lists = lists; driver = is; same = refl }
      by line = λ never. absurd never

  pub driven : (line : Line) (event : Event) → event_of settings line ≡ Ok event → IsDriven event → Driven settings line
  driven line event is = subst (Wants settings line) is (line_driven line)
