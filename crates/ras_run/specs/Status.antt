-- Where a run ends among its lines: at the first rejected line.
use Rattle.std.specs.Prelude.{ℕ, List, [], ◌∷◌, Option, None, Some, Result, Ok, Err, is_some, if◌then◌else◌}
use Rattle.std.specs.Option.{option_map}
use Rattle.erst_store.specs.declared.store.PutRefused.{PutRefused}
use Rattle.erst_store.specs.Store.{Stored, is_full_for, refusal_of}
use Rattle.erst_driver.specs.declared.refusals.DriverRefused.{DriverRefused}
use Rattle.erst_driver.specs.declared.refusals.DriverRefused.TheVariants as driver
use Rattle.erst_driver.specs.Operations.{is_free_in_time}
use Rattle.ras_account.specs.Account.{State}
use Rattle.ras_facts.specs.declared.entry.Entry.{Entry}
use Rattle.ras_journal.specs.declared.standing.Standing.{Standing}
use Rattle.ras_events.specs.declared.event.Event.{Event}
use Rattle.ras_events.specs.declared.event.LineRefusal.{LineRefusal}
use Rattle.ras_events.specs.declared.event.LineRefusal.TheVariants.{Bad, NoTable}
use Rattle.ras_events.specs.declared.made.Piece.{Piece}
use Rattle.ras_events.specs.Making.{entries_in}
use Rattle.ras_records.specs.Polls.{is_busy_for_reads}
use Rattle.ras_exit.specs.declared.reason.Reason.TheVariants as reason
use Rattle.ras_exit.specs.declared.exit.Exit.{Exit}
use Rattle.ras_exit.specs.declared.exit.Exit.TheVariants.{BadLine, RegisterFault, Full, ErstRefused, ErstBusy, ErstStatus, NoMemory}
use Rattle.ras_run.specs.News.{has_no_room_for}
use Rattle.ras_run.specs.Places.{Place, event_at}
use Rattle.ras_run.specs.Sites.{Site}
use Rattle.ras_events.specs.Deeds.{Asking, Deed, deed_of, polls, puts, saves}
use Rattle.ras_run.specs.Deeds.{deed_counts}

-- how a run ends at a line whose request is invalid, or that needs the record store without an admitted table
abbrev pub refused_exit : ℕ → LineRefusal → Exit
refused_exit number (Bad why) = BadLine number why
refused_exit number NoTable = ErstRefused number

-- how a run ends at a put that the record store refuses
abbrev pub put_refusal : ℕ → Option PutRefused → Option Exit
put_refusal number refusal = option_map (λ why. BadLine number (reason.Put why)) refusal

-- How a run ends at a record that can't be saved under an identifier: the device is too slow, or the store is full and
-- has no record under it.
abbrev pub saving_refusal : ℕ → ℕ → List Stored → Option Exit
saving_refusal slow id store =
    if is_free_in_time slow then (if is_full_for id store then Some (ErstStatus 1) else None) else Some ErstBusy

-- how a run ends at an operation that the driver of the record store refuses
abbrev pub driver_exit : DriverRefused → Exit
driver_exit driver.Register = RegisterFault
driver_exit driver.Busy = ErstBusy
driver_exit (driver.Status code) = ErstStatus code
driver_exit driver.NoMemory = NoMemory

-- how a run ends at entries for which there is no room
abbrev pub counting_refusal : State → Standing → List Entry → Option Exit
counting_refusal account standing entries = if has_no_room_for account standing entries then Some Full else None

-- How a run ends at a poll: the device is too slow for reading the store's records, or there is no room for the
-- entries.
abbrev pub polling_refusal : ℕ → List Stored → State → Standing → List Entry → Option Exit
polling_refusal slow store account standing entries =
    if is_busy_for_reads slow store then Some ErstBusy else counting_refusal account standing entries

-- how a run ends at a deed for whose pieces there is no room
abbrev pub room_refusal : Site → Option (List Piece) → Option Exit
room_refusal site None = None
room_refusal site (Some made) = counting_refusal site.account site.standing (entries_in made)

-- Why a deed is rejected at a site: the record store refuses the record that the deed puts or saves, or its device is
-- too slow; or there is no room for what the deed counts.
abbrev pub asking_refusal : Site → ℕ → Asking → Option Exit → Option Exit
asking_refusal site number (puts r) room = put_refusal number (refusal_of r.id r.bytes site.store)
asking_refusal site number (saves r) room = saving_refusal site.slow r.id site.store
asking_refusal site number (polls seconds) room = if is_busy_for_reads site.slow site.store then Some ErstBusy else room
asking_refusal site number asks room = room

abbrev pub deed_refusal : Site → ℕ → Deed → Option Exit
deed_refusal site number deed = asking_refusal site number deed.asks (room_refusal site (deed_counts site deed))

-- Why an event is rejected at a site: its request is invalid, or needs the record store without an admitted table; or
-- its deed is rejected.
abbrev pub site_refusal : Site → ℕ → Result Event LineRefusal → Option Exit
site_refusal site number (Err why) = Some (refused_exit number why)
site_refusal site number (Ok event) = deed_refusal site number (deed_of (Ok event))

-- why a line is rejected at its place
abbrev pub refusal_at : Place → Option Exit
refusal_at place = site_refusal place.0 place.1.0 (event_at place)

-- the places before the first rejected line
abbrev pub places_before_refusal : List Place → List Place
places_before_refusal [] = []
places_before_refusal (place ∷ places) = if is_some (refusal_at place) then [] else place ∷ places_before_refusal places
