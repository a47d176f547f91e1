-- What a line does to the board, as a list of acts.
use Rattle.std.specs.Prelude.{◌≡◌, ◌⊎◌, ℕ, List, [], ◌∷◌, ◌++◌, Option, None, Some, Result, Ok, Err, map}
use Rattle.board_core.specs.declared.board.DiskCall.{DiskCall}
use Rattle.board_core.specs.Cause.{device_call}
use Rattle.board_core.specs.Doing.{Act, Breaks, DeviceCall, GoesWell, Seen, after_acts, calls, put}
use Rattle.board_core.specs.Stop.{Left}
use Rattle.board_core.specs.Told.{Told, device_of}
use Rattle.erst_store.specs.DeviceLaws.{IsDevice}
use Rattle.erst_store.specs.Store.{Stored}
use Rattle.erst_interp.specs.Run.{acts_of}
use Rattle.erst_driver.specs.Operations.{clear_calls, write_calls}
use Rattle.journal_format.specs.Links.{link_bytes}
use Rattle.ras_account.specs.Account.{State}
use Rattle.ras_account.specs.Accounts.{IsAccount}
use Rattle.ras_account.specs.Numbers.{fresh_entries_in}
use Rattle.ras_facts.specs.declared.entry.Entry.{Entry}
use Rattle.ras_journal.specs.declared.standing.Standing.{Standing}
use Rattle.ras_journal.specs.Recovered.{IsAt}
use Rattle.ras_recover.specs.OpeningCalls.{IsRecoveryOf}
use Rattle.ras_run.specs.declared.ledger.Ledger.{Ledger}
use Rattle.ras_run.specs.Keeping.{keeping_acts}
use Rattle.ras_events.specs.declared.event.Event.{Event}
use Rattle.ras_events.specs.declared.event.LineRefusal.{LineRefusal}
use Rattle.ras_events.specs.declared.made.Piece.{Piece}
use Rattle.ras_events.specs.Events.{Lists}
use Rattle.ras_events.specs.Making.{entries_in}
use Rattle.ras_events.specs.Preparing.{event_text_in}
use Rattle.ras_events.specs.Described.{settings_read}
use Rattle.ras_events.specs.Sizes.{CanBeSaved, IsFit}
use Rattle.ras_records.specs.Each.{each_calls}
use Rattle.ras_records.specs.Polls.{look_calls, readable_ids}
use Rattle.ras_exit.specs.Acts.{DoesBy, DoesSome, ended_with, print_acts}
use Rattle.ras_exit.specs.Endings.{CallEnding, answered, ending_of, faulted}
use Rattle.ras_exit.specs.declared.exit.Exit.{Exit}
use Rattle.ras_texts.specs.Orders.{standing_lines}
use Rattle.ras_texts.specs.Text.{done_line}
use Rattle.ras_events.specs.declared.settings.Settings.{Settings}
use Rattle.ras_run.specs.declared.run.Run.{Run}
use Rattle.ras_events.specs.Deeds.{Asking, Deed, deed_of, polls, puts, reopens, saves}
use Rattle.ras_run.specs.Deeds.{deed_done, deed_pieces, deed_text}
use Rattle.ras_run.specs.Places.{Place, deed_at, event_at}
use Rattle.ras_run.specs.Sites.{IsBoardAt, IsDrivable, Site, driving_lists}
use Rattle.ras_run.specs.Status.{polling_refusal, site_refusal}
use Rattle.ras_run.specs.Taking.{CountsPolled, IsAccepted, IsAcceptedIn, TakesIn}

-- The acts for new entries: they are appended as one link; without new entries nothing is done.
abbrev pub news_acts : Standing → State → List Entry → List Act
news_acts standing account [] = []
news_acts standing account (entry ∷ entries) = keeping_acts standing account (link_bytes (entry ∷ entries))

-- An event's text is printed, and then its done line.
abbrev pub event_prints : List ℕ → ℕ → List Act
event_prints text number = print_acts text ++ print_acts (done_line number)

-- The new entries among an account's further pieces are appended, and a text is printed.
abbrev pub telling_acts : State → Standing → List Piece → List ℕ → List Act
telling_acts account standing made text =
    news_acts standing account (fresh_entries_in account (entries_in made)) ++ print_acts text

-- The acts for the pieces of a line or of a poll: the new entries among them are appended, and their text is printed.
abbrev pub told_acts : State → Standing → List Piece → List Act
told_acts account standing made = telling_acts account standing made (event_text_in account made)

-- The acts for the pieces of a line: the acts for its pieces, and then its done line.
abbrev pub made_acts : State → ℕ → Standing → List Piece → List Act
made_acts account number standing made = told_acts account standing made ++ print_acts (done_line number)

-- The acts for the pieces of a poll: the acts for its pieces, then the records under these identifiers are cleared,
-- and then its done line is printed.
abbrev pub polled_acts : Lists → State → ℕ → Standing → List Piece → List ℕ → Told → List Act
polled_acts lists account number standing made ids t =
    told_acts account standing made
    ++ (acts_of (each_calls (clear_calls lists) ids (after_acts (told_acts account standing made) t)) ++ print_acts (done_line number))

-- The acts that open the journal again: it is recovered from these files, by reading all that decides the result, and
-- then the outstanding orders and the done line are printed.
abbrev pub AreReopening : State → ℕ → Left → List Act → Type 0
AreReopening account number here acts =
    (reading : List DiskCall) × IsRecoveryOf here reading
    × (acts ≡ map calls reading ++ event_prints (standing_lines account) number)

-- The device calls that a deed makes first, by the lists that drive the record store: a put puts its record, a save
-- writes its record, and a poll lists the store's records and reads each.
abbrev pub asking_calls : Lists → Asking → Told → List DeviceCall
asking_calls lists (puts r) t = put r.id r.bytes ∷ []
asking_calls lists (saves r) t = write_calls lists r.bytes (device_of t)
asking_calls lists (polls seconds) t = look_calls lists t
asking_calls lists asks t = []

-- The device calls by which a poll clears the readable records of a store; other deeds make none.
abbrev pub clearing_calls : Lists → Asking → List Stored → Told → List DeviceCall
clearing_calls lists (polls seconds) store t = each_calls (clear_calls lists) (readable_ids store) t
clearing_calls lists asks store t = []

-- The acts of an accepted deed after its first device calls: its new entries are appended, its text is printed,
-- records are cleared, and its done line is printed.
abbrev pub deed_acts : Site → ℕ → Deed → Told → List Act
deed_acts site number deed t =
    let telling = telling_acts site.account site.standing (deed_pieces site deed) (deed_text site deed) in
    let clearing = clearing_calls (driving_lists site) deed.asks site.store (after_acts telling t) in
    telling ++ (acts_of clearing ++ print_acts (deed_done number deed))

-- The disk calls before these acts: a deed that opens the journal again reads all that decides the result.
abbrev pub IsReadAgain : Asking → Left → List DiskCall → Type 0
IsReadAgain reopens here reading = IsRecoveryOf here reading
IsReadAgain asks here reading = reading ≡ []

-- The acts of an accepted deed after its first device calls, with the disk calls of a reading.
abbrev pub AreFollowingIn : Site → ℕ → Deed → Told → List Act → Type 0
AreFollowingIn site number deed t acts =
    (reading : List DiskCall) × IsReadAgain deed.asks t.here reading
    × (acts ≡ map calls reading ++ deed_acts site number deed (after_acts (map calls reading) t))

-- The first acts of an event: its device calls.
abbrev pub asking_by : Lists → Result Event LineRefusal → Told → List Act
asking_by lists event t = acts_of (asking_calls lists (deed_of event).asks t)

-- A rejected line does only its first device calls.
abbrev pub AreUnlessRefused : Option Exit → (List Act → Type 0) → List Act → Type 0
AreUnlessRefused (Some why) Are acts = acts ≡ []
AreUnlessRefused None Are acts = Are acts

-- The acts of an event at a site, over a board with this model.
pub record AreActsIn (site : Site) (number : ℕ) (event : Result Event LineRefusal) (t : Told) (acts : List Act) : Type 0 where
  pub rest : List Act
  pub is : acts ≡ asking_by (driving_lists site) event t ++ rest
  pub follow :
      AreUnlessRefused (site_refusal site number event)
      (AreFollowingIn site number (deed_of event) (after_acts (asking_by (driving_lists site) event t) t)) rest

-- What the device calls of a deed require: the model's device is a device, and a record to save is valid.
abbrev pub CanAskFor : Asking → Told → Type 0
CanAskFor (saves r) t = CanBeSaved r.id r.bytes × IsDevice (device_of t)
CanAskFor (polls seconds) t = IsDevice (device_of t)
CanAskFor asks t = Unit {0}

abbrev pub CanAsk : Result Event LineRefusal → Told → Type 0
CanAsk event t = CanAskFor (deed_of event).asks t

-- The acts that an event has begun, by how it ended: all its acts; but if the device failed before it was known
-- whether the event is rejected, only its device calls.
abbrev pub AreBegunIn : Site → ℕ → Result Event LineRefusal → Told → CallEnding → List Act → Type 0
AreBegunIn site number event t answered acts = CanAsk event t × AreActsIn site number event t acts
AreBegunIn site number event t (faulted kind) acts =
    CanAsk event t
    × ((IsAcceptedIn site number event × AreActsIn site number event t acts)
    ⊎ ((kind ≡ device_call) × (acts ≡ asking_by (driving_lists site) event t)))
AreBegunIn site number event t ending acts = AreActsIn site number event t acts

abbrev pub DoesIn : {X : Type 0} → (X → Seen) → Site → ℕ → Result Event LineRefusal → Told → Result (Unit {0}) Exit → X → X → Type 0
DoesIn see site number event t result old new =
    (acts : List Act) × AreBegunIn site number event t (ended_with result) acts × DoesBy see acts (ended_with result) old new

-- An event was processed at a site, and did its acts. Afterwards the machine is described by these settings.
pub record TakesEvent {X : Type 0} (see : X → Seen) (site : Site) (number : ℕ) (told : Settings) (event : Result Event LineRefusal) (t : Told) (result : Result (Unit {0}) Exit) (run : Run) (old new : X) : Type 0 where
  pub takes : TakesIn site number told event result run
  pub does : DoesIn see site number event t result old new

-- The first acts of a line at its place, the acts that follow, and all its acts.
abbrev pub asking_acts : Place → Told → List Act
asking_acts place t = asking_by (driving_lists place.0) (event_at place) t

abbrev pub AreFollowing : Place → Told → List Act → Type 0
AreFollowing place t acts = AreFollowingIn place.0 place.1.0 (deed_at place) t acts

abbrev pub AreLineActs : Place → Told → List Act → Type 0
AreLineActs place t acts = AreActsIn place.0 place.1.0 (event_at place) t acts

abbrev pub AreBegun : Place → Told → CallEnding → List Act → Type 0
AreBegun place t ending acts = AreBegunIn place.0 place.1.0 (event_at place) t ending acts

-- A line is processed at its place, and does its acts.
abbrev pub TakesLine : {X : Type 0} → (X → Seen) → Place → Told → Result (Unit {0}) Exit → Run → X → X → Type 0
TakesLine see place t result run old new =
    TakesEvent see place.0 place.1.0 (settings_read place.0.settings place.1) (event_at place) t result run old new

-- Opening the journal again during a run does these acts.
abbrev pub DoesReopening : {X : Type 0} → (X → Seen) → State → ℕ → Left → Result (Unit {0}) Exit → X → X → Type 0
DoesReopening see account number here result old new =
    (acts : List Act) × AreReopening account number here acts × DoesBy see acts (ended_with result) old new

-- A part of a run begins with some acts, and others follow if it is accepted. If it is rejected it did only the first
-- acts, and if memory ran out only a beginning of them. The device can fail before it is known whether the part is
-- accepted.
abbrev pub AskingEnds : {X : Type 0} → (X → Seen) → Type 0 → Type 0 → List Act → List Act → CallEnding → X → X → Type 0
AskingEnds see Can Accepted asked rest answered old new = Can × GoesWell asked (see old) (see new)
AskingEnds see Can Accepted asked rest (faulted kind) old new =
    Can
    × ((Accepted × Breaks kind (asked ++ rest) (see old) (see new))
    ⊎ ((kind ≡ device_call) × Breaks device_call asked (see old) (see new)))
AskingEnds see Can Accepted asked rest ending old new = DoesSome see asked old new

abbrev pub DoesAsking : {X : Type 0} → (X → Seen) → Type 0 → Type 0 → List Act → List Act → Result (Unit {0}) Exit → X → X → Type 0
DoesAsking see Can Accepted asked rest (Ok done) old new = Can × GoesWell (asked ++ rest) (see old) (see new)
DoesAsking see Can Accepted asked rest (Err exit) old new = AskingEnds see Can Accepted asked rest (ending_of exit) old new

-- A poll that finds these pieces and these identifiers of readable records counts the pieces unless it is rejected,
-- and does its acts.
abbrev pub DoesPoll : {X : Type 0} → (X → Seen) → Lists → Told → ℕ → List Piece → List ℕ → Result (Unit {0}) Exit → Ledger → Ledger → X → X → Type 0
DoesPoll see lists t number made ids result ledger ledger' old new =
    let account = ledger.account.state in
    let standing = ledger.journal.standing in
    let refusal = polling_refusal t.volatile.slow t.here.store account standing (entries_in made) in
    let asked = acts_of (look_calls lists t) in
    CountsPolled refusal made result ledger ledger'
    × DoesAsking see (IsDevice (device_of t)) ((refusal ≡ None) × IsFit made) asked
    (polled_acts lists account number standing made ids (after_acts asked t)) result old new

-- The files contain the site's account, and the board has the site's record store; lists that drive the store are
-- admitted.
pub record HoldsAt (site : Site) (t : Told) : Type 0 where
  pub account : IsAccount site.account
  pub at : IsAt site.standing site.account t.here
  pub board : IsBoardAt site t
  pub drivable : IsDrivable site.settings.driver

-- An accepted line does these acts at its place, over the files and the record store of its site.
pub record AreAcceptedActs (place : Place) (t : Told) (acts : List Act) : Type 0 where
  pub accepted : IsAccepted place
  pub can : CanAsk (event_at place) t
  pub holds : HoldsAt place.0 t
  pub are : AreLineActs place t acts
