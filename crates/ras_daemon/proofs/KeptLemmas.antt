-- The record store while a line's event is processed, and which of its records are stored.
use Rattle.std.proofs.Common.{◌≡◌, ℕ, Bool, true, false, nat_eq, nat_lt, if◌then◌else◌, List, [], ◌∷◌, length, map, Option, None, Some, Result, Ok, Err, refl, sym, ap, subst, ◌∙◌, inl, inr}
use Rattle.std.specs.Prelude.{◌⊎◌, unwrap_or}
use Rattle.std.specs.List.{AllByRecursion, cons_option, fold}
use Rattle.std.specs.Option.{option_and_then, option_map, option_map_or}
use Rattle.cper_records.specs.Readable.{filled, read_under}
use Rattle.cper_records.specs.declared.refusals.Unreadable.{Unreadable as Why}
use Rattle.dimm_topology.specs.declared.row.Row.{Row}
use Rattle.erst_driver.specs.Operations.{is_free_in_time}
use Rattle.erst_store.specs.Store.{Stored, bytes_under, is_full_for, is_reserved, most_bytes, refusal_of, with_record}
use Rattle.erst_store.specs.Steps.StoreLemmas.{found-with_record, under-with_record}
use Rattle.erst_store.specs.declared.store.PutRefused.{PutRefused}
use Rattle.erst_store.specs.declared.store.PutRefused.TheVariants.{ReservedId, StoreFull, TooLong}
use Rattle.ras_account.specs.Account.{State}
use Rattle.ras_account.specs.Continued.{account_after, account_after_all, knows}
use Rattle.ras_account.proofs.KnownLemmas.{knows-after_all, knows-own}
use Rattle.ras_facts.specs.declared.bank.BankReport.{BankReport}
use Rattle.ras_facts.specs.declared.entry.Entry.{Entry}
use Rattle.ras_facts.specs.declared.entry.Entry.TheVariants.{Fact}
use Rattle.ras_facts.specs.declared.fact.Fact.{Fact as FactOf}
use Rattle.ras_facts.specs.declared.name.Name.{Name}
use Rattle.ras_facts.specs.Facts.{bank_fact, status_in}
use Rattle.ras_facts.specs.Reported.{record_fact}
use Rattle.mca_status.specs.Registers.{valid}
use Rattle.ras_panic.specs.Panics.{is_reserved_identifier, panic_bytes}
use Rattle.ras_panic.specs.declared.making.PanicRefused.TheVariants.{NotValid, ReservedId as ReservedBy}
use Rattle.ras_panic.specs.Reading.{panic_report, stored_fact, stored_name, stored_report}
use Rattle.ras_panic.proofs.HeldLemmas.{fact_is_named}
use Rattle.ras_panic.proofs.RecordLemmas.{has_length}
use Rattle.ras_facts.specs.declared.details.Detail.TheVariants.{Bank}
use Rattle.ras_facts.specs.Reports.{bank_report, record_report}
use Rattle.ras_script.specs.declared.line.Line.{Line}
use Rattle.ras_script.specs.declared.line.Line.TheVariants as asks
use Rattle.ras_events.specs.declared.made.Piece.{Piece}
use Rattle.ras_exit.specs.declared.exit.Exit.TheVariants.{ErstBusy, ErstStatus}
use Rattle.ras_events.specs.Events.{panic_refusal}
use Rattle.ras_events.specs.Making.{entries_in, entry_in, piece_of, polled}
use Rattle.ras_events.specs.Described.{NumberedLine}
use Rattle.ras_run.specs.Sites.{Site, Start, first_site}
use Rattle.ras_run.specs.Places.{Place, deed_at, entries_at, event_at, places_from, site_after, site_along, site_at}
use Rattle.ras_events.specs.Stores.{read_stored, store_with, unreadable}
use Rattle.ras_events.proofs.AskedLemmas.{Asks, of-line}
use Rattle.ras_events.specs.Deeds.{Asking, deed_of, polls, saves}
use Rattle.ras_events.specs.Deeds as asking
use Rattle.ras_run.specs.Deeds.{counted_by, store_done}
use Rattle.ras_exit.specs.declared.exit.Exit.{Exit}
use Rattle.ras_run.proofs.LineLawLemmas.{deed_taken}
use Rattle.ras_run.specs.Status.{asking_refusal, put_refusal, refusal_at}
use Rattle.ras_run.specs.Taking.{IsAccepted}
use Rattle.ras_daemon.specs.Machine.{StoreChange, clears, keeps, last_changed, last_upto, puts, store_upto}
use Rattle.ras_daemon.specs.RunOf.{change_at, change_by, run_of}
use Rattle.ras_daemon.specs.Steps.Running.{AreFirst}
use Rattle.ras_daemon.specs.StoreDuring.{ClearsFirst, HasPut, KeepsRecords, KnownBy, KnowsReadable, StoreDuring}
use Rattle.ras_daemon.proofs.CountLemmas.{events_before, placed}
use Rattle.ras_daemon.proofs.ListLemmas.{all-weaker}
use Rattle.ras_daemon.proofs.StoreLemmas.{last-first, store-first}
use Rattle.ras_events.proofs.StoreLemmas.{same_bytes, same_id}

-- ---- a line that isn't refused

abbrev pub IsTaken : Place → Type 0
IsTaken place = refusal_at place ≡ None

-- ---- while an event changes the store

-- The change is under way: its record was put; or the first readable records are cleared, and the names of all
-- readable records are known.
abbrev pub Passes : StoreChange → (Name → Type 0) → List Stored → List Stored → Type 0
Passes keeps Known laid store = ⊥
Passes (puts r) Known laid store = store ≡ store_with r.id r.bytes laid
Passes clears Known laid store = ClearsFirst laid store × KnowsReadable laid Known

-- The store is the store before the change, or the change is under way.
abbrev pub StoreNow : StoreChange → (Name → Type 0) → List Stored → List Stored → Type 0
StoreNow change Known laid store = (store ≡ laid) ⊎ Passes change Known laid store

module _ (Known : Name → Type 0) (laid store : List Stored) where
  pub store-during : (change : StoreChange) → StoreNow change Known laid store → StoreDuring change laid store
  store-during clears (inl same) = record { count = 0; is = same }
  store-during keeps (inl same) = inl same
  store-during (puts r) (inl same) = inl same
  store-during clears (inr (first, knows)) = first
  store-during keeps (inr never) = absurd never
  store-during (puts r) (inr put) = inr put

  -- no record is cleared before all names are known
  pub cleared-during : (change : StoreChange) → StoreNow change Known laid store → change ≡ clears → (store ≡ laid → ⊥) → KnowsReadable laid Known
  cleared-during change (inl same) is other = absurd (other same)
  cleared-during clears (inr (first, knows)) is other = knows
  cleared-during keeps (inr never) is other = absurd never
  cleared-during (puts r) (inr put) is other = absurd cc

-- ---- the bytes under an identifier

-- the store has the bytes that it had there, or the record that was put has replaced them
put-during : (r : Stored) (id : ℕ) (bytes : List ℕ) (laid : List Stored) → bytes_under id laid ≡ Some bytes
    → HasPut (puts r) id (store_with r.id r.bytes laid) ⊎ (bytes_under id (store_with r.id r.bytes laid) ≡ Some bytes)
put-during r id bytes laid stands = by (refusal_of r.id r.bytes laid) (nat_eq r.id id) refl
  where
    by : (o : Option PutRefused) (b : Bool) → nat_eq r.id id ≡ b → let store : List Stored = option_map_or (λ why. laid) o (with_record r.id r.bytes laid) in HasPut (puts r) id store ⊎ (bytes_under id store ≡ Some bytes)
    by (Some why) b is = inr stands
    by None true is = inl (same_id r.id id is, subst (λ i. bytes_under i (with_record r.id r.bytes laid) ≡ Some r.bytes) (same_id r.id id is) (found-with_record r.id r.bytes laid))
    by None false is = inr (under-with_record r.id id r.bytes is laid ∙ stands)

-- a record that was last stored is in the store or known, unless the record that a change puts is there
pub kept-during : (change : StoreChange) (last : ℕ → Option (List ℕ)) (Known : Name → Type 0) (laid store : List Stored) → StoreNow change Known laid store → KeepsRecords last Known laid
    → (id : ℕ) (bytes own : List ℕ) → last id ≡ Some bytes → read_under id (filled bytes) ≡ Ok own → HasPut change id store ⊎ ((bytes_under id store ≡ Some bytes) ⊎ Known (stored_name own))
kept-during change last Known laid store now held id bytes own there reads = elim (held id bytes own there reads) [ inl stands ↦ by change now stands | inr known ↦ inr (inr known) ]
  where
    by : (change : StoreChange) → StoreNow change Known laid store → bytes_under id laid ≡ Some bytes → HasPut change id store ⊎ ((bytes_under id store ≡ Some bytes) ⊎ Known (stored_name own))
    by change (inl same) stands = inr (inl (ap (bytes_under id) same ∙ stands))
    by keeps (inr never) stands = absurd never
    by (puts r) (inr put) stands = rw put (elim (put-during r id bytes laid stands) [ inl done ↦ inl done | inr still ↦ inr (inl still) ])
    by clears (inr (first, known)) stands = inr (inr (known id bytes own stands reads))

-- ---- a poll's account knows the name of each record that can be read

module _ (rows : List Row) (seconds : ℕ) (own : List ℕ) where
  abbrev pub told : FactOf
  told = (stored_report rows seconds own).fact

  -- the report of a record is of the record's own fact
  told-stored : told ≡ stored_fact rows seconds own
  told-stored = by (panic_report own)
    where
      of-bank : (bank : BankReport) (o : Option FactOf)
          → (unwrap_or (option_map (λ fact. record { fact = fact; details = Bank bank ∷ [] }) o) (record_report rows seconds own)).fact ≡ unwrap_or o (record_fact rows seconds own)
      of-bank bank None = refl
      of-bank bank (Some fact) = refl

      by : (o : Option BankReport) → (unwrap_or (option_and_then (λ bank. bank_report bank rows) o) (record_report rows seconds own)).fact
          ≡ unwrap_or (option_and_then (λ bank. bank_fact bank rows) o) (record_fact rows seconds own)
      by None = refl
      by (Some bank) = of-bank bank (bank_fact bank rows)

  pub told-name : told.name ≡ stored_name own
  told-name = ap (λ (fact : FactOf). fact.name) told-stored ∙ fact_is_named rows seconds own

  abbrev Knows : State → Type 0
  Knows a = knows a (stored_name own) ≡ true

  -- the name is known once the record's piece is counted
  own-known : (a : State) (read : Result (List ℕ) Why) (k : ℕ) (pieces : List Piece) → read ≡ Ok own → Knows (account_after_all a (entries_in (piece_of rows seconds k read ∷ pieces)))
  own-known a read k pieces is =
      ap (λ (r : Result (List ℕ) Why). knows (account_after_all a (entries_in (piece_of rows seconds k r ∷ pieces))) (stored_name own)) is
      ∙ knows-after_all (account_after a (Fact told)) (entries_in pieces) (stored_name own) (subst (λ (name : Name). knows (account_after a (Fact told)) name ≡ true) told-name (knows-own a told))

  -- the name stays known after other pieces
  later-known : (a : State) (piece : Piece) (pieces : List Piece) → ((b : State) → Knows (account_after_all b (entries_in pieces))) → Knows (account_after_all a (entries_in (piece ∷ pieces)))
  later-known a piece pieces known = by (entry_in piece)
    where
      by : (o : Option Entry) → Knows (account_after_all a (cons_option o (entries_in pieces)))
      by None = known a
      by (Some entry) = known (account_after a entry)

  module _ (id : ℕ) (bytes : List ℕ) (reads : read_under id (filled bytes) ≡ Ok own) where
    polled-knows : (store : List Stored) → bytes_under id store ≡ Some bytes → (a : State) → Knows (account_after_all a (entries_in (polled rows seconds store)))
    polled-knows [] found a = absurd cc
    polled-knows (r ∷ rs) found a = by (nat_eq r.id id) refl found (polled-knows rs)
      where
        by : (b : Bool) → nat_eq r.id id ≡ b → (if b then Some r.bytes else bytes_under id rs) ≡ Some bytes
            → (bytes_under id rs ≡ Some bytes → (b : State) → Knows (account_after_all b (entries_in (polled rows seconds rs))))
            → Knows (account_after_all a (entries_in (polled rows seconds (r ∷ rs))))
        by true is here later =
            own-known a (read_stored r) r.id (polled rows seconds rs) ((λ i. read_under (same_id r.id id is i) (filled (same_bytes r.bytes bytes here i))) ∙ reads)
        by false is there later = later-known a (piece_of rows seconds r.id (read_stored r)) (polled rows seconds rs) (later there)

pub poll-knows : (a : State) (rows : List Row) (seconds : ℕ) (store : List Stored) → KnowsReadable store (KnownBy (account_after_all a (entries_in (polled rows seconds store))))
poll-knows a rows seconds store id bytes own found reads = polled-knows rows seconds own id bytes reads store found a

-- ---- a record that is saved, and isn't refused

-- the store rejects the record only if the store is full
abbrev Fits : Asking → Type 0
Fits (saves r) = (store : List Stored) → is_full_for r.id store ≡ false → refusal_of r.id r.bytes store ≡ None
Fits asks = Unit {0}

panic-fits : (id : ℕ) (bank : BankReport) (store : List Stored) → is_reserved id ≡ false → is_full_for id store ≡ false → refusal_of id (panic_bytes id bank) store ≡ None
panic-fits id bank store free room =
    ap (λ (b : Bool). if b then Some ReservedId else (if nat_lt most_bytes (length (panic_bytes id bank)) then Some TooLong else (if is_full_for id store then Some StoreFull else None))) free
    ∙ ap (λ (n : ℕ). if nat_lt most_bytes n then Some TooLong else (if is_full_for id store then Some StoreFull else None)) (has_length id bank)
    ∙ ap (λ (b : Bool). if b then Some StoreFull else None) room

panic-free : (id : ℕ) (bank : BankReport) → panic_refusal id bank ≡ None → is_reserved id ≡ false
panic-free id bank = by (is_reserved_identifier id) refl
  where
    by : (b : Bool) → is_reserved_identifier id ≡ b → (if b then Some ReservedBy else (if valid (status_in bank) then None else Some NotValid)) ≡ None → is_reserved id ≡ false
    by false is none = is
    by true is none = absurd cc

place-fits : (place : Place) → Fits (deed_at place).asks
place-fits (site, (number, Err why)) = tt
place-fits (site, (number, Ok line)) = of-line (λ event. Fits (deed_of event).asks) (λ why. tt) site.settings line (by line)
  where
    by : (line : Line) → Asks (λ event. Fits (deed_of event).asks) site.settings line
    by (asks.Report report) = λ made. tt
    by (asks.Panic id bank) = λ lists is none store room. panic-fits id bank store (panic-free id bank none) room
    by (asks.Poll seconds) = λ lists is. tt
    by line = tt

-- a record that is saved in time finds room, and so does a put that isn't rejected
saved-room : (full free : Bool) → (if free then (if full then Some (ErstStatus 1) else None) else Some ErstBusy) ≡ None → full ≡ false
saved-room full false is = absurd cc
saved-room true true is = absurd cc
saved-room false true is = refl

put-taken : (number : ℕ) (refusal : Option PutRefused) → put_refusal number refusal ≡ None → refusal ≡ None
put-taken number None is = refl
put-taken number (Some why) is = absurd cc

-- the store accepts the record that a change puts
abbrev pub HasRoom : StoreChange → List Stored → Type 0
HasRoom (puts r) store = refusal_of r.id r.bytes store ≡ None
HasRoom change store = Unit {0}

pub change-room : (place : Place) → IsTaken place → HasRoom (change_at place) place.0.store
change-room place taken = by _ (deed_at place).asks (place-fits place) (deed_taken place.0 place.1.0 (event_at place) taken)
  where
    by : (room : Option Exit) (asks : Asking) → Fits asks → asking_refusal place.0 place.1.0 asks room ≡ None → HasRoom (change_by asks) place.0.store
    by room (asking.puts r) fits taken = put-taken place.1.0 (refusal_of r.id r.bytes place.0.store) taken
    by room (saves r) fits taken = fits place.0.store (saved-room (is_full_for r.id place.0.store) (is_free_in_time place.0.slow) taken)
    by room asks fits taken = tt

-- ---- what is kept along lines

put-kept : (id : ℕ) (put : List ℕ) (last : ℕ → Option (List ℕ)) (Known : Name → Type 0) (store : List Stored) → refusal_of id put store ≡ None → KeepsRecords last Known store
    → KeepsRecords (λ k. if nat_eq id k then Some put else last k) Known (store_with id put store)
put-kept id put last Known store taken held k bytes own there reads =
    rw (ap (λ (o : Option PutRefused). option_map_or (λ why. store) o (with_record id put store)) taken) (by (nat_eq id k) refl there)
  where
    by : (b : Bool) → nat_eq id k ≡ b → (if b then Some put else last k) ≡ Some bytes → (bytes_under k (with_record id put store) ≡ Some bytes) ⊎ Known (stored_name own)
    by true is here = inl (subst (λ i. bytes_under i (with_record id put store) ≡ Some bytes) (same_id id k is) (found-with_record id put store ∙ here))
    by false is there =
        elim (held k bytes own there reads) [
          | inl stands ↦ inl (under-with_record id k put is store ∙ stands)
          | inr known ↦ inr known
        ]

-- more names are known
pub kept-weaker : (last : ℕ → Option (List ℕ)) (Known Now : Name → Type 0) (store : List Stored) → ((name : Name) → Known name → Now name) → KeepsRecords last Known store → KeepsRecords last Now store
kept-weaker last Known Now store grows held id bytes own there reads =
    elim (held id bytes own there reads) [ inl stands ↦ inl stands | inr known ↦ inr (grows (stored_name own) known) ]

poll-kept : (last : ℕ → Option (List ℕ)) (Known : Name → Type 0) (store : List Stored) → KnowsReadable store Known → KeepsRecords last Known store → KeepsRecords last Known (unreadable store)
poll-kept last Known store knows held id bytes own there reads =
    elim (held id bytes own there reads) [ inl stands ↦ inr (knows id bytes own stands reads) | inr known ↦ inr known ]

-- what was last stored is in the site's store or known
abbrev pub KeepsAt : (ℕ → Option (List ℕ)) → Site → Type 0
KeepsAt last site = KeepsRecords last (KnownBy site.account) site.store

module _ (place : Place) where
  abbrev next : Site
  next = site_after place.0 place.1

  -- a name that is known before a line is known after it
  pub known-next : (name : Name) → KnownBy place.0.account name → KnownBy next.account name
  known-next name known = knows-after_all place.0.account (entries_at place) name known

  -- the names of records that a poll reads are known after the poll
  pub known-polled : (seconds : ℕ) → (deed_at place).asks ≡ polls seconds → KnowsReadable place.0.store (KnownBy next.account)
  known-polled seconds is =
      subst (λ (a : State). KnowsReadable place.0.store (KnownBy a)) (sym (ap (λ asks. account_after_all place.0.account (entries_in (unwrap_or (counted_by place.0 asks (deed_at place).reported) []))) is))
      (poll-knows place.0.account place.0.settings.topology seconds place.0.store)

  line-kept : (last : ℕ → Option (List ℕ)) → IsTaken place → KeepsAt last place.0 → KeepsAt (λ id. last_changed id (last id) (change_at place)) next
  line-kept last taken held =
      by (deed_at place).asks refl (change-room place taken) (kept-weaker last (KnownBy place.0.account) (KnownBy next.account) place.0.store known-next held)
    where
      by : (asks : Asking) → (deed_at place).asks ≡ asks → HasRoom (change_by asks) place.0.store → KeepsRecords last (KnownBy next.account) place.0.store
          → KeepsRecords (λ id. last_changed id (last id) (change_by asks)) (KnownBy next.account) (store_done asks place.0.store)
      by (asking.puts r) is room held = put-kept r.id r.bytes last (KnownBy next.account) place.0.store room held
      by (saves r) is room held = put-kept r.id r.bytes last (KnownBy next.account) place.0.store room held
      by (polls seconds) is room held = poll-kept last (KnownBy next.account) place.0.store (known-polled seconds is) held
      by asks is room held = held

-- the site after accepted lines
pub lines-kept : (last : ℕ → Option (List ℕ)) (site : Site) (reads : List NumberedLine) → AllByRecursion IsTaken (places_from site reads) → KeepsAt last site
    → KeepsAt (λ id. fold (last_changed id) (last id) (map change_at (places_from site reads))) (site_along site reads)
lines-kept last site [] taken held = held
lines-kept last site (read ∷ reads) taken held =
    lines-kept (λ id. last_changed id (last id) (change_at (site, read))) (site_after site read) reads taken.1 (line-kept (site, read) last taken.0 held)

pub first-kept : (start : Start) (script : List ℕ) (before : List NumberedLine) (first : AreFirst start script before)
    → KeepsRecords (last_upto (run_of start script) (events_before start before)) (KnownBy (site_at start before).account) (store_upto (run_of start script) (events_before start before))
first-kept start script before first = λ id bytes own there reads.
    rw (store-first start script before first)
    (lines-kept (λ id. bytes_under id start.store) (first_site start) before (all-weaker IsAccepted IsTaken (λ place accepted. accepted.taken) (placed start before) first.accepted)
    (λ id bytes own there reads. inl there) id bytes own (sym (last-first start script before first id) ∙ there) reads)

-- the site at the start
pub none-kept : (start : Start) (script : List ℕ) (Known : Name → Type 0) → KeepsRecords (last_upto (run_of start script) 0) Known (store_upto (run_of start script) 0)
none-kept start script Known = λ id bytes own there reads. inl there
