-- A run seen from outside, whatever its script says: events that report, change the record store, and print.
use Rattle.std.specs.Prelude.{ℕ, nat_eq, List, ◌++◌, map, take, get_or, Option, Some, if◌then◌else◌}
use Rattle.std.specs.List.{flat_map, fold}
use Rattle.erst_store.specs.Store.{Stored, bytes_under}
use Rattle.ras_account.specs.Account.{State}
use Rattle.ras_account.specs.Continued.{account_after_all}
use Rattle.ras_facts.specs.declared.entry.Entry.{Entry}
use Rattle.ras_events.specs.Stores.{store_with, unreadable}

-- What an event does to the record store: it leaves the store as it is, puts a record into it, or clears all
-- readable records.
pub data StoreChange : Type 0 where
  keeps : StoreChange
  puts : Stored → StoreChange
  clears : StoreChange

-- an event: the entries that it reports, what it does to the store, and what it prints
pub record RunEvent : Type 0 where
  pub reports : List Entry
  pub change : StoreChange
  pub prints : List ℕ

-- A run: the account and the record store at its start, the text before its events, the events that it does,
-- the events that it begins, and its last line. It begins the events that it does, and then at most one more,
-- with which it ends.
pub record Run : Type 0 where
  pub account : State
  pub store : List Stored
  pub opening : List ℕ
  pub does : List RunEvent
  pub begins : List RunEvent
  pub closing : List ℕ

-- all that a run prints
abbrev pub text_of : Run → List ℕ
text_of run = run.opening ++ (flat_map (λ (event : RunEvent). event.prints) run.does ++ run.closing)

-- ---- after the first n events of a run

-- what the run has printed
abbrev pub text_upto : Run → ℕ → List ℕ
text_upto run n = run.opening ++ flat_map (λ (event : RunEvent). event.prints) (take n run.does)

-- the account at the start with what these events report
abbrev pub account_upto : Run → ℕ → State
account_upto run n = account_after_all run.account (flat_map (λ (event : RunEvent). event.reports) (take n run.does))

-- what these events do to the store, in order
abbrev pub changes_upto : Run → ℕ → List StoreChange
changes_upto run n = map (λ (event : RunEvent). event.change) (take n run.does)

-- a store after a change, and the store that these events leave
abbrev pub store_changed : List Stored → StoreChange → List Stored
store_changed store keeps = store
store_changed store (puts r) = store_with r.id r.bytes store
store_changed store clears = unreadable store

abbrev pub store_upto : Run → ℕ → List Stored
store_upto run n = fold store_changed run.store (changes_upto run n)

-- The bytes that were last put under an identifier, or else the bytes under it at the start. They stay even if their
-- record was cleared.
abbrev pub last_changed : ℕ → Option (List ℕ) → StoreChange → Option (List ℕ)
last_changed id last (puts r) = if nat_eq r.id id then Some r.bytes else last
last_changed id last change = last

abbrev pub last_upto : Run → ℕ → ℕ → Option (List ℕ)
last_upto run n id = fold (last_changed id) (bytes_under id run.store) (changes_upto run n)

-- what the next event does to the store, if another event is begun
abbrev pub change_next : Run → ℕ → StoreChange
change_next run n = get_or (map (λ (event : RunEvent). event.change) run.begins) n keeps
