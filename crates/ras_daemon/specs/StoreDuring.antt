-- What a run leaves of the record store, while an event is processed and when the run ends.
use Rattle.std.specs.Prelude.{◌≡◌, ℕ, ◌⊎◌, List, Option, Some, Ok, IsTrue}
use Rattle.board_core.specs.Stop.{Becomes}
use Rattle.cper_records.specs.Readable.{filled, read_under}
use Rattle.erst_store.specs.Store.{Stored, bytes_under}
use Rattle.ras_account.specs.Account.{State}
use Rattle.ras_account.specs.Continued.{knows}
use Rattle.ras_events.specs.Stores.{without_first}
use Rattle.ras_facts.specs.declared.name.Name.{Name}
use Rattle.ras_exit.specs.declared.exit.Exit.{Exit}
use Rattle.ras_exit.specs.declared.exit.Exit.TheVariants.{ErstBusy}
use Rattle.ras_panic.specs.Reading.{stored_name}
use Rattle.ras_daemon.specs.Machine.{StoreChange, clears, puts, store_changed}

-- a store without its first readable records, as many as were cleared
pub record ClearsFirst (store left : List Stored) : Type 0 where
  pub count : ℕ
  pub is : left ≡ without_first count store

-- The store during a change: if the change clears the store, without the first of its readable records;
-- otherwise as before, or with the change.
abbrev pub StoreDuring : StoreChange → List Stored → List Stored → Type 0
StoreDuring clears store left = ClearsFirst store left
StoreDuring change store left = Becomes (store_changed store change) store left

-- a change puts a record under this identifier, and the store has that record
abbrev pub HasPut : StoreChange → ℕ → List Stored → Type 0
HasPut (puts r) id store = (r.id ≡ id) × (bytes_under id store ≡ Some r.bytes)
HasPut change id store = ⊥

-- an account knows a name
abbrev pub KnownBy : State → Name → Type 0
KnownBy account name = IsTrue (knows account name)

-- the name of each readable record of a store is known
abbrev pub KnowsReadable : List Stored → (Name → Type 0) → Type 0
KnowsReadable store Known =
    (id : ℕ) (bytes own : List ℕ) → bytes_under id store ≡ Some bytes → read_under id (filled bytes) ≡ Ok own
    → Known (stored_name own)

-- For each identifier, if the bytes that were last stored under it are a readable record, they are in the store, or
-- the record's name is known.
abbrev pub KeepsRecords : (ℕ → Option (List ℕ)) → (Name → Type 0) → List Stored → Type 0
KeepsRecords last Known store =
    (id : ℕ) (bytes own : List ℕ) → last id ≡ Some bytes → read_under id (filled bytes) ≡ Ok own
    → (bytes_under id store ≡ Some bytes) ⊎ Known (stored_name own)

-- The store when a run ends. If its device was busy for too long, the store has the record anyway that the next event
-- was to save.
abbrev pub store_at_end : Exit → StoreChange → List Stored → List Stored
store_at_end ErstBusy (puts r) store = store_changed store (puts r)
store_at_end exit next store = store
