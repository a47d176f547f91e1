-- Properties of every device, which actions change its store, and what a listing returns.
use Rattle.std.specs.Prelude.{◌≡◌, ℕ, zero, suc, ◌-◌, ◌^◌, ◌+◌, ◌<◌, ◌⊎◌, List, [], ◌∷◌, length, Option, Some}
use Rattle.ras_base.specs.LittleEndian.{AreBytes}
use Rattle.erst_store.specs.declared.device.Command.{Command}
use Rattle.erst_store.specs.declared.device.Command.TheVariants.{Write, Clear}
use Rattle.erst_store.specs.Store.{IsStore, all_ones}
use Rattle.erst_store.specs.Actions.{execute_operation, get_record_identifier, range_length}
use Rattle.erst_store.specs.Device.{Device, id_at, act}

-- A device as `Dev` has it: its store is a store, its range has its length and its bytes are below 256, and each of
-- its numbers has 64 bits.
pub record IsDevice (d : Device) : Type 0 where
  pub store : IsStore d.store
  pub length : length d.range ≡ range_length
  pub bytes : AreBytes d.range
  pub action : d.action < 2 ^ 64
  pub value : d.value < 2 ^ 64
  pub id : d.id < 2 ^ 64
  pub offset : d.offset < 2 ^ 64
  pub busy : d.busy < 2 ^ 64
  pub cursor : d.cursor < 2 ^ 64
  pub slow : d.slow < 2 ^ 64

-- An action may change the store: EXECUTE_OPERATION under a write or a clear.
abbrev pub MayChange : ℕ → Device → Type 0
MayChange action d = (action ≡ execute_operation) × ((d.command ≡ Some Write) ⊎ (d.command ≡ Some Clear))

-- the only identifier at which a command can change the store: for a write the identifier in the range, for a clear the
-- identifier that was set
abbrev pub id_changed : Option Command → Device → ℕ
id_changed (Some Write) d = id_at d.range d.offset
id_changed _ d = d.id

-- the values that n GET_RECORD_IDENTIFIER return, one after the other, and the device after them
abbrev pub listing : ℕ → Device → List ℕ
listing zero d = []
listing (suc count) d = (act get_record_identifier d).value ∷ listing count (act get_record_identifier d)

-- the device after n GET_RECORD_IDENTIFIER
abbrev pub after_listings : ℕ → Device → Device
after_listings zero d = d
after_listings (suc count) d = after_listings count (act get_record_identifier d)

-- how many GET_RECORD_IDENTIFIER it takes to reach the end of a listing, the all ones included
abbrev pub left_to_list : Device → ℕ
left_to_list d = length d.store - d.cursor + 1

-- A device whose listing has just ended. The next listing starts from the first record.
abbrev pub listed_to_end : Device → Device
listed_to_end d = record d { action = get_record_identifier; value = all_ones; cursor = 0 }
