-- The error record device: its state, and what each action does to it. The actions, the statuses
-- and the order of a read, a write and a clear are those of ACPI 6.5, section 18.5, "Error
-- Serialization". The places of a record's length and identifier are those of UEFI 2.10, appendix
-- N.2.1, "Record Header". The two registers, the cursor, the busy answers and the order of the
-- refusals are this project's own.
use Rattle.std.specs.Prelude.{ℕ, ◌+◌, ◌-◌, Bool, ◌||◌, nat_eq, nat_lt, List, [], ◌∷◌, ◌++◌, if◌then◌else◌, length, take, drop, replicate, slice_get, Option, None, Some}
use Rattle.ras_base.specs.LittleEndian.{number_at}
use Rattle.erst_store.specs.declared.device.Command.{Command}
use Rattle.erst_store.specs.declared.device.Command.TheVariants.{Write, Read, Clear, Dummy}
use Rattle.erst_store.specs.declared.device.CommandStatus.{CommandStatus}
use Rattle.erst_store.specs.declared.device.CommandStatus.TheVariants.{Success, NotEnoughSpace, StoreEmpty, NotFound}
use Rattle.erst_store.specs.Actions.{begin_write_operation, begin_read_operation, begin_clear_operation, end_operation, set_record_offset, execute_operation, check_busy_status, get_command_status, get_record_identifier, set_record_identifier, get_record_count, begin_dummy_write_operation, get_error_log_address_range, get_error_log_address_range_length, get_error_log_address_range_attributes, range_address, range_length, range_attributes}
use Rattle.erst_store.specs.Store.{Stored, all_ones, is_reserved, ids, holds, bytes_under, with_record, without, is_full_for}

-- the store; the action and the value last written; the command begun, if any; the identifier and the offset that were
-- set; the status of the last command; how many busy answers are left; the index from which identifiers are listed;
-- the bytes of the error log address range; and how many busy answers a command costs
pub record Device : Type 0 where
  pub store : List Stored
  pub action : ℕ
  pub value : ℕ
  pub command : Option Command
  pub id : ℕ
  pub offset : ℕ
  pub status : CommandStatus
  pub busy : ℕ
  pub cursor : ℕ
  pub range : List ℕ
  pub slow : ℕ

-- all of a device except its store: what a crash loses
pub record Volatile : Type 0 where
  pub action : ℕ
  pub value : ℕ
  pub command : Option Command
  pub id : ℕ
  pub offset : ℕ
  pub status : CommandStatus
  pub busy : ℕ
  pub cursor : ℕ
  pub range : List ℕ
  pub slow : ℕ

-- a device from its two parts, and the part without the store
abbrev pub device_with : List Stored → Volatile → Device
device_with store v = record {
  store = store;
  action = v.action;
  value = v.value;
  command = v.command;
  id = v.id;
  offset = v.offset;
  status = v.status;
  busy = v.busy;
  cursor = v.cursor;
  range = v.range;
  slow = v.slow;
}

abbrev pub volatile_of : Device → Volatile
volatile_of d = record {
  action = d.action;
  value = d.value;
  command = d.command;
  id = d.id;
  offset = d.offset;
  status = d.status;
  busy = d.busy;
  cursor = d.cursor;
  range = d.range;
  slow = d.slow;
}

-- the range of a new device
unfoldable pub zeros : List ℕ
zeros = replicate range_length 0

-- the device with no command, all numbers 0 and a range of zeros
abbrev pub new_device : List Stored → ℕ → Device
new_device store slow = record {
  store = store;
  action = 0;
  value = 0;
  command = None;
  id = 0;
  offset = 0;
  status = Success;
  busy = 0;
  cursor = 0;
  range = zeros;
  slow = slow;
}

-- the numbers of the statuses
abbrev pub status_number : CommandStatus → ℕ
status_number Success = 0
status_number NotEnoughSpace = 1
status_number StoreEmpty = 4
status_number NotFound = 5

-- ---- the commands

-- how long the header of a record is, and where a record's length and its identifier are in it
abbrev pub header_length : ℕ
header_length = 128

abbrev pub length_place : ℕ
length_place = 20

abbrev pub id_place : ℕ
id_place = 96

-- the length of the record in the range at the offset, and its identifier
abbrev pub length_at : List ℕ → ℕ → ℕ
length_at range offset = number_at (offset + length_place) 4 range

abbrev pub id_at : List ℕ → ℕ → ℕ
id_at range offset = number_at (offset + id_place) 8 range

-- the bytes of the record in the range at the offset
abbrev pub record_at : List ℕ → ℕ → List ℕ
record_at range offset = take (length_at range offset) (drop offset range)

-- Whether no whole record is in the range at the offset.
abbrev pub is_record_out : List ℕ → ℕ → Bool
is_record_out range offset =
    nat_lt range_length (offset + header_length)
    || (nat_lt (length_at range offset) header_length
    || nat_lt range_length (offset + length_at range offset))

-- Whether a record at the offset can't be written.
abbrev pub is_write_refused : Device → Bool
is_write_refused d =
    is_record_out d.range d.offset
    || (is_reserved (id_at d.range d.offset)
    || is_full_for (id_at d.range d.offset) d.store)

-- a write: the record at the offset is put under its identifier
abbrev pub after_write_command : Device → Device
after_write_command d =
    if is_write_refused d then record d { status = NotEnoughSpace }
    else record d {
      store = with_record (id_at d.range d.offset) (record_at d.range d.offset) d.store;
      cursor = 0;
      status = Success;
    }

-- a range with a record's bytes from an offset on, and zeros after them
abbrev pub range_with_record : List ℕ → ℕ → List ℕ → List ℕ
range_with_record range offset bytes =
    take offset range ++ bytes ++ replicate (range_length - (offset + length bytes)) 0

-- the device after a read, given the bytes of the record under the identifier, if any
abbrev pub after_read_of : Device → Option (List ℕ) → Device
after_read_of d None = record d { status = NotFound }
after_read_of d (Some bytes) =
    if nat_lt range_length (d.offset + length bytes) then record d { status = NotEnoughSpace }
    else record d { range = range_with_record d.range d.offset bytes; status = Success }

-- a read: the record under the identifier is copied into the range at the offset
abbrev pub after_read : Device → Device
after_read d =
    if nat_eq (length d.store) 0 then record d { status = StoreEmpty }
    else after_read_of d (bytes_under d.id d.store)

-- a clear: the record under the identifier is removed
abbrev pub after_clear : Device → Device
after_clear d =
    if nat_eq (length d.store) 0 then record d { status = StoreEmpty }
    else (if holds d.id d.store then record d { store = without d.id d.store; cursor = 0; status = Success }
    else record d { status = NotFound })

-- The device after the command begun. Without a command, nothing is carried out.
abbrev pub after_command : Option Command → Device → Device
after_command (Some Write) d = after_write_command d
after_command (Some Read) d = after_read d
after_command (Some Clear) d = after_clear d
after_command (Some Dummy) d = record d { status = Success }
after_command None d = record d { status = NotFound }

-- ---- the actions

-- a device that has just carried out a command: it is busy for a while
abbrev pub busy_device : Device → Device
busy_device d = record d { value = 0; busy = d.slow }

-- the device after EXECUTE_OPERATION carried out the command begun
abbrev pub after_execute : Device → Device
after_execute d = busy_device (after_command d.command d)

-- The result is 1 while the device is busy, and each such result uses up one busy answer.
abbrev pub after_check : Device → Device
after_check d = if nat_lt 0 d.busy then record d { value = 1; busy = d.busy - 1 } else record d { value = 0 }

-- the identifier at the cursor, or all ones at the end
abbrev pub after_id : Device → Option ℕ → Device
after_id d (Some id) = record d { value = id; cursor = d.cursor + 1 }
after_id d None = record d { value = all_ones; cursor = 0 }

-- the device after GET_RECORD_IDENTIFIER
abbrev pub after_listing : Device → Device
after_listing d = after_id d (slice_get (ids d.store) d.cursor)

-- the actions that do something, each with its effect; 12 is reserved
abbrev pub effects : List (ℕ × (Device → Device))
effects =
    (begin_write_operation, λ d. record d { command = Some Write })
    ∷ (begin_read_operation, λ d. record d { command = Some Read })
    ∷ (begin_clear_operation, λ d. record d { command = Some Clear })
    ∷ (end_operation, λ d. record d { command = None })
    ∷ (set_record_offset, λ d. record d { offset = d.value })
    ∷ (execute_operation, after_execute)
    ∷ (check_busy_status, after_check)
    ∷ (get_command_status, λ d. record d { value = status_number d.status })
    ∷ (get_record_identifier, after_listing)
    ∷ (set_record_identifier, λ d. record d { id = d.value })
    ∷ (get_record_count, λ d. record d { value = length d.store })
    ∷ (begin_dummy_write_operation, λ d. record d { command = Some Dummy })
    ∷ (get_error_log_address_range, λ d. record d { value = range_address })
    ∷ (get_error_log_address_range_length, λ d. record d { value = range_length })
    ∷ (get_error_log_address_range_attributes, λ d. record d { value = range_attributes })
    ∷ []

-- The device after the action of this number, if it has a row. Other actions do nothing.
abbrev pub effect_in : List (ℕ × (Device → Device)) → ℕ → Device → Device
effect_in [] action d = d
effect_in (row ∷ rows) action d = if nat_eq action row.0 then row.1 d else effect_in rows action d

-- the device after an action was written
unfoldable pub act : ℕ → Device → Device
act action d = record (effect_in effects action d) { action = action }

-- ---- the calls of the board

-- a range after bytes were written from an offset on
unfoldable pub range_with : ℕ → List ℕ → List ℕ → List ℕ
range_with place bytes range = take place range ++ bytes ++ drop (place + length bytes) range

-- a device after a record was put from outside
unfoldable pub with_put : ℕ → List ℕ → Device → Device
with_put id bytes d = record d { store = with_record id bytes d.store; cursor = 0 }
