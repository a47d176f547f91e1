-- The numbers of the device. Its actions are those of ACPI 6.5, section 18.5.1.1, "Serialization Actions". The
-- addresses of its two registers and of its range are this project's own.
use Rattle.std.specs.Prelude.{ℕ}

abbrev pub begin_write_operation : ℕ
begin_write_operation = 0

abbrev pub begin_read_operation : ℕ
begin_read_operation = 1

abbrev pub begin_clear_operation : ℕ
begin_clear_operation = 2

abbrev pub end_operation : ℕ
end_operation = 3

abbrev pub set_record_offset : ℕ
set_record_offset = 4

abbrev pub execute_operation : ℕ
execute_operation = 5

abbrev pub check_busy_status : ℕ
check_busy_status = 6

abbrev pub get_command_status : ℕ
get_command_status = 7

abbrev pub get_record_identifier : ℕ
get_record_identifier = 8

abbrev pub set_record_identifier : ℕ
set_record_identifier = 9

abbrev pub get_record_count : ℕ
get_record_count = 10

abbrev pub begin_dummy_write_operation : ℕ
begin_dummy_write_operation = 11

abbrev pub get_error_log_address_range : ℕ
get_error_log_address_range = 13

abbrev pub get_error_log_address_range_length : ℕ
get_error_log_address_range_length = 14

abbrev pub get_error_log_address_range_attributes : ℕ
get_error_log_address_range_attributes = 15

-- the addresses of the registers Action and Value
abbrev pub action_address : ℕ
action_address = 0xf0000000

abbrev pub value_address : ℕ
value_address = 0xf0000008

-- the address of the error log address range, its length, and its attributes: neither non-volatile nor slow
abbrev pub range_address : ℕ
range_address = 0xf0010000

abbrev pub range_length : ℕ
range_length = 16384

abbrev pub range_attributes : ℕ
range_attributes = 0
