-- The error record serialization table: ACPI 6.5, section 18.5.1, "Serialization Action Table".
-- After the header of all tables come the size of the serialization header (4) at 36 and the count
-- of its entries (4) at 44. The entries follow from 48 on.
use Rattle.std.specs.Prelude.{ℕ, zero, suc, ◌+◌, ◌*◌, Bool, ◌||◌, not, nat_eq, nat_le, nat_lt, List, [], ◌∷◌, length, drop, map, filter, get_or, codes, Result, Ok, Err, if◌then◌else◌}
use Rattle.std.specs.List.{range_with_len, starts_with}
use Rattle.ras_base.specs.LittleEndian.{number_at}
use Rattle.ras_base.specs.AcpiTable.{own_bytes, has_length, has_sum}
use Rattle.erst_interp.specs.declared.entries.InstructionEntry.{InstructionEntry}
use Rattle.erst_interp.specs.declared.entries.TheConstants.{ENTRY_LENGTH}
use Rattle.erst_interp.specs.declared.table.TheConstants.{ERST_FIXED_LENGTH}
use Rattle.erst_interp.specs.declared.refusals.ErstTableRefused.{ErstTableRefused}
use Rattle.erst_interp.specs.declared.refusals.ErstTableRefused.TheVariants.{Short, Signature, Length, Sum, HeaderSize, Count}
use Rattle.erst_interp.specs.Entries.{entry_of}

-- Whether the size of the serialization header is valid: firmware counts its own 12 bytes, or those of the table's
-- header too.
abbrev pub has_header_size : List ℕ → Bool
has_header_size table = nat_eq (number_at 36 4 table) 12 || nat_eq (number_at 36 4 table) 48

-- how many entries a table counts
abbrev pub entry_count : List ℕ → ℕ
entry_count table = number_at 44 4 table

-- Whether the entries that a table counts lie inside it.
abbrev pub has_entries : List ℕ → Bool
has_entries table = nat_le (ERST_FIXED_LENGTH + ENTRY_LENGTH * entry_count table) (length table)

-- The table at the front of bytes, or the first reason why it can't be read.
unfoldable pub erst_table : List ℕ → Result (List ℕ) ErstTableRefused
erst_table bytes =
    if nat_lt (length bytes) ERST_FIXED_LENGTH then Err Short
    else (if not (starts_with nat_eq bytes (codes "ERST")) then Err Signature
    else (if not (has_length ERST_FIXED_LENGTH bytes) then Err Length
    else (if not (has_sum (own_bytes bytes)) then Err Sum
    else (if not (has_header_size (own_bytes bytes)) then Err HeaderSize
    else (if not (has_entries (own_bytes bytes)) then Err Count
    else Ok (own_bytes bytes))))))

-- the first entries of bytes, one after the other
unfoldable pub instructions_at : ℕ → List ℕ → List InstructionEntry
instructions_at zero bytes = []
instructions_at (suc count) bytes = entry_of bytes ∷ instructions_at count (drop ENTRY_LENGTH bytes)

abbrev pub instructions_in : List ℕ → List InstructionEntry
instructions_in table = instructions_at (entry_count table) (drop ERST_FIXED_LENGTH table)

-- what is stored of a table: for each number that an action can have, a list of entries
abbrev pub list_of : ℕ → List (List InstructionEntry) → List InstructionEntry
list_of action lists = get_or lists action []

-- the entries of an action, in their order
abbrev pub entries_for : ℕ → List InstructionEntry → List InstructionEntry
entries_for action entries = filter (λ e. nat_eq action e.action) entries

-- the list of entries of each action from 0 to 255
unfoldable pub lists_of : List InstructionEntry → List (List InstructionEntry)
lists_of entries = map (λ action. entries_for action entries) (range_with_len 0 256)

abbrev pub lists_in : Result (List ℕ) ErstTableRefused → Result (List (List InstructionEntry)) ErstTableRefused
lists_in (Ok table) = Ok (lists_of (instructions_in table))
lists_in (Err why) = Err why

-- The table at the front of bytes, by its lists, or the first reason why it can't be read.
abbrev pub erst_of : List ℕ → Result (List (List InstructionEntry)) ErstTableRefused
erst_of bytes = lists_in (erst_table bytes)
