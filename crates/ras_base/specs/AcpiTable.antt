-- A table of ACPI by its header: ACPI 6.5, section 5.2.6, "System Description Table Header". The signature is at byte
-- 0, the length (4 bytes) at 4, the checksum byte at 9.
use Rattle.std.specs.Prelude.{ℕ, Bool, ◌&&◌, ◌==◌, ◌%◌, nat_le, List, length, take, sum}
use Rattle.ras_base.specs.LittleEndian.{number_at}

-- the length that a table says, header and all
abbrev pub table_length : List ℕ → ℕ
table_length bytes = number_at 4 4 bytes

-- the bytes of the table at the front: as many as its length says
abbrev pub own_bytes : List ℕ → List ℕ
own_bytes bytes = take (table_length bytes) bytes

-- whether the table's length includes its fixed part and lies inside the bytes
abbrev pub has_length : ℕ → List ℕ → Bool
has_length fixed bytes = nat_le fixed (table_length bytes) && nat_le (table_length bytes) (length bytes)

-- whether the bytes of a table sum to 0 modulo 256
abbrev pub has_sum : List ℕ → Bool
has_sum table = sum table % 256 == 0
