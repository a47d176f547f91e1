-- A table of ACPI at the front of bytes.
use Rattle.std.specs.Prelude.{ℕ, not, nat_eq, nat_lt, List, length, Result, Ok, Err, if◌then◌else◌}
use Rattle.std.specs.List.{starts_with}
use Rattle.ras_base.specs.AcpiTable.{own_bytes, has_length, has_sum}
use Rattle.apei_sources.specs.declared.refusals.TableRefused.{TableRefused}
use Rattle.apei_sources.specs.declared.refusals.TableRefused.TheVariants.{Short, Signature, Length, Sum}

-- The table with this signature at the front of bytes, whose fixed part has this length, or the first reason why no
-- table is there.
unfoldable pub table_of : List ℕ → ℕ → List ℕ → Result (List ℕ) TableRefused
table_of signature fixed bytes =
    if nat_lt (length bytes) fixed then Err Short
    else (if not (starts_with nat_eq bytes signature) then Err Signature
    else (if not (has_length fixed bytes) then Err Length
    else (if not (has_sum (own_bytes bytes)) then Err Sum else Ok (own_bytes bytes))))
