-- The hardware error source table of the sources in a log: ACPI 6.5, section 18.3.2, "ACPI Error Source".
-- Each is a generic source, of which only the number is known.
use Rattle.std.specs.Prelude.{ℕ, ◌+◌, ◌-◌, ◌*◌, ◌%◌, ◌==◌, Bool, List, [], ◌∷◌, ◌++◌, codes, length, nat_lt, replicate, sum, if◌then◌else◌}
use Rattle.std.specs.List.{flat_map, list_any}
use Rattle.ras_base.specs.LittleEndian.{u16_bytes, u32_bytes}
use Rattle.block_lines.specs.declared.sources.TheConstants.{MOST_SOURCES}

-- ---- which sources a table has

abbrev pub is_listed : List ℕ → ℕ → Bool
is_listed sources source = list_any (λ known. known == source) sources

-- if the table is full, a new table begins, so that no table's line is longer than a pipe keeps in one piece
abbrev pub kept_sources : List ℕ → List ℕ
kept_sources sources = if nat_lt (length sources) MOST_SOURCES then sources else []

-- the sources of a table with one more, unless the table has it
abbrev pub sources_with : List ℕ → ℕ → List ℕ
sources_with sources source =
    if is_listed sources source then sources else kept_sources sources ++ source ∷ []

-- ---- its bytes

-- type 9, the number, and 60 bytes that say nothing
unfoldable pub source_bytes : ℕ → List ℕ
source_bytes source = (9 ∷ 0 ∷ []) ++ u16_bytes source ++ replicate 60 0

-- what is before the checksum: the signature, the length, the revision
unfoldable pub table_front : ℕ → List ℕ
table_front count = codes "HEST" ++ u32_bytes (40 + 64 * count) ++ 0 ∷ []

-- what follows the checksum: who made the table, the number of its sources, and these
unfoldable pub table_rest : List ℕ → List ℕ
table_rest sources =
    replicate 26 0 ++ u32_bytes (length sources) ++ flat_map source_bytes sources

-- the byte with which a table's bytes sum to 0 modulo 256
abbrev pub checksum : List ℕ → List ℕ → ℕ
checksum front rest = (512 - sum front % 256 - sum rest % 256) % 256

unfoldable pub table_bytes : List ℕ → List ℕ
table_bytes sources =
    let front = table_front (length sources) in
    let rest = table_rest sources in
    front ++ checksum front rest ∷ rest
