-- The hardware error source table: ACPI 6.5, section 18.3.2, "ACPI Error Source". Its fixed part has 40 bytes, the last
-- four of which count the sources that follow. specs/Laid.antt says without the walk which sources a table has.
use Rattle.std.specs.Prelude.{ℕ, zero, suc, nat_eq, is_some, List, [], ◌∷◌, ◌++◌, drop, codes, Option, Result, Ok, Err, if◌then◌else◌}
use Rattle.std.specs.Map.{lookup}
use Rattle.ras_base.specs.LittleEndian.{number_at}
use Rattle.apei_sources.specs.declared.hest_table.TheConstants.{HEST_FIXED_LENGTH}
use Rattle.apei_sources.specs.declared.refusals.TableRefused.{TableRefused}
use Rattle.apei_sources.specs.declared.refusals.TableRefused.TheVariants.{RepeatedId}
use Rattle.ras_base.specs.Chaining.{◌>>=◌}
use Rattle.apei_sources.specs.Tables.{table_of}
use Rattle.apei_sources.specs.Sources.{source_of, size_at}

-- the sources of a table in its order: the identifier of each, and its type
abbrev pub Sources : Type 0
Sources = List (ℕ × ℕ)

-- the type of the source with an identifier
abbrev pub type_with_id : ℕ → Sources → Option ℕ
type_with_id id sources = lookup (nat_eq id) sources

-- how many sources a table counts
abbrev pub source_count : List ℕ → ℕ
source_count table = number_at 36 4 table

-- The sources before and one more, unless one of them has its identifier.
abbrev pub followed : Sources → ℕ × ℕ → Result Sources TableRefused
followed before source = if is_some (type_with_id source.0 before) then Err RepeatedId else Ok (before ++ source ∷ [])

-- These sources, and after them this many from the front of the bytes.
unfoldable pub sources_in : ℕ → Sources → List ℕ → Result Sources TableRefused
sources_in zero before bytes = Ok before
sources_in (suc count) before bytes = do
  size ← size_at bytes
  sources ← followed before (source_of bytes)
  sources_in count sources (drop size bytes)

-- The table at the front of bytes, or why no table is there.
abbrev pub hest_table : List ℕ → Result (List ℕ) TableRefused
hest_table bytes = table_of (codes "HEST") HEST_FIXED_LENGTH bytes

-- the sources of a table
abbrev pub sources_of : List ℕ → Result Sources TableRefused
sources_of table = sources_in (source_count table) [] (drop HEST_FIXED_LENGTH table)

-- The sources of the table at the front of bytes, or the first reason why they can't be read.
unfoldable pub hest_of : List ℕ → Result Sources TableRefused
hest_of bytes = hest_table bytes >>= sources_of
