-- The boot error record table: ACPI 6.5, section 18.3.1, "Boot Error Source". It has 48 bytes: the
-- length of the region of boot errors (4) at 36, and the region's address (8) at 40.
use Rattle.std.specs.Prelude.{ℕ, List, codes, Result, Ok}
use Rattle.ras_base.specs.LittleEndian.{number_at}
use Rattle.apei_sources.specs.declared.bert_table.TheConstants.{BERT_FIXED_LENGTH}
use Rattle.apei_sources.specs.declared.refusals.TableRefused.{TableRefused}
use Rattle.apei_sources.specs.declared.bert_table.Bert.{Bert}
use Rattle.ras_base.specs.Chaining.{◌>>=◌}
use Rattle.apei_sources.specs.Tables.{table_of}

-- the region that the table names
abbrev pub region_of : List ℕ → Bert
region_of table = record { length = number_at 36 4 table; address = number_at 40 8 table }

-- The region that the table at the front of bytes names, or why no table is there.
unfoldable pub bert_of : List ℕ → Result Bert TableRefused
bert_of bytes = table_of (codes "BERT") BERT_FIXED_LENGTH bytes >>= λ table. Ok (region_of table)
