-- A generic error status block: ACPI 6.5, section 18.3.2.7.1, "Generic Error Data". Its header has
-- 20 bytes, with the block status (4) at 0 and the data's length (4) at 12, and the data follows.
-- The count of entries in the status is not compared, and raw data is not read.
use Rattle.std.specs.Prelude.{ℕ, ◌+◌, ◌==◌, nat_lt, List, [], length, take, drop, get_or, Option, Some, None, Result, Ok, Err, if◌then◌else◌}
use Rattle.std.specs.List.{list_any}
use Rattle.ras_base.specs.LittleEndian.{number_at}
use Rattle.apei_sources.specs.declared.blocks.TheConstants.{BLOCK_HEADER_LENGTH}
use Rattle.apei_sources.specs.declared.refusals.BlockRefused.{BlockRefused}
use Rattle.apei_sources.specs.declared.refusals.BlockRefused.TheVariants.{Short, EntryOut, Section}
use Rattle.apei_sources.specs.Entries.{is_refused, entries_of}

-- a block without its address in memory: its status, and the bytes of each entry, header and data
pub record BlockParts : Type 0 where
  pub status : ℕ
  pub entries : List (List ℕ)

-- the bytes of an entry by its number, from 0
abbrev pub entry_at : BlockParts → ℕ → List ℕ
entry_at block i = get_or block.entries i []

-- the block status
abbrev pub block_status : List ℕ → ℕ
block_status bytes = number_at 0 4 bytes

-- the length of the data
abbrev pub data_length : List ℕ → ℕ
data_length bytes = number_at 12 4 bytes

-- the data
abbrev pub data_of : List ℕ → List ℕ
data_of bytes = take (data_length bytes) (drop BLOCK_HEADER_LENGTH bytes)

-- a block with this status, once its data is cut into entries
abbrev pub block_with : ℕ → Option (List (List ℕ)) → Result BlockParts BlockRefused
block_with status None = Err EntryOut
block_with status (Some entries) =
    if list_any is_refused entries then Err Section else Ok (record { status = status; entries = entries })

-- The block at the front of bytes, or the first reason why no block is there. A block of status 0 is only its status.
unfoldable pub block_of : List ℕ → Result BlockParts BlockRefused
block_of bytes =
    if nat_lt (length bytes) BLOCK_HEADER_LENGTH then Err Short
    else (if block_status bytes == 0 then Ok (record { status = 0; entries = [] })
    else (if nat_lt (length bytes) (BLOCK_HEADER_LENGTH + data_length bytes) then Err Short
    else block_with (block_status bytes) (entries_of (data_of bytes))))
