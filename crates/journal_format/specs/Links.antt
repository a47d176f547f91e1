-- How a link of the journal is spelled. Its entries are stored or lost together. Each number of several bytes begins
-- with its low byte.
use Rattle.std.specs.Prelude.{◌≡◌, ℕ, ◌+◌, ◌<◌, ◌≤◌, ◌^◌, Bool, nat_lt, List, ◌++◌, length, take, drop, All}
use Rattle.ras_base.specs.LittleEndian.{u32_bytes, number_at}
use Rattle.ras_facts.specs.declared.entry.Entry.{Entry}
use Rattle.entry_format.specs.declared.version.Version.{Version}
use Rattle.entry_format.specs.Spelling.{entries_bytes}
use Rattle.entry_format.specs.File.{IsEntryOf}
use Rattle.journal_format.specs.declared.link.TheConstants.{MOST_LINK_ENTRIES}

-- the payload of a link: the number of its entries (4 bytes), and the entries in order
unfoldable pub payload_bytes : List Entry → List ℕ
payload_bytes entries = u32_bytes (length entries) ++ entries_bytes entries

-- a link: the length of its payload (4), and the payload
unfoldable pub link_bytes : List Entry → List ℕ
link_bytes entries = u32_bytes (length (payload_bytes entries)) ++ payload_bytes entries

-- The bytes are the payload of these entries, which a link of this version can have.
pub record IsPayload (version : Version) (entries : List Entry) (bytes : List ℕ) : Type 0 where
  pub some : 1 ≤ length entries
  pub few : length entries ≤ MOST_LINK_ENTRIES
  pub each : All (IsEntryOf version) entries
  pub spelled : bytes ≡ payload_bytes entries

-- A link of this version can have these entries: the length of their payload fits its field.
pub record CanLink (version : Version) (entries : List Entry) : Type 0 where
  pub payload : IsPayload version entries (payload_bytes entries)
  pub fits : length (payload_bytes entries) < 2 ^ 32

-- the length of a link at the start of these bytes, by the length of its payload
abbrev pub link_length : List ℕ → ℕ
link_length bytes = 4 + number_at 0 4 bytes

-- Whether bytes end before the link at their start does.
abbrev pub ends_early : List ℕ → Bool
ends_early bytes = nat_lt (length bytes) (link_length bytes)

-- the payload of the link at the start of these bytes
abbrev pub payload_in : List ℕ → List ℕ
payload_in bytes = take (number_at 0 4 bytes) (drop 4 bytes)
