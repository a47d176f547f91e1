-- The entries that a payload spells, read from left to right. By a law they are the entries whose payload the bytes
-- are.
use Rattle.std.specs.Prelude.{ℕ, List, Option, None, Some, Result, Ok, Err, Bool, nat_le, ◌&&◌}
use Rattle.ras_base.specs.Chaining.{◌>>=◌}
use Rattle.ras_facts.specs.declared.entry.Entry.{Entry}
use Rattle.entry_format.specs.declared.version.Version.{Version}
use Rattle.entry_format.specs.declared.refused.EntryRefused.{EntryRefused}
use Rattle.entry_format.specs.Reading.{Reader, made_at, if_passes, many_at, whole_at, u32_at, entry_at}
use Rattle.journal_format.specs.declared.link.TheConstants.{MOST_LINK_ENTRIES}

-- the value that was read, if it could be read
abbrev pub found_in : {A : Type 0} → Result A EntryRefused → Option A
found_in (Ok x) = Some x
found_in (Err refused) = None

-- Whether a link can have this number of entries.
abbrev pub is_link_count : ℕ → Bool
is_link_count count = nat_le 1 count && nat_le count MOST_LINK_ENTRIES

unfoldable pub link_count_at : Reader ℕ
link_count_at = made_at (if_passes is_link_count) u32_at

-- entries after their number
unfoldable pub payload_at : Version → Reader (List Entry)
payload_at version bytes = do
  count ← link_count_at bytes
  many_at (entry_at version) count.0 count.1

-- The entries whose payload the bytes are, or None if they aren't a payload.
unfoldable pub payload_of : Version → List ℕ → Option (List Entry)
payload_of version bytes = found_in (whole_at (payload_at version) bytes)
