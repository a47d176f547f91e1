-- How large the pieces of the first records are.
use Rattle.std.specs.Prelude.{◌≤◌, ℕ, ◌*◌, All, length}
use Rattle.std.specs.List.{flat_map}
use Rattle.entry_format.specs.Spelling.{entry_bytes}
use Rattle.ras_facts.specs.Entries.{IsValidEntry}
use Rattle.ras_records.specs.declared.looking.Looked.{Looked}
use Rattle.ras_events.specs.Making.{entries_in}
use Rattle.ras_events.specs.Sizes.{IsFact}

-- Records of at most 16,384 bytes have at most 225 items each, of 45 bytes.
pub record ReachesTo (count : ℕ) (looked : Looked) : Type 0 where
  pub valid : All IsValidEntry (entries_in looked.made)
  pub facts : All IsFact (entries_in looked.made)
  pub few : length (entries_in looked.made) ≤ count
  pub short : length (flat_map entry_bytes (entries_in looked.made)) ≤ 10156 * count
  pub readable : length looked.readable.items ≤ count
