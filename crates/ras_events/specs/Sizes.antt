-- Which lines are short, and which events can be done.
use Rattle.std.specs.Prelude.{◌≡◌, ◌<◌, ◌≤◌, ◌⊎◌, ℕ, List, false, length, slice_index, All, ⊤}
use Rattle.cper_records.specs.Header.{record_id, record_length}
use Rattle.erst_store.specs.Store.{is_reserved}
use Rattle.ras_facts.specs.declared.entry.Entry.{Entry}
use Rattle.ras_facts.specs.declared.entry.Entry.TheVariants.{Fact}
use Rattle.ras_facts.specs.Entries.{IsValidEntry}
use Rattle.journal_format.specs.declared.link.TheConstants.{MOST_LINK_ENTRIES, MOST_PAYLOAD}
use Rattle.journal_format.specs.Links.{payload_bytes}
use Rattle.ras_script.specs.declared.reader.TheConstants.{LONGEST_LINE}
use Rattle.ras_script.specs.declared.line.ErrorReport.{ErrorReport}
use Rattle.ras_script.specs.declared.line.ErrorReport.TheVariants.{Bank, Block, Boot}
use Rattle.ras_script.specs.declared.line.Line.{Line}
use Rattle.ras_script.specs.declared.line.Line.TheVariants as asks
use Rattle.ras_events.specs.declared.event.Event.{Event}
use Rattle.ras_events.specs.declared.event.Event.TheVariants.{Counted, Saved}
use Rattle.ras_events.specs.declared.made.Piece.{Piece}
use Rattle.ras_events.specs.Making.{entries_in}

-- The bytes in a line are at most as long as a line may be.
abbrev pub IsShortReport : ErrorReport → Type 0
IsShortReport (Bank bank) = ⊤
IsShortReport (Block boot seconds source number bytes) = length bytes ≤ LONGEST_LINE
IsShortReport (Boot boot seconds table region) = length region ≤ LONGEST_LINE

abbrev pub IsShortLine : Line → Type 0
IsShortLine (asks.Report report) = IsShortReport report
IsShortLine line = ⊤

-- Whether an entry is a fact.
abbrev pub IsFact : Entry → Type 0
IsFact (Fact fact) = ⊤
IsFact entry = ⊥

-- The entries of these pieces can be one link: they are valid, not too many and not too long. All are facts, or there
-- is at most one.
pub record IsFit (made : List Piece) : Type 0 where
  pub valid : All IsValidEntry (entries_in made)
  pub few : length (entries_in made) ≤ MOST_LINK_ENTRIES
  pub short : length (payload_bytes (entries_in made)) ≤ MOST_PAYLOAD
  pub alike : All IsFact (entries_in made) ⊎ (length (entries_in made) ≤ 1)

-- Bytes can be saved as a record under an identifier: they have the length of a panic record, their header says so and
-- has this identifier, and the identifier isn't reserved.
pub record CanBeSaved (id : ℕ) (bytes : List ℕ) : Type 0 where
  pub size : length bytes ≡ 456
  pub told : record_length bytes ≡ 456
  pub named : record_id bytes ≡ id
  pub free : is_reserved id ≡ false
  pub each : (i : ℕ) → slice_index bytes i < 256

-- An event can be done: its pieces can be one link, or its record can be saved.
abbrev pub IsFitEvent : Event → Type 0
IsFitEvent (Counted made) = IsFit made
IsFitEvent (Saved id bytes) = CanBeSaved id bytes
IsFitEvent event = ⊤
