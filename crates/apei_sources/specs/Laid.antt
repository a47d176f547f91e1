-- A HEST's sources and a block's entries, without the walks that read them: spans of bytes laid end to end.
use Rattle.std.specs.Prelude.{◌≡◌, ◌≤◌, ◌<◌, ◌⊎◌, ℕ, nat_eq, List, ◌++◌, length, map, drop, Some, None, All, Contains}
use Rattle.std.specs.List.{concat, IsDistinct}
use Rattle.apei_sources.specs.declared.sources.TheConstants.{SOURCE_HEAD_LENGTH}
use Rattle.apei_sources.specs.declared.sources.Layout.{Layout}
use Rattle.apei_sources.specs.declared.refusals.TableRefused.{TableRefused}
use Rattle.apei_sources.specs.declared.refusals.TableRefused.TheVariants.{SourceType, SourceOut, RepeatedId}
use Rattle.apei_sources.specs.declared.entries.TheConstants.{ENTRY_HEADER_LENGTH}
use Rattle.apei_sources.specs.declared.hest_table.TheConstants.{HEST_FIXED_LENGTH}
use Rattle.apei_sources.specs.Sources.{source_type, source_id, source_of, layout_of, size_of}
use Rattle.apei_sources.specs.Hest.{Sources, source_count}
use Rattle.apei_sources.specs.Entries.{entry_length}

-- A span of bytes is a source: its type is listed, and it has as many bytes as its type and its banks require.
abbrev pub IsSource : List ℕ → Type 0
IsSource span = (layout : Layout) × (layout_of (source_type span) ≡ Some layout) × (length span ≡ size_of layout span)

-- Bytes are sources laid end to end, with different identifiers, and a rest after them.
pub record AreSources (bytes : List ℕ) (spans : List (List ℕ)) (rest : List ℕ) : Type 0 where
  pub laid : bytes ≡ concat spans ++ rest
  pub each : All IsSource spans
  pub once : IsDistinct nat_eq (map source_id spans)

-- A table has these sources: as many as it counts, laid end to end after its fixed part.
pub record HoldsSources (table : List ℕ) (sources : Sources) : Type 0 where
  pub spans : List (List ℕ)
  pub rest : List ℕ
  pub laid : AreSources (drop HEST_FIXED_LENGTH table) spans rest
  pub counted : length spans ≡ source_count table
  pub listed : sources ≡ map source_of spans

-- After sources with these identifiers the bytes don't begin with a source, for this reason.
abbrev pub IsNoSource : List ℕ → List ℕ → TableRefused → Type 0
IsNoSource ids bytes SourceType = (SOURCE_HEAD_LENGTH ≤ length bytes) × (layout_of (source_type bytes) ≡ None)
IsNoSource ids bytes SourceOut = (length bytes < SOURCE_HEAD_LENGTH)
    ⊎ ((layout : Layout) × (layout_of (source_type bytes) ≡ Some layout) × (length bytes < size_of layout bytes))
IsNoSource ids bytes RepeatedId =
    (span : List ℕ) × (rest : List ℕ) × (bytes ≡ span ++ rest) × IsSource span × Contains ids (source_id span)
IsNoSource ids bytes _ = ⊥

-- A table breaks off: after fewer sources than it counts, the bytes don't begin with a source, for this reason.
pub record BreaksOff (table : List ℕ) (why : TableRefused) : Type 0 where
  pub spans : List (List ℕ)
  pub rest : List ℕ
  pub laid : AreSources (drop HEST_FIXED_LENGTH table) spans rest
  pub fewer : length spans < source_count table
  pub refused : IsNoSource (map source_id spans) rest why

-- A span of bytes is an entry: it has as many bytes as its header and its data.
pub record IsEntry (span : List ℕ) : Type 0 where
  pub header : ENTRY_HEADER_LENGTH ≤ length span
  pub whole : length span ≡ entry_length span

-- Bytes are entries laid end to end, and nothing else.
pub record AreEntries (bytes : List ℕ) (entries : List (List ℕ)) : Type 0 where
  pub laid : concat entries ≡ bytes
  pub each : All IsEntry entries
