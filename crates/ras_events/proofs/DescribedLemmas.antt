-- The machine description that lines give, a line at a time.
use Rattle.std.proofs.Common.{◌≡◌, ℕ, List, [], ◌∷◌, ◌++◌, Option, None, Some, Result, Ok, Err, ap, refl, sym, ◌∙◌, append-nil, append_assoc}
use Rattle.std.proofs.lemmas.List.Elements.{filter_map-append}
use Rattle.std.specs.List.{cons_option, filter_map, fold}
use Rattle.std.specs.Option.{option_map_or}
use Rattle.apei_sources.specs.Hest.{Sources, hest_of}
use Rattle.apei_sources.specs.declared.refusals.TableRefused.{TableRefused}
use Rattle.ras_script.specs.declared.line.Line.{Line}
use Rattle.ras_script.specs.declared.line.Line.TheVariants as asks
use Rattle.ras_script.specs.declared.line.Table.TheVariants.{Hest, Erst}
use Rattle.ras_events.specs.declared.settings.Settings.{Settings}
use Rattle.erst_interp.specs.Table.{erst_of}
use Rattle.dimm_topology.specs.declared.row.Row.{Row}
use Rattle.ras_events.specs.Events.{Lists, admitted_in, no_settings, settings_after, with_driver, with_sources}
use Rattle.ras_events.specs.Described.{NumberedLine, driver_by, last_of, row_by, settings_read, settings_told, sources_by, sources_in_table}

-- The last of a list with one more item is this item.
last-snoc : {X : Type 0} (xs : List X) (x : X) → last_of (xs ++ x ∷ []) ≡ Some x
last-snoc [] x = refl
last-snoc (y ∷ []) x = refl
last-snoc (y ∷ z ∷ xs) x = last-snoc (z ∷ xs) x

-- The last of a list with at most one more item.
last-found : {X : Type 0} (xs : List X) (found : Option X) → last_of (xs ++ cons_option found []) ≡ option_map_or Some found (last_of xs)
last-found xs None = ap last_of (append-nil xs)
last-found xs (Some x) = last-snoc xs x

-- settings after the parts of the machine description that a line gives
abbrev with_told : Settings → Option Row → Option Sources → Option Lists → Settings
with_told settings row sources lists = record {
  topology = settings.topology ++ cons_option row [];
  sources = option_map_or Some sources settings.sources;
  driver = option_map_or Some lists settings.driver;
}

settings-snoc : (before : List NumberedLine) (read : NumberedLine)
    → settings_told (before ++ read ∷ []) ≡ with_told (settings_told before) (row_by read) (sources_by read) (driver_by read)
settings-snoc before read =
    rw (
      filter_map-append row_by before (read ∷ []),
      filter_map-append sources_by before (read ∷ []),
      filter_map-append driver_by before (read ∷ []),
      last-found (filter_map sources_by before) (sources_by read),
      last-found (filter_map driver_by before) (driver_by read),
    )
    refl

-- A line that gives no part of the machine description changes nothing.
same : (settings : Settings) → with_told settings None None None ≡ settings
same settings = λ i. record settings { topology = append-nil settings.topology i }

with-sources : (settings : Settings) (table : Result Sources TableRefused) → with_told settings None (sources_in_table table) None ≡ with_sources settings table
with-sources settings (Ok sources) = λ i. record settings { topology = append-nil settings.topology i; sources = Some sources }
with-sources settings (Err why) = same settings

with-driver : (settings : Settings) (lists : Option Lists) → with_told settings None None lists ≡ with_driver settings lists
with-driver settings (Some lists) = λ i. record settings { topology = append-nil settings.topology i; driver = Some lists }
with-driver settings None = same settings

settings-line : (before : List NumberedLine) (read : NumberedLine) → settings_told (before ++ read ∷ []) ≡ settings_read (settings_told before) read
settings-line before (number, Err why) = settings-snoc before (number, Err why) ∙ same (settings_told before)
settings-line before (number, Ok line) = settings-snoc before (number, Ok line) ∙ by (settings_told before) line
  where
    by : (s : Settings) (l : Line) → with_told s (row_by (number, Ok l)) (sources_by (number, Ok l)) (driver_by (number, Ok l)) ≡ settings_after s l
    by s (asks.Row row) = refl
    by s (asks.Table (Hest bytes)) = with-sources s (hest_of bytes)
    by s (asks.Table (Erst bytes)) = with-driver s (admitted_in (erst_of bytes))
    by s line = same s

-- A table of error sources leaves the lists that drive the record store.
pub sources-leave : (settings : Settings) (bytes : List ℕ) → (settings_after settings (asks.Table (Hest bytes))).driver ≡ settings.driver
sources-leave settings bytes = by (hest_of bytes)
  where
    by : (table : Result Sources TableRefused) → (with_sources settings table).driver ≡ settings.driver
    by (Ok sources) = refl
    by (Err why) = refl

told-behind : (before reads : List NumberedLine) → fold settings_read (settings_told before) reads ≡ settings_told (before ++ reads)
told-behind before [] = ap settings_told (sym (append-nil before))
told-behind before (read ∷ reads) =
    ap (λ (settings : Settings). fold settings_read settings reads) (sym (settings-line before read))
    ∙ told-behind (before ++ read ∷ []) reads
    ∙ ap settings_told (append_assoc before (read ∷ []) reads)

pub told-along : (reads : List NumberedLine) → fold settings_read no_settings reads ≡ settings_told reads
told-along reads = told-behind [] reads
