-- The lists by which a run drives the record store are admitted.
use Rattle.std.proofs.Common.{◌≡◌, Bool, true, false, if◌then◌else◌, Option, None, Some, Result, Ok, Err, refl, subst, sym}
use Rattle.erst_interp.specs.Table.{erst_of}
use Rattle.erst_interp.specs.Walk.{is_admitted}
use Rattle.ras_script.specs.declared.line.Line.{Line}
use Rattle.ras_script.specs.declared.line.Line.TheVariants as asks
use Rattle.ras_script.specs.declared.line.Table.TheVariants.{Hest, Erst}
use Rattle.ras_events.specs.declared.settings.Settings.{Settings}
use Rattle.ras_events.specs.Described.{NumberedLine, settings_read}
use Rattle.ras_events.specs.Events.{Lists, admitted_in, settings_after, with_driver}
use Rattle.ras_events.proofs.DescribedLemmas.{sources-leave}
use Rattle.ras_run.specs.Sites.{IsDrivable}

chosen : (lists : Lists) (b : Bool) → is_admitted lists ≡ b → IsDrivable (if b then Some lists else None)
chosen lists true is = is
chosen lists false is = tt

admitted : {E : Type 0} (read : Result Lists E) → IsDrivable (admitted_in read)
admitted (Ok lists) = chosen lists (is_admitted lists) refl
admitted (Err why) = tt

with-driver : (settings : Settings) (found : Option Lists) → IsDrivable settings.driver → IsDrivable found → IsDrivable (with_driver settings found).driver
with-driver settings None before good = before
with-driver settings (Some lists) before good = good

drivable-line : (settings : Settings) (line : Line) → IsDrivable settings.driver → IsDrivable (settings_after settings line).driver
drivable-line settings (asks.Table (Erst bytes)) before = with-driver settings (admitted_in (erst_of bytes)) before (admitted (erst_of bytes))
drivable-line settings (asks.Table (Hest bytes)) before = subst IsDrivable (sym (sources-leave settings bytes)) before
drivable-line settings line before = before

-- The lists in the machine description are admitted before a line and after it.
pub drivable-after : (settings : Settings) (read : NumberedLine) → IsDrivable settings.driver → IsDrivable (settings_read settings read).driver
drivable-after settings (number, Ok line) before = drivable-line settings line before
drivable-after settings (number, Err why) before = before
