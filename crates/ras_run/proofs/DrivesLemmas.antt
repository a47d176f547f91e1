-- A line that drives the record store has admitted lists for it.
use Rattle.std.proofs.Common.{◌≡◌, [], Option, Result, Ok, Err, ap, refl, subst, sym, unwrap_or}
use Rattle.erst_interp.specs.Admission.{IsAdmittedTable}
use Rattle.erst_interp.proofs.AdmitsLemmas.{is-admitted}
use Rattle.ras_script.specs.declared.line.Line.{Line}
use Rattle.ras_events.specs.declared.event.Event.{Event}
use Rattle.ras_events.specs.declared.event.LineRefusal.{LineRefusal}
use Rattle.ras_events.specs.Events.{Lists, event_of}
use Rattle.ras_events.specs.Deeds.{Asking, deed_of}
use Rattle.ras_run.specs.Places.{Place, deed_at}
use Rattle.ras_run.specs.Sites.{IsDrivable, Site, driving_lists}
use Rattle.ras_run.proofs.DrivenLemmas.{IsByDriver, driven}

-- The lists are admitted, if a deed needs the driver.
abbrev pub Drives : Lists → Asking → Type 0
Drives lists asks = IsByDriver asks → IsAdmittedTable lists

line_drives : (site : Site) (line : Line) → IsDrivable site.settings.driver → Drives (driving_lists site) (deed_of (event_of site.settings line)).asks
line_drives site line drivable = by (event_of site.settings line) refl
  where
    by : (e : Result Event LineRefusal) → event_of site.settings line ≡ e → Drives (driving_lists site) (deed_of e).asks
    by (Ok event) is = λ needs. (let found = driven site.settings line event is needs in
        subst IsAdmittedTable (sym (ap (λ (o : Option Lists). unwrap_or o []) found.driver)) (is-admitted found.lists (subst IsDrivable found.driver drivable)))
    by (Err why) is = λ never. absurd never

pub place_drives : (place : Place) → IsDrivable place.0.settings.driver → Drives (driving_lists place.0) (deed_at place).asks
place_drives (site, (number, Ok line)) drivable = line_drives site line drivable
place_drives (site, (number, Err why)) drivable = λ never. absurd never
