-- The lines of a script at their places. Each line is processed at the site of the run before it.
use Rattle.std.specs.Prelude.{List, [], ◌∷◌, Result}
use Rattle.std.specs.List.{flat_map, fold}
use Rattle.ras_facts.specs.declared.entry.Entry.{Entry}
use Rattle.ras_account.specs.Continued.{account_after_all}
use Rattle.ras_account.specs.Numbers.{fresh_entries_in}
use Rattle.ras_events.specs.declared.event.Event.{Event}
use Rattle.ras_events.specs.declared.event.LineRefusal.{LineRefusal}
use Rattle.ras_events.specs.Deeds.{Deed, deed_of}
use Rattle.ras_events.specs.Described.{NumberedLine, event_read, settings_read}
use Rattle.ras_events.specs.Making.{entries_in}
use Rattle.ras_run.specs.Deeds.{deed_pieces, store_done}
use Rattle.ras_run.specs.News.{standing_with_news}
use Rattle.ras_run.specs.Sites.{Site, Start, first_site}

-- A line, and the site before it.
abbrev pub Place : Type 0
Place = Site × NumberedLine

-- The event that the line asks for, or why it is rejected; and the event's deed.
abbrev pub event_at : Place → Result Event LineRefusal
event_at place = event_read place.0.settings place.1

abbrev pub deed_at : Place → Deed
deed_at place = deed_of (event_at place)

-- the entries that the line reports
abbrev pub entries_at : Place → List Entry
entries_at place = entries_in (deed_pieces place.0 (deed_at place))

-- The site after a line: the line may describe the machine, its report is counted, its new entries are appended, and
-- it may change the record store.
abbrev pub site_after : Site → NumberedLine → Site
site_after site read = record {
  settings = settings_read site.settings read;
  account = account_after_all site.account (entries_at (site, read));
  standing = standing_with_news site.account site.standing (fresh_entries_in site.account (entries_at (site, read)));
  store = store_done (deed_at (site, read)).asks site.store;
  slow = site.slow;
}

-- the places of lines, from a site on
abbrev pub places_from : Site → List NumberedLine → List Place
places_from site [] = []
places_from site (read ∷ reads) = (site, read) ∷ places_from (site_after site read) reads

-- the site after lines, and the site after the first lines of a run
abbrev pub site_along : Site → List NumberedLine → Site
site_along site reads = fold site_after site reads

abbrev pub site_at : Start → List NumberedLine → Site
site_at start before = site_along (first_site start) before

-- the entries that lines report, in order
abbrev pub reports : Site → List NumberedLine → List Entry
reports site reads = flat_map entries_at (places_from site reads)
