-- Joined lists of lines at their places, and the site after lines.
use Rattle.std.proofs.Common.{◌≡◌, ◌∙◌, List, [], ◌∷◌, ◌++◌, refl, sym, ap}
use Rattle.std.specs.List.{fold}
use Rattle.std.proofs.lemmas.List.Sums.{fold-append}
use Rattle.ras_account.specs.Continued.{account_after, account_after_all}
use Rattle.ras_events.specs.Described.{NumberedLine, settings_read, settings_told}
use Rattle.ras_events.proofs.DescribedLemmas.{told-along}
use Rattle.ras_run.specs.Places.{entries_at, places_from, reports, site_after, site_along, site_at}
use Rattle.ras_run.specs.Sites.{Site, Start, first_site}

pub places-append : (site : Site) (first others : List NumberedLine) → places_from site (first ++ others) ≡ places_from site first ++ places_from (site_along site first) others
places-append site [] others = refl
places-append site (read ∷ first) others = ap (λ places. (site, read) ∷ places) (places-append (site_after site read) first others)

pub site-snoc : (site : Site) (before : List NumberedLine) (read : NumberedLine) → site_along site (before ++ read ∷ []) ≡ site_after (site_along site before) read
site-snoc site before read = fold-append site_after site before (read ∷ [])

settings-along : (site : Site) (reads : List NumberedLine) → (site_along site reads).settings ≡ fold settings_read site.settings reads
settings-along site [] = refl
settings-along site (read ∷ reads) = settings-along (site_after site read) reads

pub site-settings : (start : Start) (before : List NumberedLine) → (site_at start before).settings ≡ settings_told before
site-settings start before = settings-along (first_site start) before ∙ told-along before

pub site-account : (site : Site) (reads : List NumberedLine) → (site_along site reads).account ≡ account_after_all site.account (reports site reads)
site-account site [] = refl
site-account site (read ∷ reads) =
    site-account (site_after site read) reads
    ∙ sym (fold-append account_after site.account (entries_at (site, read)) (reports (site_after site read) reads))
