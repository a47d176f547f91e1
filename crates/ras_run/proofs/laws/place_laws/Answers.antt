use Rattle.ras_run.proofs.PlaceLemmas.{places-append, site-account, site-settings}
use Rattle.ras_run.specs.Sites.{first_site}
use Rattle.ras_run.proofs.laws.place_laws.Goals as goal

pub returns-clause-settings : goal.returns-clause-settings
returns-clause-settings c = site-settings

pub returns-clause-account : goal.returns-clause-account
returns-clause-account c = λ start before. site-account (first_site start) before

pub returns-clause-places : goal.returns-clause-places
returns-clause-places c = places-append
