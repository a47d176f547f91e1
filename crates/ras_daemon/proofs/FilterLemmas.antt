-- Calls of filters.
use Rattle.std.proofs.Common.{◌≡◌, ℕ, List, Option, subst}
use Rattle.ras_exit.specs.declared.exit.Exit.{Exit}
use Rattle.board_core.specs.Clock.{Clock}
use Rattle.board_core.specs.Told.{Told}
use Rattle.line_filters.specs.Feed.{Feed}
use Rattle.line_filters.specs.Feeds.{Feeds, StopsFeeding}
use Rattle.line_filters.specs.Filter.{Filter}
use Rattle.line_filters.specs.Filters.{Filters, OfBoth, StopsFiltering}

-- two equal filters print the same
pub filters_as : (is made : Filter) (exit : Exit) (script left : Option (List ℕ)) (old now : Option Told) → made ≡ is
    → OfBoth (Filters made exit) script left old now → OfBoth (Filters is exit) script left old now
filters_as is made exit script left old now same filters = subst (λ (f : Filter). OfBoth (Filters f exit) script left old now) same filters

-- crashes of two equal filters leave the same
pub stops_as : (is made : Filter) (script : Option (List ℕ)) (told : Option Told) (old new : Clock) → made ≡ is → StopsFiltering made script told old new → StopsFiltering is script told old new
stops_as is made script told old new same stops = subst (λ (f : Filter). StopsFiltering f script told old new) same stops

-- the same of a filter of an input of any length
pub feeds_as : (is made : Feed) (exit : Exit) (input left : Option (List ℕ)) (old now : Option Told) → made ≡ is
    → OfBoth (Feeds made exit) input left old now → OfBoth (Feeds is exit) input left old now
feeds_as is made exit input left old now same feeds = subst (λ (f : Feed). OfBoth (Feeds f exit) input left old now) same feeds

pub stops_feeding_as : (is made : Feed) (input : Option (List ℕ)) (told : Option Told) (old new : Clock) → made ≡ is → StopsFeeding made input told old new → StopsFeeding is input told old new
stops_feeding_as is made input told old new same stops = subst (λ (f : Feed). StopsFeeding f input told old new) same stops
