-- A filter's call changes only the text.
use Rattle.std.proofs.Common.{ℕ, List, Option, None, Some}
use Rattle.board_core.specs.Told.{Told}
use Rattle.line_filters.specs.Feed.{Feed}
use Rattle.line_filters.specs.Feeds.{Feeds}
use Rattle.line_filters.specs.Filter.{Filter}
use Rattle.line_filters.specs.Filters.{Filters, OfBoth}
use Rattle.ras_exit.specs.Telling.{OnlyText}
use Rattle.ras_exit.specs.declared.exit.Exit.{Exit}

pub only_filtered : (filter : Filter) (exit : Exit) (script : List ℕ) (rest : Option (List ℕ)) (before t : Told)
    → OfBoth (Filters filter exit) (Some script) rest (Some before) (Some t) → OnlyText before t
only_filtered filter exit script None before t never = absurd never
only_filtered filter exit script (Some left) before t filters = filters.only

pub only_fed : (feed : Feed) (exit : Exit) (input : List ℕ) (rest : Option (List ℕ)) (before t : Told)
    → OfBoth (Feeds feed exit) (Some input) rest (Some before) (Some t) → OnlyText before t
only_fed feed exit input None before t never = absurd never
only_fed feed exit input (Some left) before t feeds = feeds.only
