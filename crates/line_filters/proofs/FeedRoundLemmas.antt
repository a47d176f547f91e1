-- A round of a filter's call over an input of any length: the waiting texts are printed, or may wait, and then the
-- reader goes on.
use Rattle.std.proofs.Common.{◌≡◌, ℕ, Bool, true, IsTrue, ◌↔◌, List, [], ◌++◌, Option, Ok, Err}
use Rattle.std.specs.Prelude.{◌⊎◌, Contains}
use Rattle.board_core.specs.Clock.{Clock}
use Rattle.board_core.specs.Doing.{Seen}
use Rattle.board_core.specs.Told.{Told}
use Rattle.board_core.specs.declared.source.Failed.{Failed}
use Rattle.ras_script.specs.declared.input.InputStep.{InputStep}
use Rattle.ras_script.specs.declared.input.InputStep.TheVariants.{End}
use Rattle.ras_script.specs.InputBuffer.{InputBuffer, MovesInput}
use Rattle.ras_exit.specs.declared.exit.Exit.{Exit}
use Rattle.ras_exit.specs.declared.exit.Exit.TheVariants.{NoMemory, SourceFault}
use Rattle.line_filters.specs.Feed.{Feed}
use Rattle.line_filters.specs.Steps.Feeding.{FedBoth, FeedEndsBoth, TakesStep}
use Rattle.line_filters.specs.Steps.Filtering.{PrintsWaiting}
use Rattle.line_filters.proofs.FeedBothLemmas.{ends_on, free_of, source_on, starved_on, step_on, unprinted_on, wait_on, with_nil, without_nil}
use Rattle.line_filters.proofs.FeedRoomLemmas.{free_line}

module _ (whole : Feed) (script : List ℕ) (before : Told) (a : Clock) (buffer : InputBuffer) (feed : Feed) {X : Type 0} (see : X → Seen) (w rest : List ℕ) (Held : Type 0) (x y : X) (left : Option (List ℕ))
    (fed : FedBoth whole script before a buffer feed w left (see x).told (see x).clock) where
  pub waited : PrintsWaiting see (Ok tt) Held w rest x y → FedBoth whole script before a buffer feed rest left (see y).told (see y).clock
  waited prints =
      without_nil whole script before a buffer feed rest left (see y).told (see y).clock
      (wait_on whole script before a buffer feed see w [] rest Held x y left (with_nil whole script before a buffer feed w left (see x).told (see x).clock fed) prints)

  pub unprinted_round : (exit : Exit) → PrintsWaiting see (Err exit) Held w rest x y → FeedEndsBoth whole script before a (Err exit) feed rest left (see y).told (see y).clock
  unprinted_round exit prints = unprinted_on whole script before a buffer feed see w [] rest Held x y exit feed left (with_nil whole script before a buffer feed w left (see x).told (see x).clock fed) prints

module _ (whole : Feed) (script : List ℕ) (before : Told) (a : Clock) (buffer : InputBuffer) (feed : Feed) {X : Type 0} (see : X → Seen) (w rest : List ℕ) (found : Bool) (x y : X) (left later : Option (List ℕ))
    (fed : FedBoth whole script before a buffer feed w left (see x).told (see x).clock) (prints : PrintsWaiting see (Ok tt) (found ≡ true) w rest x y)
    (means : IsTrue found ↔ Contains buffer.held 10) (nothing : feed.texts [] ≡ []) (new : InputBuffer) where
  ready : FedBoth whole script before a buffer feed rest left (see y).told (see y).clock
  ready = waited whole script before a buffer feed see w rest (found ≡ true) x y left fed prints

  free : (rest ≡ []) ⊎ Contains buffer.held 10
  free = free_line found buffer.held rest means (free_of see (found ≡ true) w rest x y prints)

  pub source_round : (failed : Failed) → MovesInput (Err failed) buffer new left later → FeedEndsBoth whole script before a (Err SourceFault) feed rest later (see y).told (see y).clock
  source_round failed moves = source_on whole script before a buffer feed rest new (see y).told (see y).clock nothing failed feed left later free ready moves

  pub ends_round : (cut : Bool) → (Contains buffer.held 10 → later ≡ left) → MovesInput (Ok (End cut)) buffer new left later → FeedEndsBoth whole script before a (Ok cut) feed rest later (see y).told (see y).clock
  ends_round cut first moves = ends_on whole script before a buffer feed rest new (see y).told (see y).clock nothing cut left later free ready first moves

  pub starved_round : (step : InputStep) (other : Feed) → (Contains buffer.held 10 → later ≡ left) → MovesInput (Ok step) buffer new left later → FeedEndsBoth whole script before a (Err NoMemory) other rest later (see y).told (see y).clock
  starved_round step other first moves = starved_on whole script before a buffer feed rest new (see y).told (see y).clock nothing step other left later free ready first moves

  pub step_round : (step : InputStep) (after : Feed) (text : List ℕ) → ((cut : Bool) → step ≡ End cut → ⊥) → (Contains buffer.held 10 → later ≡ left) → MovesInput (Ok step) buffer new left later
      → TakesStep step new.line feed after text → FedBoth whole script before a new after (rest ++ text) later (see y).told (see y).clock
  step_round step after text going first moves took =
      step_on whole script before a buffer feed rest new (see y).told (see y).clock nothing step after text left later free going ready first moves took
