-- Whether the waiting texts leave room for the next text, and when the source is read.
use Rattle.std.proofs.Common.{◌≡◌, ℕ, ◌+◌, ◌≤◌, Bool, true, IsTrue, ◌↔◌, List, [], length, Ok, ap, arith, inl, inr}
use Rattle.std.specs.Prelude.{◌⊎◌, Contains}
use Rattle.board_core.specs.Doing.{Seen}
use Rattle.ras_script.specs.declared.input.InputStep.{InputStep}
use Rattle.ras_script.specs.declared.input.InputStep.TheVariants.{Line, Long, Dropping, End}
use Rattle.line_filters.specs.declared.feeding.TheConstants.{MOST_AT_ONCE}
use Rattle.line_filters.specs.Feed.{Feed}
use Rattle.line_filters.specs.Steps.Feeding.{TakesStep}
use Rattle.line_filters.specs.Steps.Filtering.{PrintsWaiting}

-- one call can print the text of a step
pub short_step : (step : InputStep) (bytes : List ℕ) (before after : Feed) (text : List ℕ) → TakesStep step bytes before after text → length text ≤ MOST_AT_ONCE
short_step Line bytes before after text took = omega (arith, ap length took.out, took.short)
short_step Long bytes before after text took = omega (arith, ap length took.out, took.short)
short_step Dropping bytes before after text (still, none) = omega (arith, ap length none)
short_step (End cut) bytes before after text (still, none) = omega (arith, ap length none)

-- nothing waits, or the buffer has a line feed
pub free_line : (found : Bool) (held waiting : List ℕ) → (IsTrue found ↔ Contains held 10) → (waiting ≡ []) ⊎ (found ≡ true) → (waiting ≡ []) ⊎ Contains held 10
free_line found held waiting means (inl none) = inl none
free_line found held waiting means (inr is) = inr (means.0 is)

-- one call can print the waiting texts and the next text
pub room : {X : Type 0} (see : X → Seen) (Held : Type 0) (w rest text : List ℕ) (x y : X) → PrintsWaiting see (Ok tt) Held w rest x y → (Held → length w + length text ≤ MOST_AT_ONCE) → length text ≤ MOST_AT_ONCE
    → length rest + length text ≤ MOST_AT_ONCE
room see Held w rest text x y (inl (none, printed)) fits short = omega (arith, ap length none)
room see Held w rest text x y (inr (same, stays, inl none)) fits short = omega (arith, ap length same, ap length none)
room see Held w rest text x y (inr (same, stays, inr is)) fits short = (let few = fits is in omega (arith, ap length same, few))
