-- The steps of a filter's call over an input of any length.
use Rattle.std.specs.Prelude.{◌≡◌, ℕ, Bool, true, false, List, [], ◌++◌, IfSome, IsSomeAnd, Option, Result, Ok, Err, ⊤}
use Rattle.board_core.specs.Clock.{Adds, Clock, Leads}
use Rattle.board_core.specs.Stop.{Appends, InOut}
use Rattle.board_core.specs.Told.{Told, after_print}
use Rattle.ras_base.specs.Prefix.{IsPrefixOf}
use Rattle.ras_script.specs.InputBuffer.{InputBuffer, inputs_to_come}
use Rattle.ras_script.specs.Inputs.{Input, Inputs, inputs_behind, inputs_of, line, long}
use Rattle.ras_script.specs.declared.input.InputStep.{InputStep}
use Rattle.ras_script.specs.declared.input.InputStep.TheVariants.{Line, Long}
use Rattle.ras_exit.specs.declared.exit.Exit.{Exit}
use Rattle.ras_exit.specs.declared.exit.Exit.TheVariants.{NoMemory, PrintFault, SourceFault}
use Rattle.ras_exit.specs.Telling.{PrintMoment}
use Rattle.line_filters.specs.Feed.{Feed, TookInput}
use Rattle.line_filters.specs.Feeds.{FeedsOn, feed_output}
use Rattle.line_filters.specs.Pieces.{texts_joined}

-- a reader before the first input
abbrev pub no_inputs : InputBuffer
no_inputs = record { line = []; held = []; dropping = false }

-- What a source has left is an end of what it had, if it is modelled.
abbrev pub LeavesEnd : Option (List ℕ) → Option (List ℕ) → Type 0
LeavesEnd first now = IfSome first (λ input. IsSomeAnd now (λ left. (taken : List ℕ) × (taken ++ left ≡ input)))

-- What a step of the reader makes a filter do: it takes the input that ended, and appends this text; or no input
-- ended.
abbrev pub TakesStep : InputStep → List ℕ → Feed → Feed → List ℕ → Type 0
TakesStep Line bytes before after text = TookInput (line bytes) before after [] text
TakesStep Long bytes before after text = TookInput long before after [] text
TakesStep step bytes before after text = (after ≡ before) × (text ≡ [])

-- the inputs, with these before them
abbrev pub with_inputs : List Input → Inputs → Inputs
with_inputs given inputs = record inputs { whole = given ++ inputs.whole }

-- what a filter prints for the inputs to come
abbrev pub later_text : Feed → InputBuffer → List ℕ → List ℕ
later_text feed buffer left =
    let inputs = inputs_to_come buffer left in
    texts_joined (feed.texts inputs.whole) ++ feed.last inputs.whole inputs.cut

-- Inputs were taken. What the call prints is the text of these inputs, part of which waits, and the text of the
-- inputs to come.
pub record Fed (whole : Feed) (script : List ℕ) (before : Told) (old : Clock) (buffer : InputBuffer) (feed : Feed) (waiting left : List ℕ) (now : Told) (new : Clock) : Type 0 where
  -- the bytes that the reader has passed, and the inputs in them
  pub done : List ℕ
  pub given : List Input
  pub splits : (done ++ buffer.held) ++ left ≡ script
  pub come : (more : List ℕ) → inputs_of (done ++ more) ≡ with_inputs given (inputs_behind buffer.dropping more)
  -- the texts of these inputs
  pub texts : List (List ℕ)
  pub made : (inputs : List Input) → whole.texts (given ++ inputs) ≡ texts ++ feed.texts inputs
  pub last : (inputs : List Input) (cut : Bool) → whole.last (given ++ inputs) cut ≡ feed.last inputs cut
  -- the part of the texts that is printed
  pub printed : List ℕ
  pub all : texts_joined texts ≡ printed ++ waiting
  pub is : now ≡ after_print printed before
  pub stops : Adds (PrintMoment old (feed_output whole script)) old new
  pub leads : Leads (InOut (Appends printed)) old new
  pub ahead : FeedsOn whole (done ++ buffer.held) printed

-- the call goes on to print the waiting texts
abbrev pub PrintsNext : Result Bool Exit → Type 0
PrintsNext (Err PrintFault) = ⊥
PrintsNext result = ⊤

-- The inputs ended in this way, with this filter, and texts wait.
pub record FeedEnds (whole : Feed) (script : List ℕ) (before : Told) (old : Clock) (result : Result Bool Exit) (feed : Feed) (waiting left : List ℕ) (now : Told) (new : Clock) : Type 0 where
  pub taken : List ℕ
  pub splits : taken ++ left ≡ script
  pub printed : List ℕ
  pub is : now ≡ after_print printed before
  pub begins : IsPrefixOf printed (feed_output whole script)
  pub stops : Adds (PrintMoment old (feed_output whole script)) old new
  pub ahead : FeedsOn whole taken printed
  -- the waiting texts are printed next, unless printing failed
  pub goes : PrintsNext result → IsPrefixOf (printed ++ waiting) (feed_output whole script) × Leads (InOut (Appends printed)) old new
  -- only the last text is to come, and the whole input was read
  pub done : (cut : Bool) → result ≡ Ok cut → (feed_output whole script ≡ (printed ++ waiting) ++ feed.last [] cut) × (left ≡ [])
  pub read : result ≡ Err SourceFault → printed ≡ texts_joined (whole.texts (inputs_of taken).whole)

-- Source and board are modelled, and the inputs were taken, or ended, in this way.
abbrev pub FedBoth : Feed → List ℕ → Told → Clock → InputBuffer → Feed → List ℕ → Option (List ℕ) → Option Told → Clock → Type 0
FedBoth whole script before old buffer feed waiting left told new =
    IsSomeAnd left (λ rest. IsSomeAnd told (λ now. Fed whole script before old buffer feed waiting rest now new))

abbrev pub FeedEndsBoth : Feed → List ℕ → Told → Clock → Result Bool Exit → Feed → List ℕ → Option (List ℕ) → Option Told → Clock → Type 0
FeedEndsBoth whole script before old result feed waiting left told new =
    IsSomeAnd left (λ rest. IsSomeAnd told (λ now. FeedEnds whole script before old result feed waiting rest now new))

-- whether a call of the source or the board failed; then no other call follows
abbrev pub is_fault : Result Bool Exit → Bool
is_fault (Err SourceFault) = true
is_fault (Err PrintFault) = true
is_fault result = false

-- how a call may end before an input's end
abbrev pub IsFeedStop : Exit → Type 0
IsFeedStop SourceFault = ⊤
IsFeedStop PrintFault = ⊤
IsFeedStop NoMemory = ⊤
IsFeedStop exit = ⊥
