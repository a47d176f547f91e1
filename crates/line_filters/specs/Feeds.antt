-- What a filter prints for an input of any length, how its call ends, and how far ahead it reads.
use Rattle.std.specs.Prelude.{◌≡◌, ℕ, ◌+◌, ◌≤◌, List, [], ◌++◌, length, Option, Some, ⊤}
use Rattle.board_core.specs.Clock.{Adds, Clock}
use Rattle.board_core.specs.Told.{Told}
use Rattle.ras_script.specs.Inputs.{inputs_of}
use Rattle.ras_script.specs.declared.reader.TheConstants.{LONGEST_LINE}
use Rattle.ras_exit.specs.declared.exit.Exit.{Exit}
use Rattle.ras_exit.specs.declared.exit.Exit.TheVariants.{Done, SourceFault, PrintFault, NoMemory}
use Rattle.ras_exit.specs.Telling.{OnlyText, PrintMoment, Tells}
use Rattle.line_filters.specs.Feed.{Feed}
use Rattle.line_filters.specs.Pieces.{texts_joined}

-- all that a filter prints for an input
abbrev pub feed_output : Feed → List ℕ → List ℕ
feed_output feed input =
    let inputs = inputs_of input in
    texts_joined (feed.texts inputs.whole) ++ feed.last inputs.whole inputs.cut

-- How far an input was read when this text was printed: no line's text waits while the source is read.
pub record FeedsOn (feed : Feed) (taken printed : List ℕ) : Type 0 where
  -- The texts of all lines in the front of what was taken are printed,
  pub front : List ℕ
  pub more : List ℕ
  pub text : printed ≡ texts_joined (feed.texts (inputs_of front).whole) ++ more
  -- and at most 40,001 bytes were read after it.
  pub rest : List ℕ
  pub splits : front ++ rest ≡ taken
  pub few : length rest ≤ LONGEST_LINE + 1

-- What a filter's call prints for an input, of which `left` isn't read, and how the call ends. In the model only the
-- printed text changes.
pub record Feeds (feed : Feed) (result : Exit) (input left : List ℕ) (before now : Told) : Type 0 where
  pub tells : Tells Done (feed_output feed input) result before now
  pub only : OnlyText before now
  pub taken : List ℕ
  pub splits : taken ++ left ≡ input
  pub printed : List ℕ
  pub text : now.here.out ≡ before.here.out ++ printed
  pub ahead : FeedsOn feed taken printed
  -- If the call succeeds, the whole input was read.
  pub all : result ≡ Done → left ≡ []
  -- If the source failed, the texts of all lines that were read are printed.
  pub read : result ≡ SourceFault → printed ≡ texts_joined (feed.texts (inputs_of taken).whole)

-- What is read of an input, of which these bytes are left: a beginning of it, and all of it if the call is done.
pub record TakesInput (result : Exit) (input left : List ℕ) : Type 0 where
  pub taken : List ℕ
  pub splits : taken ++ left ≡ input
  pub all : result ≡ Done → left ≡ []

-- A crash during a call leaves, as its only new text, a beginning of what is printed for the input. Says nothing of a
-- source or a board that isn't modelled.
abbrev pub StopsFeeding : Feed → Option (List ℕ) → Option Told → Clock → Clock → Type 0
StopsFeeding feed (Some input) (Some before) old new = Adds (PrintMoment old (feed_output feed input)) old new
StopsFeeding feed input before old new = ⊤

-- how a filter's call may end
abbrev pub IsFeedExit : Exit → Type 0
IsFeedExit Done = ⊤
IsFeedExit SourceFault = ⊤
IsFeedExit PrintFault = ⊤
IsFeedExit NoMemory = ⊤
IsFeedExit exit = ⊥
