-- What a filter prints for the lines of an input of any length.
use Rattle.std.specs.Prelude.{◌≡◌, ℕ, ◌≤◌, Bool, List, ◌∷◌, ◌++◌, length, ⊤}
use Rattle.ras_script.specs.Inputs.{Input, line, long}
use Rattle.ras_script.specs.declared.reader.TheConstants.{LONGEST_LINE}
use Rattle.line_filters.specs.declared.feeding.TheConstants.{MOST_AT_ONCE}
use Rattle.line_filters.specs.declared.input_filter.InputLine.{InputLine}
use Rattle.line_filters.specs.declared.input_filter.InputLine.TheVariants.{Line, Long}

-- What a filter prints for its next inputs: the text of each, and the text at their end, which also depends on
-- whether bytes come after the last line feed. No input is rejected.
pub record Feed : Type 0 where
  pub texts : List Input → List (List ℕ)
  pub last : List Input → Bool → List ℕ

-- the input given to a filter
abbrev pub input_in : InputLine → Input
input_in (Line bytes) = line bytes.now
input_in Long = long

-- An input's line has at most as many bytes as a line may have.
abbrev pub IsShortInput : Input → Type 0
IsShortInput (line bytes) = length bytes ≤ LONGEST_LINE
IsShortInput long = ⊤

-- An input was taken, and its text appended, which one call can print: the filter goes on with the inputs after it.
pub record TookInput (input : Input) (before after : Feed) (old new : List ℕ) : Type 0 where
  pub text : List ℕ
  pub out : new ≡ old ++ text
  pub short : length text ≤ MOST_AT_ONCE
  pub texts : (inputs : List Input) → before.texts (input ∷ inputs) ≡ text ∷ after.texts inputs
  pub last : (inputs : List Input) (cut : Bool) → before.last (input ∷ inputs) cut ≡ after.last inputs cut
