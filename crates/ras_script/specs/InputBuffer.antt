-- The buffer of a reader of inputs, and which inputs the reader returns.
use Rattle.std.specs.Prelude.{◌≡◌, ℕ, ◌+◌, ◌≤◌, Bool, true, false, ◌||◌, List, [], ◌∷◌, ◌++◌, length, nat_lt, Option, Result, Ok, Err, IfSome}
use Rattle.board_core.specs.declared.source.Failed.{Failed}
use Rattle.ras_script.specs.declared.input.InputStep.{InputStep}
use Rattle.ras_script.specs.declared.input.InputStep.TheVariants.{Line, Long, Dropping, End}
use Rattle.ras_script.specs.declared.reader.TheConstants.{LONGEST_LINE}
use Rattle.ras_script.specs.Inputs.{Inputs, inputs_behind, line, long, with_input}
use Rattle.ras_script.specs.Reader.{AreTaken, IsLine}
use Rattle.ras_script.specs.SplittingLaws.{Lacks}

-- The line that a reader returned last, the bytes that it read after it, and whether it has dropped bytes of a line
-- that is too long and hasn't reached its end.
pub record InputBuffer : Type 0 where
  pub line : List ℕ
  pub held : List ℕ
  pub dropping : Bool

-- the inputs yet to be returned, if the source has these bytes left
abbrev pub inputs_to_come : InputBuffer → List ℕ → Inputs
inputs_to_come buffer left = inputs_behind buffer.dropping (buffer.held ++ left)

-- Whether the buffer has bytes of a line without its line feed, or such bytes were dropped.
abbrev pub is_cut : InputBuffer → Bool
is_cut buffer = buffer.dropping || nat_lt 0 (length buffer.held)

-- Which of the remaining inputs a call returns. Dropped bytes and a failed read remove no input.
abbrev pub GivesInput : Result InputStep Failed → Inputs → InputBuffer → List ℕ → Type 0
GivesInput (Ok Line) inputs buffer left = inputs ≡ with_input (line buffer.line) (inputs_to_come buffer left)
GivesInput (Ok Long) inputs buffer left = inputs ≡ with_input long (inputs_to_come buffer left)
GivesInput (Ok Dropping) inputs buffer left = inputs ≡ inputs_to_come buffer left
GivesInput (Ok (End cut)) inputs buffer left = inputs ≡ record { whole = []; cut = cut }
GivesInput (Err failed) inputs buffer left = inputs ≡ inputs_to_come buffer left

-- A reader went past these bytes, from its buffer and from what it then read. The rest is in its buffer.
pub record MovesPast (given : List ℕ) (old new : InputBuffer) (before now : Option (List ℕ)) : Type 0 where
  pub bytes : List ℕ
  pub taken : AreTaken bytes before now
  pub kept : old.held ++ bytes ≡ given ++ new.held
  -- the bytes in the buffer and the bytes read are no more than a line and a byte
  pub ahead : length old.held + length bytes ≤ LONGEST_LINE + 1

-- The bytes that a call went past: a line with its line feed; the end of a line whose bytes were dropped; bytes of a
-- line that are too many for a line; or no bytes, because the source ended or failed before a line feed.
abbrev pub MovesInput : Result InputStep Failed → InputBuffer → InputBuffer → Option (List ℕ) → Option (List ℕ) → Type 0
MovesInput (Ok Line) old new before now =
    MovesPast (new.line ++ 10 ∷ []) old new before now × IsLine new.line × (old.dropping ≡ false)
    × (new.dropping ≡ false)
MovesInput (Ok Long) old new before now =
    (part : List ℕ) × MovesPast (part ++ 10 ∷ []) old new before now × Lacks 10 part × (old.dropping ≡ true)
    × (new.dropping ≡ false)
MovesInput (Ok Dropping) old new before now =
    (part : List ℕ) × MovesPast part old new before now × Lacks 10 part × (length part ≡ LONGEST_LINE + 1)
    × (new.dropping ≡ true)
MovesInput (Ok (End cut)) old new before now =
    MovesPast [] old new before now × Lacks 10 new.held × (new.dropping ≡ old.dropping) × (cut ≡ is_cut new)
    × IfSome now (λ rest. rest ≡ [])
MovesInput (Err failed) old new before now =
    MovesPast [] old new before now × Lacks 10 new.held × (new.dropping ≡ old.dropping)
