-- The lines of an input of any length.
use Rattle.std.specs.Prelude.{ℕ, ◌==◌, Bool, true, List, [], ◌∷◌, ◌++◌, length, nat_lt, if◌then◌else◌}
use Rattle.ras_script.specs.declared.reader.TheConstants.{LONGEST_LINE}

-- A line, or a line that is longer than a line may be, whose bytes are dropped.
pub data Input : Type 0 where
  line : List ℕ → Input
  long : Input

-- The lines of an input that end with a line feed, in order, and whether there are bytes after the last line feed:
-- they aren't a line, and never become one.
pub record Inputs : Type 0 where
  pub whole : List Input
  pub cut : Bool

-- the input of a line with these bytes
abbrev pub input_of : List ℕ → Input
input_of bytes = if nat_lt LONGEST_LINE (length bytes) then long else line bytes

-- an input before others
abbrev pub with_input : Input → Inputs → Inputs
with_input input inputs = record inputs { whole = input ∷ inputs.whole }

-- the inputs of a text that follows these bytes of a line
abbrev pub inputs_after : List ℕ → List ℕ → Inputs
inputs_after bytes [] = record { whole = []; cut = nat_lt 0 (length bytes) }
inputs_after bytes (b ∷ text) =
    if b == 10 then with_input (input_of bytes) (inputs_after [] text) else inputs_after (bytes ++ b ∷ []) text

-- the inputs of a text
abbrev pub inputs_of : List ℕ → Inputs
inputs_of text = inputs_after [] text

-- the inputs of a text that follows bytes of a line that is too long already
abbrev pub inputs_in_long : List ℕ → Inputs
inputs_in_long [] = record { whole = []; cut = true }
inputs_in_long (b ∷ text) = if b == 10 then with_input long (inputs_of text) else inputs_in_long text

-- the inputs of a text, by whether bytes of a line that is too long were dropped before it
abbrev pub inputs_behind : Bool → List ℕ → Inputs
inputs_behind dropping text = if dropping then inputs_in_long text else inputs_of text
