-- What a line of a script asks for, or why it is rejected.
use Rattle.std.specs.Prelude.{◌≡◌, ℕ, ◌==◌, Bool, true, false, List, [], ◌∷◌, codes, Result, Ok, Err, ⊤, if◌then◌else◌, slice_index}
use Rattle.std.specs.Str.{bytes_eq}
use Rattle.ras_script.specs.declared.line.Line.{Line}
use Rattle.ras_script.specs.declared.line.Line.TheVariants.{Nothing}
use Rattle.ras_script.specs.declared.line.LineRefused.{LineRefused}
use Rattle.ras_script.specs.declared.line.LineRefused.TheVariants.{Kind, NoMemory}
use Rattle.ras_script.specs.Kinds.{Reading, bank_asks, cpu_asks, module_asks, range_asks, place_asks, limit_asks, module_limit_asks, hest_asks, erst_asks, bert_asks, ghes_asks, put_asks, poll_asks, retire_asks, panic_asks, restart_asks}
use Rattle.ras_script.specs.Splitting.{words_of}

-- what a kind's name and the words after it ask for, by the first reading of that name
abbrev pub line_named : List (List ℕ × Reading) → List ℕ → List (List ℕ) → Result Line LineRefused
line_named [] kind words = Err Kind
line_named (reading ∷ readings) kind words =
    if bytes_eq kind reading.0 then reading.1 words else line_named readings kind words

-- the kinds of lines, each with what its other words ask for
abbrev pub kinds : List (List ℕ × Reading)
kinds =
    (codes "bank", bank_asks) ∷ (codes "cpu", cpu_asks) ∷ (codes "module", module_asks)
    ∷ (codes "range", range_asks) ∷ (codes "place", place_asks) ∷ (codes "limit", limit_asks)
    ∷ (codes "module-limit", module_limit_asks) ∷ (codes "hest", hest_asks)
    ∷ (codes "erst", erst_asks) ∷ (codes "bert", bert_asks) ∷ (codes "ghes", ghes_asks)
    ∷ (codes "put", put_asks) ∷ (codes "poll", poll_asks) ∷ (codes "retire", retire_asks)
    ∷ (codes "panic", panic_asks) ∷ (codes "restart", restart_asks) ∷ []

-- A line without words asks for nothing, and so does a comment, whose first word begins with `#`.
-- Every other line is an event, whose kind its first word names.
abbrev pub line_of_words : List (List ℕ) → Result Line LineRefused
line_of_words [] = Ok Nothing
line_of_words (kind ∷ words) =
    if slice_index kind 0 == 35 then Ok Nothing else line_named kinds kind words

-- what a line asks for, by its bytes without the line feed
abbrev pub line_of : List ℕ → Result Line LineRefused
line_of bytes = line_of_words (words_of bytes)

-- Whether a line asks for something: every line except empty lines and comments, also a rejected line.
abbrev pub is_asking : Result Line LineRefused → Bool
is_asking (Ok Nothing) = false
is_asking read = true

-- The value that was read is what a line asks for, unless memory ran out.
abbrev pub GivesLine : {A : Type 0} → Result A LineRefused → Result A LineRefused → Type 0
GivesLine (Err NoMemory) line = ⊤
GivesLine read line = line ≡ read

-- A reader of these bytes returned what the line asks for, or ran out of memory.
abbrev pub ReadsLine : Result Line LineRefused → List ℕ → Type 0
ReadsLine read bytes = GivesLine read (line_of bytes)
