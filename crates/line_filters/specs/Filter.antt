-- What a filter prints for lines.
use Rattle.std.specs.Prelude.{◌≡◌, ℕ, List, ◌∷◌, [], ◌++◌, Result, Ok, Err, ⊤}
use Rattle.ras_script.specs.declared.line.LineRefused.{LineRefused}
use Rattle.ras_script.specs.declared.line.LineRefused.TheVariants.{NoMemory}

-- What a filter prints for its next lines: the text of each, up to the first line that it rejects; the text after all
-- lines that it took, however they end; and the text that follows at their end.
pub record Filter : Type 0 where
  pub answers : List (List ℕ) → List (Result (List ℕ) LineRefused)
  pub rest : List (List ℕ) → List ℕ
  pub last : List (List ℕ) → List ℕ

-- A line was taken, and its text appended: the filter goes on with the lines after it.
pub record Took (line : List ℕ) (before after : Filter) (old new : List ℕ) : Type 0 where
  pub text : List ℕ
  pub out : new ≡ old ++ text
  pub answers :
      (lines : List (List ℕ)) → before.answers (line ∷ lines) ≡ Ok text ∷ after.answers lines
  pub rest : (lines : List (List ℕ)) → before.rest (line ∷ lines) ≡ after.rest lines
  pub last : (lines : List (List ℕ)) → before.last (line ∷ lines) ≡ after.last lines

-- A rejected line ends the answers, and changes nothing. Says nothing if memory runs out.
abbrev pub TakesInto :
    Result (Unit {0}) LineRefused → List ℕ → Filter → Filter → List ℕ → List ℕ → Type 0
TakesInto (Ok done) line before after old new = Took line before after old new
TakesInto (Err NoMemory) line before after old new = ⊤
TakesInto (Err why) line before after old new =
    ((lines : List (List ℕ)) → before.answers (line ∷ lines) ≡ Err why ∷ []) × (after ≡ before)
