-- The steps of a reader of lines.
use Rattle.std.specs.Prelude.{◌≡◌, ℕ, ◌+◌, ◌<◌, ◌≤◌, Bool, true, List, [], ◌∷◌, ◌++◌, length, take, drop, Option, None, Some, IfSome, Result, Ok, Err}
use Rattle.ras_script.specs.declared.reader.TheConstants.{LONGEST_SCRIPT, LONGEST_LINE}
use Rattle.ras_script.specs.declared.reader.NextRefused.{NextRefused}
use Rattle.ras_script.specs.declared.reader.NextRefused.TheVariants.{Source, LineTooLong, TooLong}
use Rattle.ras_script.specs.Reader.{Reader, AreTaken, given_count}
use Rattle.ras_script.specs.SplittingLaws.{Lacks}

-- The first line feed of a text is at this index.
pub record FeedAt (place : ℕ) (text : List ℕ) : Type 0 where
  pub before : Lacks 10 (take place text)
  pub inside : place < length text
  pub parts : text ≡ take place text ++ 10 ∷ drop (place + 1) text

-- `count` more bytes are in the buffer, which were read from a source; 0 only at the source's end.
pub record Gains (count : ℕ) (old new : List ℕ) (before now : Option (List ℕ)) : Type 0 where
  pub bytes : List ℕ
  pub size : length bytes ≡ count
  pub held : new ≡ old ++ bytes
  pub taken : AreTaken bytes before now
  pub ends : count ≡ 0 → IfSome before (λ left. left ≡ [])

-- The bytes in a reader's buffer fit the buffer, and are no more than it read and than it may read.
pub record IsHeld (reader : Reader) : Type 0 where
  pub buffer : length reader.held ≤ LONGEST_LINE + 1
  pub known : length reader.held ≤ reader.taken
  pub few : reader.taken ≤ LONGEST_SCRIPT + 1
  pub allowed : reader.taken ≤ LONGEST_SCRIPT + length reader.held

-- what a search for the next line's end finds, if the source has these bytes left
abbrev pub Finds : Result (Option ℕ) NextRefused → Reader → Option (List ℕ) → Type 0
Finds (Ok (Some place)) reader left = FeedAt place reader.held
Finds (Ok None) reader left =
    Lacks 10 reader.held × (length reader.held ≤ LONGEST_LINE) × (reader.taken ≤ LONGEST_SCRIPT)
    × IfSome left (λ rest. rest ≡ [])
Finds (Err LineTooLong) reader left = Lacks 10 reader.held × (LONGEST_LINE < length reader.held)
Finds (Err TooLong) reader left =
    Lacks 10 reader.held × (length reader.held ≤ LONGEST_LINE) × (reader.taken ≡ LONGEST_SCRIPT + 1)
Finds (Err Source) reader left = Lacks 10 reader.held

-- The bytes before a line feed at this index were returned as a line, with the line feed.
pub record Gave (place : ℕ) (old new : Reader) : Type 0 where
  pub line : new.line ≡ take place old.held
  pub held : new.held ≡ drop (place + 1) old.held
  pub taken : new.taken ≡ old.taken
  pub within : given_count old + place < LONGEST_SCRIPT

-- They were returned, or the line feed is past the longest script.
abbrev pub GivesLine : Result Bool NextRefused → ℕ → Reader → Reader → Type 0
GivesLine (Ok true) place old new = Gave place old new
GivesLine (Err TooLong) place old new = (new ≡ old) × (LONGEST_SCRIPT ≤ given_count old + place)
GivesLine result place old new = ⊥
