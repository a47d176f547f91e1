-- The steps of a filter's call.
use Rattle.std.specs.Prelude.{◌≡◌, ℕ, ◌⊎◌, Bool, true, false, List, [], ◌∷◌, ◌++◌, map, IsSomeAnd, Option, Result, Ok, Err, ⊤}
use Rattle.std.specs.List.{flat_map}
use Rattle.board_core.specs.Clock.{Adds, Clock, Leads, Passes}
use Rattle.board_core.specs.Doing.{Seen}
use Rattle.board_core.specs.Stop.{Appends, Begins, InOut}
use Rattle.board_core.specs.Told.{FailsPrint, Relates, Steps, Told, after_print}
use Rattle.ras_base.specs.Prefix.{IsPrefixOf}
use Rattle.ras_script.specs.declared.line.LineRefused.{LineRefused}
use Rattle.ras_script.specs.Reader.{Reader, lines_to_come}
use Rattle.ras_exit.specs.declared.exit.Exit.{Exit}
use Rattle.ras_exit.specs.declared.exit.Exit.TheVariants.{BadLine, PrintFault, NoMemory, SourceFault}
use Rattle.ras_exit.specs.Endings.{IsAnswer, IsCut, OnAnswer, unread_exit}
use Rattle.ras_exit.specs.Telling.{PrintMoment}
use Rattle.line_filters.specs.Filter.{Filter, Took}
use Rattle.line_filters.specs.Filters.{PrintsOn, closing_text, exit_among, filter_exit, filter_output, output_among}
use Rattle.line_filters.specs.Numbered.{Numbered}
use Rattle.line_filters.specs.Steps.Reading.{HasGiven, HasTaken}

-- ---- a text

-- A text was printed.
pub record Printed {X : Type 0} (see : X → Seen) (text : List ℕ) (old new : X) : Type 0 where
  pub told : Steps (after_print text) (see old).told (see new).told
  pub stops : Passes (InOut (Begins text)) (see old).clock (see new).clock
  pub leads : Leads (InOut (Appends text)) (see old).clock (see new).clock

-- Printing a text failed.
pub record Unprinted {X : Type 0} (see : X → Seen) (text : List ℕ) (old new : X) : Type 0 where
  pub told : Relates (FailsPrint text) (see old).told (see new).told
  pub stops : Passes (InOut (Begins text)) (see old).clock (see new).clock

-- ---- a line

-- A line ends a call: the line is rejected, or memory runs out.
abbrev pub StopsAt : Exit → ℕ → List ℕ → Filter → Filter → Type 0
StopsAt exit number line before after =
    ((why : LineRefused) × (exit ≡ unread_exit number why) × ((lines : List (List ℕ)) → before.answers (line ∷ lines) ≡ Err why ∷ []) × (after ≡ before))
    ⊎ (exit ≡ NoMemory)

-- A line was taken and its text waits after others; or the call ends at the line, and no other text waits.
abbrev pub TakesLine : Result (Unit {0}) Exit → ℕ → List ℕ → Filter → Filter → List ℕ → List ℕ → Type 0
TakesLine (Ok done) number line before after old new = Took line before after old new
TakesLine (Err exit) number line before after old new = StopsAt exit number line before after × (new ≡ old)

-- how a call may end at a line that was read
abbrev pub IsTakeExit : Exit → Type 0
IsTakeExit (BadLine line reason) = ⊤
IsTakeExit NoMemory = ⊤
IsTakeExit exit = ⊥

-- The waiting texts were printed; or no text waits, or the source isn't read yet; or printing them failed.
abbrev pub PrintsWaiting : {X : Type 0} → (X → Seen) → Result (Unit {0}) Exit → Type 0 → List ℕ → List ℕ → X → X → Type 0
PrintsWaiting see (Ok done) Held text rest old new =
    ((rest ≡ []) × Printed see text old new) ⊎ ((rest ≡ text) × (new ≡ old) × ((text ≡ []) ⊎ Held))
PrintsWaiting see (Err exit) Held text rest old new = (exit ≡ PrintFault) × Unprinted see text old new

-- ---- the last text

abbrev pub Says : {X : Type 0} → (X → Seen) → Exit → Exit → List ℕ → X → X → Type 0
Says see exit result text old new =
    ((result ≡ exit) × Printed see text old new)
    ⊎ (((result ≡ PrintFault) × Unprinted see text old new)
    ⊎ ((result ≡ NoMemory) × (new ≡ old)))

abbrev pub Ends : {X : Type 0} → (X → Seen) → Exit → Exit → List ℕ → X → X → Type 0
Ends see exit result text old new =
    (IsAnswer exit × Says see exit result text old new) ⊎ (IsCut exit × (result ≡ exit) × (new ≡ old))

-- ---- how far the lines were taken

-- Of a text, this part was printed, and this part after it waits. A crash now leaves what a crash before the call
-- might have left, with all that was printed.
pub record Said (text : List ℕ) (before : Told) (old : Clock) (printed waiting : List ℕ) (now : Told) (new : Clock) : Type 0 where
  pub is : now ≡ after_print printed before
  pub begins : IsPrefixOf (printed ++ waiting) text
  pub stops : Adds (PrintMoment old text) old new
  pub leads : Leads (InOut (Appends printed)) old new

-- Lines were taken. What the call prints, and how it ends, is what these lines give, some of which waits, and what
-- the lines to come give.
pub record Along (whole : Filter) (script : List ℕ) (before : Told) (old : Clock) (lines : Numbered) (filter : Filter) (waiting left : List ℕ) (now : Told) (new : Clock) : Type 0 where
  pub done : List (List ℕ)
  pub given : HasGiven script lines left done
  pub printed : List ℕ
  pub said : Said (filter_output whole script) before old printed waiting now new
  pub exit : filter_exit whole script ≡ exit_among lines.number filter (lines_to_come lines.reader left)
  pub output : filter_output whole script ≡ (printed ++ waiting) ++ output_among lines.number filter (lines_to_come lines.reader left)
  pub texts : List (List ℕ)
  pub made : (more : List (List ℕ)) → whole.answers (done ++ more) ≡ map Ok texts ++ filter.answers more
  pub all : flat_map (λ text. text) texts ≡ printed ++ waiting
  pub ahead : PrintsOn ⊥ whole script given.took.taken printed

-- The lines ended in this way, with this filter, and texts wait.
pub record Waits (whole : Filter) (script : List ℕ) (before : Told) (old : Clock) (exit : Exit) (filter : Filter) (waiting : List ℕ) (reader : Reader) (left : List ℕ) (now : Told) (new : Clock) : Type 0 where
  pub printed : List ℕ
  pub said : Said (filter_output whole script) before old printed waiting now new
  pub took : HasTaken script reader left
  pub ahead : PrintsOn (exit ≡ SourceFault) whole script took.taken printed
  pub answers : OnAnswer exit ((exit ≡ filter_exit whole script) × (filter_output whole script ≡ (printed ++ waiting) ++ closing_text filter [] exit))

-- The lines ended, and no text waits.
pub record LinesEnd (whole : Filter) (script : List ℕ) (before : Told) (old : Clock) (exit : Exit) (filter : Filter) (reader : Reader) (left : List ℕ) (now : Told) (new : Clock) : Type 0 where
  pub printed : List ℕ
  pub is : now ≡ after_print printed before
  pub begins : IsPrefixOf printed (filter_output whole script)
  pub took : HasTaken script reader left
  pub ahead : PrintsOn (exit ≡ SourceFault) whole script took.taken printed
  pub stops : Adds (PrintMoment old (filter_output whole script)) old new
  pub answers : OnAnswer exit ((exit ≡ filter_exit whole script) × (filter_output whole script ≡ printed ++ closing_text filter [] exit) × Leads (InOut (Appends printed)) old new)

-- the lines ended: texts wait, or printing failed
abbrev pub Gathers : Filter → List ℕ → Told → Clock → Exit → Filter → List ℕ → Reader → List ℕ → Told → Clock → Type 0
Gathers whole script before old exit filter waiting reader left now new =
    Waits whole script before old exit filter waiting reader left now new
    ⊎ ((exit ≡ PrintFault) × LinesEnd whole script before old exit filter reader left now new)

-- Source and board are modelled at the end, and the lines ended in this way.
abbrev pub GathersBoth : Filter → List ℕ → Told → Clock → Exit → Filter → List ℕ → Reader → Option (List ℕ) → Option Told → Clock → Type 0
GathersBoth whole script before old exit filter waiting reader left told new =
    IsSomeAnd left (λ rest. IsSomeAnd told (λ now. Gathers whole script before old exit filter waiting reader rest now new))

abbrev pub EndsBoth : Filter → List ℕ → Told → Clock → Exit → Filter → Reader → Option (List ℕ) → Option Told → Clock → Type 0
EndsBoth whole script before old exit filter reader left told new =
    IsSomeAnd left (λ rest. IsSomeAnd told (λ now. LinesEnd whole script before old exit filter reader rest now new))

-- whether a call of the source or the board failed; then no other call follows
abbrev pub has_failed : Exit → Bool
has_failed SourceFault = true
has_failed PrintFault = true
has_failed exit = false
