-- The inputs of a text, and what a reader of inputs returns and buffers.
use Rattle.std.proofs.Common.{◌≡◌, ℕ, ◌+◌, ◌<◌, ◌≤◌, ◌==◌, nat_lt, Bool, true, false, List, [], ◌∷◌, ◌++◌, length, map, take, Option, None, Some, IfSome, Result, Ok, Err, IfOk, refl, ap, sym, ◌∙◌, arith, length-append, append_assoc, append-nil, if◌then◌else◌}
use Rattle.std.specs.List.{AllByRecursion}
use Rattle.std.proofs.lemmas.Bool.{eqb-true}
use Rattle.std.proofs.lemmas.Bool.Decides.{nat_tests}
use Rattle.std.proofs.lemmas.List.{length-take-le}
use Rattle.board_core.specs.declared.source.Failed.{Failed}
use Rattle.ras_script.specs.declared.input.InputStep.{InputStep}
use Rattle.ras_script.specs.declared.input.InputStep.TheVariants.{Line, Long, Dropping, End}
use Rattle.ras_script.specs.declared.reader.TheConstants.{LONGEST_LINE}
use Rattle.ras_script.specs.InputBuffer.{GivesInput, InputBuffer, MovesInput, MovesPast, inputs_to_come, is_cut}
use Rattle.ras_script.specs.Inputs.{Input, input_of, inputs_after, inputs_behind, inputs_in_long, inputs_of, line, long, with_input}
use Rattle.ras_script.specs.SplittingLaws.{Lacks, script_of}
use Rattle.ras_script.specs.Steps.InputSteps.{DropsHeld, GivesLineEnd}
use Rattle.ras_script.specs.Steps.ReaderSteps.{FeedAt, Gains}
use Rattle.ras_script.proofs.FeedLemmas.{not_true}
use Rattle.ras_script.proofs.ReaderLemmas.{taken_more, taken_none}

-- ---- the inputs of a text

-- The first inputs of a text are the inputs of its beginning.
pub begins : (bytes text more : List ℕ) → (rest : List Input)
    × ((inputs_after bytes (text ++ more)).whole ≡ (inputs_after bytes text).whole ++ rest)
begins bytes [] more = ((inputs_after bytes more).whole, refl)
begins bytes (b ∷ text) more = by (b == 10) (begins [] text more) (begins (bytes ++ b ∷ []) text more)
  where
    by : (is : Bool)
        → ((rest : List Input) × ((inputs_after [] (text ++ more)).whole ≡ (inputs_after [] text).whole ++ rest))
        → ((rest : List Input) × ((inputs_after (bytes ++ b ∷ []) (text ++ more)).whole ≡ (inputs_after (bytes ++ b ∷ []) text).whole ++ rest))
        → (rest : List Input)
        × ((if is then with_input (input_of bytes) (inputs_after [] (text ++ more)) else inputs_after (bytes ++ b ∷ []) (text ++ more)).whole
        ≡ (if is then with_input (input_of bytes) (inputs_after [] text) else inputs_after (bytes ++ b ∷ []) text).whole ++ rest)
    by true fresh on = (fresh.0, ap (λ (i : List Input). input_of bytes ∷ i) fresh.1)
    by false fresh on = on

not_feed : (b : ℕ) → ¬ (b ≡ 10) → (b == 10) ≡ false
not_feed b other = not_true (b == 10) (λ is. other (eqb-true b 10 is))

-- Bytes without a line feed are bytes of the line.
after_lacks : (xs bytes more : List ℕ) → Lacks 10 xs → inputs_after bytes (xs ++ more) ≡ inputs_after (bytes ++ xs) more
after_lacks [] bytes more lacks = ap (λ (b : List ℕ). inputs_after b more) (sym (append-nil bytes))
after_lacks (x ∷ xs) bytes more lacks =
    rw (not_feed x lacks.0) (after_lacks xs (bytes ++ x ∷ []) more lacks.1 ∙ ap (λ (b : List ℕ). inputs_after b more) (append_assoc bytes (x ∷ []) xs))

in_long_lacks : (xs more : List ℕ) → Lacks 10 xs → inputs_in_long (xs ++ more) ≡ inputs_in_long more
in_long_lacks [] more lacks = refl
in_long_lacks (x ∷ xs) more lacks = rw (not_feed x lacks.0) (in_long_lacks xs more lacks.1)

input_short : (bytes : List ℕ) → length bytes ≤ LONGEST_LINE → input_of bytes ≡ line bytes
input_short bytes short =
    let is : nat_lt LONGEST_LINE (length bytes) ≡ false = grind (arith, nat_tests) in
    ap (λ b. if b then long else line bytes) is

input_long : (bytes : List ℕ) → LONGEST_LINE < length bytes → input_of bytes ≡ long
input_long bytes more =
    let is : nat_lt LONGEST_LINE (length bytes) ≡ true = grind (arith, nat_tests) in
    ap (λ b. if b then long else line bytes) is

some_bytes : (bytes : List ℕ) → LONGEST_LINE < length bytes → nat_lt 0 (length bytes) ≡ true
some_bytes bytes more = grind (arith, nat_tests)

-- More bytes than a line may have aren't a line.
after_long : (text bytes : List ℕ) → LONGEST_LINE < length bytes → inputs_after bytes text ≡ inputs_in_long text
after_long [] bytes more = ap (λ c. record { whole = []; cut = c }) (some_bytes bytes more)
after_long (b ∷ text) bytes more = by (b == 10) (after_long text (bytes ++ b ∷ []) (omega (arith, length-append bytes (b ∷ []))))
  where
    by : (is : Bool) → inputs_after (bytes ++ b ∷ []) text ≡ inputs_in_long text
        → (if is then with_input (input_of bytes) (inputs_after [] text) else inputs_after (bytes ++ b ∷ []) text)
        ≡ (if is then with_input long (inputs_of text) else inputs_in_long text)
    by true on = ap (λ (i : Input). with_input i (inputs_after [] text)) (input_long bytes more)
    by false on = on

-- ---- a line feed, and bytes without one

feed_of : (bytes more : List ℕ) → Lacks 10 bytes → inputs_of (bytes ++ 10 ∷ more) ≡ with_input (input_of bytes) (inputs_of more)
feed_of bytes more lacks = after_lacks bytes [] (10 ∷ more) lacks

pub behind_line : (bytes more : List ℕ) → Lacks 10 bytes → length bytes ≤ LONGEST_LINE → inputs_behind false (bytes ++ 10 ∷ more) ≡ with_input (line bytes) (inputs_behind false more)
behind_line bytes more lacks short = feed_of bytes more lacks ∙ ap (λ (i : Input). with_input i (inputs_of more)) (input_short bytes short)

pub behind_long : (bytes more : List ℕ) → Lacks 10 bytes → inputs_behind true (bytes ++ 10 ∷ more) ≡ with_input long (inputs_behind false more)
behind_long bytes more lacks = in_long_lacks bytes (10 ∷ more) lacks

pub behind_part : (dropping : Bool) (bytes more : List ℕ) → Lacks 10 bytes → LONGEST_LINE < length bytes → inputs_behind dropping (bytes ++ more) ≡ inputs_behind true more
behind_part true bytes more lacks many = in_long_lacks bytes more lacks
behind_part false bytes more lacks many = after_lacks bytes [] more lacks ∙ after_long more bytes many

pub behind_end : (buffer : InputBuffer) → Lacks 10 buffer.held → inputs_behind buffer.dropping (buffer.held ++ []) ≡ record { whole = []; cut = is_cut buffer }
behind_end buffer lacks = by buffer.dropping
  where
    by : (dropping : Bool) → inputs_behind dropping (buffer.held ++ []) ≡ record { whole = []; cut = is_cut (record buffer { dropping = dropping }) }
    by true = in_long_lacks buffer.held [] lacks
    by false = after_lacks buffer.held [] [] lacks

-- Lines with their line feeds, and bytes after them.
pub lines_and_rest : (lines : List (List ℕ)) (rest : List ℕ) → AllByRecursion (Lacks 10) lines → Lacks 10 rest
    → inputs_of (script_of lines ++ rest) ≡ record { whole = map input_of lines; cut = nat_lt 0 (length rest) }
lines_and_rest [] rest all lacks = ap inputs_of (sym (append-nil rest)) ∙ after_lacks rest [] [] lacks
lines_and_rest (bytes ∷ lines) rest all lacks =
    let text : script_of (bytes ∷ lines) ++ rest ≡ bytes ++ 10 ∷ (script_of lines ++ rest) =
    append_assoc (bytes ++ 10 ∷ []) (script_of lines) rest ∙ append_assoc bytes (10 ∷ []) (script_of lines ++ rest) in
    ap inputs_of text ∙ feed_of bytes (script_of lines ++ rest) all.0
    ∙ ap (with_input (input_of bytes)) (lines_and_rest lines rest all.1 lacks)

-- ---- what a reader comes past

pub gained_count : (result : Result ℕ Failed) (first old new : List ℕ) (before now : Option (List ℕ)) → old ≡ first → IfOk result (λ n. Gains n old new before now) → IfOk result (λ n. length new ≡ length first + n)
gained_count (Ok n) first old new before now same gains =
    ap length gains.held ∙ length-append old gains.bytes ∙ ap (λ k. length old + k) gains.size ∙ ap (λ (held : List ℕ). length held + n) same
gained_count (Err failed) first old new before now same gains = tt

pub past_none : (buffer : InputBuffer) (left : Option (List ℕ)) → length buffer.held ≤ LONGEST_LINE + 1 → MovesPast [] buffer buffer left left
past_none buffer left few = record {
  bytes = [];
  taken = taken_none left;
  kept = append-nil buffer.held;
  ahead = omega arith;
}

pub past_more : (old mid new : InputBuffer) (first before now : Option (List ℕ)) → MovesPast [] old mid first before → MovesPast [] mid new before now → MovesPast [] old new first now
past_more old mid new first before now one two = record {
  bytes = one.bytes ++ two.bytes;
  taken = taken_more one.bytes two.bytes first before now one.taken two.taken;
  kept = sym (append_assoc old.held one.bytes two.bytes) ∙ ap (λ (t : List ℕ). t ++ two.bytes) one.kept ∙ two.kept;
  ahead = omega (arith, two.ahead, ap length one.kept, length-append old.held one.bytes, length-append one.bytes two.bytes);
}

past_given : (given : List ℕ) (old mid new : InputBuffer) (before now : Option (List ℕ)) → MovesPast [] old mid before now → mid.held ≡ given ++ new.held → MovesPast given old new before now
past_given given old mid new before now moves is = record {
  bytes = moves.bytes;
  taken = moves.taken;
  kept = moves.kept ∙ is;
  ahead = moves.ahead;
}

-- The line's end was found.
pub moves_end : (step : InputStep) (place : ℕ) (old mid new : InputBuffer) (before now : Option (List ℕ)) → MovesPast [] old mid before now → mid.dropping ≡ old.dropping → FeedAt place mid.held
    → length mid.held ≤ LONGEST_LINE + 1 → GivesLineEnd step place mid new → MovesInput (Ok step) old new before now
moves_end Line place old mid new before now moves same at few (took, dropping) =
    let size : length (take place mid.held) ≡ place = length-take-le place mid.held (omega (arith, at.inside)) in
    let held : mid.held ≡ (new.line ++ 10 ∷ []) ++ new.held = at.parts ∙ rw (← took.line, ← took.held) (sym (append_assoc new.line (10 ∷ []) new.held)) in (
      past_given (new.line ++ 10 ∷ []) old mid new before now moves held,
      (rw took.line at.before, omega (arith, ap length took.line, size, at.inside)),
      sym same ∙ dropping,
      took.dropping,
    )
moves_end Long place old mid new before now moves same at few (took, dropping) =
    let held : mid.held ≡ (take place mid.held ++ 10 ∷ []) ++ new.held = at.parts ∙ rw (← took.held) (sym (append_assoc (take place mid.held) (10 ∷ []) new.held)) in (
      take place mid.held,
      past_given (take place mid.held ++ 10 ∷ []) old mid new before now moves held,
      at.before,
      sym same ∙ dropping,
      took.dropping,
    )
moves_end Dropping place old mid new before now moves same at few gave = absurd gave
moves_end (End cut) place old mid new before now moves same at few gave = absurd gave

-- The buffer was full, and its bytes were dropped.
pub moves_full : (old mid new : InputBuffer) (before now : Option (List ℕ)) → MovesPast [] old mid before now → Lacks 10 mid.held → length mid.held ≡ LONGEST_LINE + 1 → DropsHeld mid new
    → MovesInput (Ok Dropping) old new before now
moves_full old mid new before now moves lacks full drops = (
  mid.held,
  past_given mid.held old mid new before now moves (sym (ap (λ (t : List ℕ). mid.held ++ t) drops.held ∙ append-nil mid.held)),
  lacks,
  full,
  drops.dropping,
)

-- ---- which inputs it gives

past_text : (given : List ℕ) (old new : InputBuffer) (b n : List ℕ) → MovesPast given old new (Some b) (Some n) → old.held ++ b ≡ given ++ (new.held ++ n)
past_text given old new b n moves =
    ap (λ (t : List ℕ). old.held ++ t) moves.taken ∙ sym (append_assoc old.held moves.bytes n) ∙ ap (λ (t : List ℕ). t ++ n) moves.kept
    ∙ append_assoc given new.held n

-- Nothing was returned.
same_to_come : (old new : InputBuffer) (b n : List ℕ) → MovesPast [] old new (Some b) (Some n) → new.dropping ≡ old.dropping → inputs_to_come old b ≡ inputs_to_come new n
same_to_come old new b n moves same = ap (inputs_behind old.dropping) (past_text [] old new b n moves) ∙ ap (λ d. inputs_behind d (new.held ++ n)) (sym same)

gives_some : (result : Result InputStep Failed) (old new : InputBuffer) (b n : List ℕ) → MovesInput result old new (Some b) (Some n) → GivesInput result (inputs_to_come old b) new n
gives_some (Ok Line) old new b n (moves, is, was, now) =
    ap (λ d. inputs_behind d (old.held ++ b)) was
    ∙ ap (inputs_behind false) (past_text (new.line ++ 10 ∷ []) old new b n moves ∙ append_assoc new.line (10 ∷ []) (new.held ++ n))
    ∙ behind_line new.line (new.held ++ n) is.0 is.1
    ∙ ap (λ d. with_input (line new.line) (inputs_behind d (new.held ++ n))) (sym now)
gives_some (Ok Long) old new b n (part, moves, lacks, was, now) =
    ap (λ d. inputs_behind d (old.held ++ b)) was
    ∙ ap (inputs_behind true) (past_text (part ++ 10 ∷ []) old new b n moves ∙ append_assoc part (10 ∷ []) (new.held ++ n))
    ∙ behind_long part (new.held ++ n) lacks
    ∙ ap (λ d. with_input long (inputs_behind d (new.held ++ n))) (sym now)
gives_some (Ok Dropping) old new b n (part, moves, lacks, full, now) =
    ap (inputs_behind old.dropping) (past_text part old new b n moves)
    ∙ behind_part old.dropping part (new.held ++ n) lacks (omega (arith, full))
    ∙ ap (λ d. inputs_behind d (new.held ++ n)) (sym now)
gives_some (Ok (End cut)) old new b n (moves, lacks, same, is, none) =
    same_to_come old new b n moves same ∙ ap (λ (t : List ℕ). inputs_behind new.dropping (new.held ++ t)) none
    ∙ behind_end new lacks ∙ ap (λ c. record { whole = []; cut = c }) (sym is)
gives_some (Err failed) old new b n (moves, lacks, same) = same_to_come old new b n moves same

pub gives_input : (result : Result InputStep Failed) (old new : InputBuffer) (before now : Option (List ℕ)) → MovesInput result old new before now
    → IfSome before (λ b. IfSome now (λ n. GivesInput result (inputs_to_come old b) new n))
gives_input result old new None now moves = tt
gives_input result old new (Some b) None moves = tt
gives_input result old new (Some b) (Some n) moves = gives_some result old new b n moves
