-- What a reader took of a script, call by call, and which lines it returned.
use Rattle.std.proofs.Common.{◌≡◌, ℕ, ◌+◌, ◌≤◌, ◌==◌, Bool, true, false, List, [], ◌∷◌, ◌++◌, length, filter, Option, None, Some, IfSome, IsSomeAnd, Result, Ok, Err, refl, ap, sym, ◌∙◌, append_assoc, append-nil, length-append, arith, inl, inr}
use Rattle.std.proofs.lemmas.Bool.Decides.{nat_tests}
use Rattle.std.proofs.lemmas.Grind.{flat_map-append}
use Rattle.std.proofs.lemmas.List.Elements.{filter-append}
use Rattle.ras_script.specs.declared.reader.TheConstants.{LONGEST_SCRIPT}
use Rattle.ras_script.specs.Lines.{with_line}
use Rattle.ras_script.specs.Reader.{IsLine, Moves, MovesLine, Reader, given_count, lines_to_come}
use Rattle.ras_script.specs.SplittingLaws.{Lacks, script_of}
use Rattle.ras_exit.specs.declared.exit.Exit.{Exit}
use Rattle.ras_exit.specs.declared.exit.Exit.TheVariants.{Done}
use Rattle.line_filters.specs.Filters.{TakesOf, line_feeds}
use Rattle.line_filters.specs.Numbered.{Numbered, no_lines}
use Rattle.line_filters.specs.Steps.Reading.{HasGiven, HasTaken, with_lines}

pub if_known : {T : Type 0} (o : Option T) (P : T → Type 0) → ((x : T) → o ≡ Some x → P x) → IfSome o P
if_known None P holds = tt
if_known (Some x) P holds = holds x refl

-- ---- line feeds

feeds-append : (one two : List ℕ) → line_feeds (one ++ two) ≡ line_feeds one + line_feeds two
feeds-append one two = ap length (filter-append (λ byte. byte == 10) one two) ∙ length-append (filter (λ byte. byte == 10) one) (filter (λ byte. byte == 10) two)

pub no_feeds : (text : List ℕ) → Lacks 10 text → line_feeds text ≡ 0
no_feeds [] lacks = refl
no_feeds (byte ∷ text) lacks =
    let other : (byte == 10) ≡ false = grind (arith, nat_tests, lacks.0) in
    rw other (no_feeds text lacks.1)

-- ---- what was taken

abbrev pub takes_on : (given script : List ℕ) (old new : Reader) (left rest : List ℕ) → Moves given old new (Some left) (Some rest) → HasTaken script old left → HasTaken script new rest
takes_on given script old new left rest moved has = record {
  taken = has.taken ++ moved.bytes;
  splits = append_assoc has.taken moved.bytes rest ∙ ap (λ bytes. has.taken ++ bytes) (sym moved.taken) ∙ has.splits;
  count = length-append has.taken moved.bytes ∙ ap (λ n. n + length moved.bytes) has.count ∙ sym moved.count;
}

moves_of : (result : Result Bool Exit) (old new : Reader) (before now : Option (List ℕ)) → MovesLine result old new before now → (given : List ℕ) × Moves given old new before now
moves_of (Ok true) old new before now (inl moved) = (new.line ++ 10 ∷ [], moved)
moves_of (Ok true) old new before now (inr moved) = (new.line, moved.0)
moves_of (Ok false) old new before now moved = ([], moved.0)
moves_of (Err why) old new before now moved = ([], moved)

-- a modelled source stays modelled
pub takes_more : (result : Result Bool Exit) (script : List ℕ) (old new : Reader) (before now : Option (List ℕ)) → MovesLine result old new before now → IsSomeAnd before (HasTaken script old) → IsSomeAnd now (HasTaken script new)
takes_more result script old new None now moves has = absurd has
takes_more result script old new (Some left) None moves has = absurd ((moves_of result old new (Some left) None moves).1.taken)
takes_more result script old new (Some left) (Some rest) moves has =
    let moved = moves_of result old new (Some left) (Some rest) moves in
    takes_on moved.0 script old new left rest moved.1 has

pub takes_none : (script : List ℕ) (reader : Reader) (left : Option (List ℕ)) → reader ≡ no_lines.reader → left ≡ Some script → IsSomeAnd left (HasTaken script reader)
takes_none script reader left fresh is = rw (is, fresh) (record { taken = []; splits = refl; count = refl })

-- what a call took of its source, by its reader's counts
pub takes_of : (exit : Exit) (script : List ℕ) (reader : Reader) (left : Option (List ℕ)) → reader.taken ≤ LONGEST_SCRIPT + 1 → (exit ≡ Done → IfSome left (λ rest. rest ≡ [])) → IsSomeAnd left (HasTaken script reader) → IsSomeAnd left (TakesOf exit script)
takes_of exit script reader None few all has = absurd has
takes_of exit script reader (Some rest) few all has = record {
  taken = has.taken;
  splits = has.splits;
  few = (let count = has.count in omega arith);
  all = all;
}

-- ---- how much was given

given_by : (given : List ℕ) (old new : Reader) (before now : Option (List ℕ)) → Moves given old new before now → given_count new ≤ given_count old + length given
given_by given old new before now moved =
    let kept : length old.held + length moved.bytes ≡ length given + length new.held = sym (length-append old.held moved.bytes) ∙ ap length moved.kept ∙ length-append given new.held in
    let count = moved.count in
    omega arith

-- a call that returns no line changes no count
pub given_same : (old new : Reader) (before now : Option (List ℕ)) → Moves [] old new before now → given_count new ≡ given_count old
given_same old new before now moved =
    let kept : length old.held + length moved.bytes ≡ length new.held = sym (length-append old.held moved.bytes) ∙ ap length moved.kept in
    let count = moved.count in
    omega arith

-- ---- a line is given

size-snoc : (done : List (List ℕ)) (line : List ℕ) → length (script_of (done ++ line ∷ [])) ≡ length (script_of done) + (length line + 1)
size-snoc done line =
    ap length (flat_map-append (λ l. l ++ 10 ∷ []) done (line ∷ []))
    ∙ length-append (script_of done) ((line ++ 10 ∷ []) ++ [])
    ∙ ap (λ bytes. length (script_of done) + length bytes) (append-nil (line ++ 10 ∷ []))
    ∙ ap (λ n. length (script_of done) + n) (length-append line (10 ∷ []))

module _ (script : List ℕ) (lines new : Numbered) (left rest : List ℕ) (done : List (List ℕ)) (has : HasGiven script lines left done) (given : List ℕ) (moved : Moves given lines.reader new.reader (Some left) (Some rest)) where
  feeds_moved : line_feeds (has.took.taken ++ moved.bytes) ≤ length done + (line_feeds given + line_feeds new.reader.held)
  feeds_moved =
      let one : line_feeds (has.took.taken ++ moved.bytes) ≡ line_feeds has.took.taken + line_feeds moved.bytes = feeds-append has.took.taken moved.bytes in
      let two : line_feeds lines.reader.held + line_feeds moved.bytes ≡ line_feeds given + line_feeds new.reader.held =
      sym (feeds-append lines.reader.held moved.bytes) ∙ ap line_feeds moved.kept ∙ feeds-append given new.reader.held in
      let few = has.feeds in
      omega arith

  given_so : length given ≤ length new.reader.line + 1 → line_feeds given ≤ 1 → new.number ≡ lines.number + 1 → lines_to_come lines.reader left ≡ with_line new.reader.line (lines_to_come new.reader rest)
      → HasGiven script new rest (done ++ new.reader.line ∷ [])
  given_so short one number come = record {
    took = takes_on given script lines.reader new.reader left rest moved has.took;
    number = number ∙ ap (λ n. n + 1) has.number ∙ sym (length-append done (new.reader.line ∷ []));
    come =
        has.come ∙ ap (with_lines done) come
        ∙ ap (λ (whole : List (List ℕ)). record { whole = whole; ending = (lines_to_come new.reader rest).ending }) (sym (append_assoc done (new.reader.line ∷ []) (lines_to_come new.reader rest).whole));
    known = (let more = given_by given lines.reader new.reader (Some left) (Some rest) moved in let known = has.known in let size = size-snoc done new.reader.line in omega arith);
    feeds =
        (let few = feeds_moved in
        let more : length (done ++ new.reader.line ∷ []) ≡ length done + 1 = length-append done (new.reader.line ∷ []) in
        let all : line_feeds (has.took.taken ++ moved.bytes) ≤ length (done ++ new.reader.line ∷ []) + line_feeds new.reader.held = omega arith in
        all);
  }

pub given_on : (script : List ℕ) (lines new : Numbered) (left rest : List ℕ) (done : List (List ℕ)) → HasGiven script lines left done → MovesLine {E = Exit} (Ok true) lines.reader new.reader (Some left) (Some rest) → IsLine new.reader.line
    → new.number ≡ lines.number + 1 → lines_to_come lines.reader left ≡ with_line new.reader.line (lines_to_come new.reader rest) → HasGiven script new rest (done ++ new.reader.line ∷ [])
given_on script lines new left rest done has (inl moved) line number come =
    given_so script lines new left rest done has (new.reader.line ++ 10 ∷ []) moved (let size = length-append new.reader.line (10 ∷ []) in omega arith)
    (let feeds : line_feeds (new.reader.line ++ 10 ∷ []) ≡ line_feeds new.reader.line + 1 = feeds-append new.reader.line (10 ∷ []) in let none = no_feeds new.reader.line line.0 in omega arith) number come
given_on script lines new left rest done has (inr moved) line number come =
    given_so script lines new left rest done has new.reader.line moved.0 (omega arith) (let none = no_feeds new.reader.line line.0 in omega arith) number come

-- If no line is returned and the buffer has no line feed, each line feed that was taken belongs to a line that was
-- returned.
pub feeds_given : (script : List ℕ) (lines new : Numbered) (left rest : List ℕ) (done : List (List ℕ)) (has : HasGiven script lines left done) (moved : Moves [] lines.reader new.reader (Some left) (Some rest)) → Lacks 10 new.reader.held
    → line_feeds (takes_on [] script lines.reader new.reader left rest moved has.took).taken ≤ length done
feeds_given script lines new left rest done has moved lacks =
    let few = feeds_moved script lines new left rest done has [] moved in
    let none = no_feeds new.reader.held lacks in
    let empty : line_feeds [] ≡ 0 = refl in
    let all : line_feeds (has.took.taken ++ moved.bytes) ≤ length done = omega arith in
    all
