-- How far the source was read when a run ends among its lines.
use Rattle.std.proofs.Common.{◌≡◌, ℕ, ◌+◌, ◌-◌, true, List, [], ◌∷◌, ◌++◌, length, Option, Some, IsSomeAnd, Ok, refl, ap, sym, ◌∙◌, subst, append_assoc, append-nil, length-append, arith, inl, inr, ◌<◌, ◌≤◌, Bool, false, Result, Err, ◌==◌}
use Rattle.std.specs.Prelude.{◌⊎◌}
use Rattle.board_core.specs.Doing.{after_acts}
use Rattle.board_core.specs.Told.{Told}
use Rattle.ras_events.specs.Described.{NumberedLine}
use Rattle.ras_run.specs.Sites.{Start, first_site}
use Rattle.ras_run.specs.Places.{places_from}
use Rattle.ras_daemon.specs.Script.{reads_in, reads_of}
use Rattle.std.specs.List.{AllByRecursion, slice_split}
use Rattle.ras_script.specs.Line.{line_of}
use Rattle.ras_script.specs.Lines.{without_last}
use Rattle.ras_script.proofs.LineAndWordLemmas.{lines_unbroken, some_part, split_between, split_lacking}
use Rattle.ras_events.specs.DoneLines.{ended_lines}
use Rattle.ras_daemon.specs.Ahead.{events_in, is_event_line}
use Rattle.ras_script.specs.Reader.{IsLine, Moves, MovesLine, Reader, given_count}
use Rattle.ras_script.specs.declared.reader.TheConstants.{LONGEST_LINE}
use Rattle.ras_script.specs.Splitting.{lines_of, without_empty_last}
use Rattle.ras_script.specs.SplittingLaws.{Lacks, script_of}
use Rattle.ras_exit.specs.declared.exit.Exit.{Exit}
use Rattle.ras_exit.specs.declared.exit.Exit.TheVariants.{Done, SourceFault}
use Rattle.ras_run.specs.declared.run.Run.{Run}
use Rattle.ras_exit.specs.Endings.{IsStop}
use Rattle.line_filters.specs.Numbered.{IsNextExit}
use Rattle.ras_daemon.specs.Steps.Running.{EndsAhead, ReadAhead, first_size, outputs}
use Rattle.ras_daemon.proofs.AlongActLemmas.{acts_along, along_prints}
use Rattle.ras_daemon.proofs.GrowLemmas.{Grows}
use Rattle.ras_daemon.proofs.ListLemmas.{all-front}
use Rattle.ras_daemon.proofs.LinesLemmas.{Taking, given_here, lines_first, some_more, taken_tells}

-- ---- lines that were taken with their line feeds

without_first : {X : Type 0} (x : X) (xs : List X) → 0 < length xs → without_last (x ∷ xs) ≡ x ∷ without_last xs
without_first x [] some = absurd (omega arith)
without_first x (y ∷ ys) some = refl

ended_done : (done : List (List ℕ)) (held : List ℕ) → AllByRecursion (Lacks 10) done → Lacks 10 held → ended_lines (script_of done ++ held) ≡ done
ended_done [] held all lacks = ap without_last (split_lacking 10 held lacks)
ended_done (line ∷ done) held all lacks =
    let more : List ℕ = script_of done ++ held in
    let parts : List (List ℕ) = slice_split (λ b. b == 10) more in
    ap ended_lines (append_assoc (line ++ 10 ∷ []) (script_of done) held ∙ append_assoc line (10 ∷ []) more)
    ∙ ap without_last (split_between 10 line more ∙ ap (λ (front : List (List ℕ)). front ++ parts) (split_lacking 10 line all.0))
    ∙ without_first line parts (some_part (λ b. b == 10) more)
    ∙ ap (λ lines. line ∷ lines) (ended_done done held all.1 lacks)

ended_few : (parts : List (List ℕ)) → events_in (without_last parts) ≤ events_in (without_empty_last parts)
ended_few [] = omega arith
ended_few (part ∷ []) = omega arith
ended_few (part ∷ next ∷ parts) = by (is_event_line part) refl (ended_few (next ∷ parts))
  where
    by : (t : Bool) → is_event_line part ≡ t → events_in (without_last (next ∷ parts)) ≤ events_in (without_empty_last (next ∷ parts))
        → events_in (without_last (part ∷ next ∷ parts)) ≤ events_in (without_empty_last (part ∷ next ∷ parts))
    by true is few = rw is (omega arith)
    by false is few = rw is few

both_nil : (xs ys : List ℕ) → [] ≡ xs ++ ys → ys ≡ []
both_nil [] ys is = sym is
both_nil (x ∷ xs) ys is = absurd cc

-- What was taken of a script if the reader's buffer has no line feed.
abbrev pub Taken : Type 0 → List ℕ → List ℕ → List (List ℕ) → Type 0
Taken Fault script left done = (taken : List ℕ) × (taken ++ left ≡ script) × (Fault → events_in (ended_lines taken) ≤ events_in done)

taken_none : (Fault : Type 0) (start : Start) (script : List ℕ) (t : Told) (number : ℕ) (reader new : Reader) (left : Option (List ℕ)) (run : Run)
    (taking : Taking start script t number reader left run) (rest : List ℕ) → Moves [] reader new (Some taking.now) (Some rest) → (Fault → Lacks 10 new.held) → Taken Fault script rest taking.done
taken_none Fault start script t number reader new left run taking rest went lacks = by taking.kept
  where
    by : (script ≡ script_of taking.done ++ (reader.held ++ taking.now)) ⊎ ((reader.held ≡ []) × (taking.now ≡ [])) → Taken Fault script rest taking.done
    by (inl is) =
        let held : new.held ++ rest ≡ reader.held ++ taking.now = ap (λ bytes. bytes ++ rest) (sym went.kept) ∙ append_assoc reader.held went.bytes rest ∙ ap (λ bytes. reader.held ++ bytes) (sym went.taken) in
        let whole : AllByRecursion (Lacks 10) (taking.done ++ lines_of (reader.held ++ taking.now)) = subst (AllByRecursion (Lacks 10)) taking.cut (lines_unbroken script) in (
          script_of taking.done ++ new.held,
          append_assoc (script_of taking.done) new.held rest ∙ ap (λ bytes. script_of taking.done ++ bytes) held ∙ sym is,
          λ fault. rw (ended_done taking.done new.held (all-front (Lacks 10) taking.done (lines_of (reader.held ++ taking.now)) whole) (lacks fault)) (omega arith),
        )
    by (inr none) =
        let empty : rest ≡ [] = both_nil went.bytes rest (sym none.1 ∙ went.taken) in
        let lines : lines_of script ≡ taking.done = taking.cut ∙ ap (λ text. taking.done ++ lines_of text) (ap (λ held. held ++ taking.now) none.0 ∙ none.1) ∙ append-nil taking.done in (
          script,
          ap (λ bytes. script ++ bytes) empty ∙ append-nil script,
          λ fault. subst (λ done. events_in (ended_lines script) ≤ events_in done) lines (ended_few (slice_split (λ b. b == 10) script)),
        )

-- ---- how far the source was read

-- what was taken if this remains
script_taken : (start : Start) (script : List ℕ) (t : Told) (number : ℕ) (reader : Reader) (left : Option (List ℕ)) (run : Run)
    (taking : Taking start script t number reader left run) (bytes rest : List ℕ) → taking.now ≡ bytes ++ rest → (taken : List ℕ) × (taken ++ rest ≡ script)
script_taken start script t number reader left run taking bytes rest is = by taking.kept
  where
    by : (script ≡ script_of taking.done ++ (reader.held ++ taking.now)) ⊎ ((reader.held ≡ []) × (taking.now ≡ [])) → (taken : List ℕ) × (taken ++ rest ≡ script)
    by (inl whole) = (
      script_of taking.done ++ (reader.held ++ bytes),
      append_assoc (script_of taking.done) (reader.held ++ bytes) rest ∙ ap (λ more. script_of taking.done ++ more) (append_assoc reader.held bytes rest ∙ ap (λ more. reader.held ++ more) (sym is)) ∙ sym whole,
    )
    by (inr none) = (script, ap (λ more. script ++ more) (both_nil bytes rest (sym none.1 ∙ is)) ∙ append-nil script)

line_taken : (start : Start) (script : List ℕ) (t : Told) (number : ℕ) (reader new : Reader) (left now : Option (List ℕ)) (run : Run)
    (taking : Taking start script t number reader left run) (rest : List ℕ) → now ≡ Some rest → MovesLine {E = Exit} (Ok true) reader new left now → (taken : List ℕ) × (taken ++ rest ≡ script)
line_taken start script t number reader new left now run taking rest is moves = by (subst (λ n. MovesLine {E = Exit} (Ok true) reader new (Some taking.now) n) is (subst (λ b. MovesLine {E = Exit} (Ok true) reader new b now) taking.tells moves))
  where
    by : MovesLine {E = Exit} (Ok true) reader new (Some taking.now) (Some rest) → (taken : List ℕ) × (taken ++ rest ≡ script)
    by (inl moved) = script_taken start script t number reader left run taking moved.bytes rest moved.taken
    by (inr (moved, end)) = script_taken start script t number reader left run taking moved.bytes rest moved.taken

-- the buffer then has at most a line and a byte
moved_few : (given : List ℕ) (old new : Reader) (before now : Option (List ℕ)) → length old.held + (new.taken - old.taken) ≤ LONGEST_LINE + 1 → Moves given old new before now → length new.held ≤ LONGEST_LINE + 1
moved_few given old new before now few moved =
    let kept : length old.held + length moved.bytes ≡ length given + length new.held = sym (length-append old.held moved.bytes) ∙ ap length moved.kept ∙ length-append given new.held in
    let count = moved.count in
    omega arith

held_few : (old new : Reader) (before now : Option (List ℕ)) → length old.held + (new.taken - old.taken) ≤ LONGEST_LINE + 1 → MovesLine {E = Exit} (Ok true) old new before now → length new.held ≤ LONGEST_LINE + 1
held_few old new before now few (inl moved) = moved_few (new.line ++ 10 ∷ []) old new before now few moved
held_few old new before now few (inr (moved, end)) = moved_few new.line old new before now few moved

-- a line was returned, and more text follows
pub ahead_given : (Fault : Type 0) → (Fault → ⊥) → (start : Start) (script : List ℕ) (t : Told) (number : ℕ) (reader new : Reader) (left now : Option (List ℕ)) (run : Run) (later : Option Told) (line : List ℕ) → (same : line ≡ new.line)
    → (taking : Taking start script t number reader left run) → IsLine new.line → given_count reader < given_count new → length reader.held + (new.taken - reader.taken) ≤ LONGEST_LINE + 1 → MovesLine {E = Exit} (Ok true) reader new left now
    → (rest : List NumberedLine) × (reads_in taking.done ++ (number + 1, line_of line) ∷ rest ≡ reads_of script)
    → IsSomeAnd later (Grows (after_acts taking.acts t)) → EndsAhead Fault start script t.here.out now later
ahead_given Fault never start script t number reader new left now run later line same taking is_line grew few moves given goes =
    let here = given_here start script t number reader new left now run line same taking is_line grew moves in
    let held : length new.held ≤ LONGEST_LINE + 1 = held_few reader new left now few moves in
    let first = taking.size in
    let then = here.3 in
    let long : length (new.held ++ here.0) ≡ length new.held + length here.0 = length-append new.held here.0 in
    let bound : length script ≤ length (script_of taking.done) + first_size (line ∷ lines_of (new.held ++ here.0)) + (LONGEST_LINE + 1) + length here.0 = omega arith in
    let all = line_taken start script t number reader new left now run taking here.0 here.1 moves in
    subst (λ o. EndsAhead Fault start script t.here.out o later) (sym here.1)
    (some_more later (Grows (after_acts taking.acts t)) (ReadAhead Fault start script t.here.out here.0) goes
    (λ u went. record {
      done = taking.done;
      more = line ∷ lines_of (new.held ++ here.0);
      lines = taking.cut ∙ ap (λ lines. taking.done ++ lines) here.2;
      first = record { rest = (number + 1, line_of line) ∷ given.0; splits = given.1; accepted = taking.accepted };
      text = (went.part, went.is ∙ ap (λ out. out ++ went.part) (along_prints (places_from (first_site start) (reads_in taking.done)) t taking.acts taking.accepted (acts_along (places_from (first_site start) (reads_in taking.done)) t taking.acts taking.along)));
      bound = bound;
      taken = all.0;
      splits = all.1;
      whole = λ fault. absurd (never fault);
    }))

-- no line was returned
pub ahead_none : (Fault : Type 0) (start : Start) (script : List ℕ) (t : Told) (number : ℕ) (reader new : Reader) (left now : Option (List ℕ)) (run : Run) (told : Option Told)
    → (taking : Taking start script t number reader left run) → told ≡ Some (after_acts taking.acts t) → length reader.held + (new.taken - reader.taken) ≤ LONGEST_LINE + 1 → (Fault → Lacks 10 new.held) → Moves [] reader new left now
    → EndsAhead Fault start script t.here.out now told
ahead_none Fault start script t number reader new left now run told taking is few lacks moves =
    let moved : Moves [] reader new (Some taking.now) now = subst (λ b. Moves [] reader new b now) taking.tells moves in
    let tells = taken_tells moved.bytes taking.now now moved.taken in
    let went : Moves [] reader new (Some taking.now) (Some tells.0) = subst (λ n. Moves [] reader new (Some taking.now) n) tells.1 moved in
    let first = taking.size in
    let one : length (reader.held ++ taking.now) ≡ length reader.held + length taking.now = length-append reader.held taking.now in
    let two : length taking.now ≡ length went.bytes + length tells.0 = ap length went.taken ∙ length-append went.bytes tells.0 in
    let count = went.count in
    let three : length reader.held + length went.bytes ≡ length new.held = sym (length-append reader.held went.bytes) ∙ ap length went.kept in
    let some : ℕ = first_size (lines_of (reader.held ++ taking.now)) in
    let bound : length script ≤ length (script_of taking.done) + some + (LONGEST_LINE + 1) + length tells.0 = omega arith in
    let all = taken_none Fault start script t number reader new left run taking tells.0 went lacks in
    let ahead : ReadAhead Fault start script t.here.out tells.0 (after_acts taking.acts t) = record {
      done = taking.done;
      more = lines_of (reader.held ++ taking.now);
      lines = taking.cut;
      first = lines_first start script t number reader left run taking;
      text = ([], along_prints (places_from (first_site start) (reads_in taking.done)) t taking.acts taking.accepted (acts_along (places_from (first_site start) (reads_in taking.done)) t taking.acts taking.along) ∙ sym (append-nil (t.here.out ++ outputs start (reads_in taking.done))));
      bound = bound;
      taken = all.0;
      splits = all.1;
      whole = all.2;
    } in
    subst (λ o. EndsAhead Fault start script t.here.out o told) (sym tells.1)
    (subst (λ o. IsSomeAnd o (ReadAhead Fault start script t.here.out tells.0)) (sym is) ahead)

-- the list of lines doesn't end a call successfully
pub next_not_done : (exit : Exit) → IsNextExit exit → exit ≡ Done → ⊥
next_not_done exit is done = subst IsNextExit done is

-- a line isn't rejected for a fault of the source
pub not_fault : (exit : Exit) → IsStop exit → ◌≡◌ {A = Result (Unit {0}) Exit} (Err exit) (Err SourceFault) → ⊥
not_fault exit stop is = let same : exit ≡ SourceFault = cc in subst IsStop same stop

pub line_not_done : (exit : Exit) → IsStop exit → exit ≡ Done → ⊥
line_not_done exit stop done = subst IsStop done stop
