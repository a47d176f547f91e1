-- Lines are processed one after another.
use Rattle.std.proofs.Common.{◌≡◌, ℕ, ◌+◌, Bool, true, false, List, [], ◌∷◌, ◌++◌, length, Option, None, Some, IfSome, IsSomeAnd, Result, Ok, Err, refl, ap, sym, ◌∙◌, subst, append_assoc, append-nil, length-append, arith, inl, inr, ◌<◌, ◌≤◌, suc}
use Rattle.std.specs.Prelude.{⊤, ◌⊎◌}
use Rattle.board_core.specs.Cause.{Faults, Kind}
use Rattle.board_core.specs.Doing.{Act, Breaks, GoesWell, Seen, after_acts, broke, went_well}
use Rattle.board_core.specs.Told.{Told}
use Rattle.board_core.proofs.DoingLemmas.{does_nothing, does_then}
use Rattle.ras_events.specs.Described.{NumberedLine}
use Rattle.ras_events.specs.declared.settings.Settings.{Settings}
use Rattle.ras_run.specs.Sites.{IsDrivable, IsRunAt, Site, Start, first_site, site_of}
use Rattle.ras_run.specs.Places.{Place, event_at, places_from, site_at}
use Rattle.ras_daemon.specs.Script.{reads_in, reads_of}
use Rattle.ras_script.specs.Line.{line_of}
use Rattle.ras_script.specs.Lines.{Ending, Lines, no_line, script_ended, script_lines, with_line}
use Rattle.ras_script.specs.Reader.{AreTaken, IsAtEnd, IsLine, Moves, MovesLine, Reader, given_count, lines_to_come}
use Rattle.ras_script.specs.Splitting.{lines_of}
use Rattle.ras_script.specs.SplittingLaws.{script_of}
use Rattle.ras_script.proofs.LinesLemmas.{line_alone, line_cut}
use Rattle.std.proofs.lemmas.Grind.{flat_map-append}
use Rattle.line_filters.specs.Numbered.{GivesNumbered, IsNextExit}
use Rattle.line_filters.specs.Steps.Reading.{with_lines}
use Rattle.ras_exit.specs.Acts.{DoesBy}
use Rattle.ras_exit.specs.declared.exit.Exit.{Exit}
use Rattle.ras_exit.specs.declared.exit.Exit.TheVariants.{BadLine, Done, ErstStatus, SourceFault, TooLong, Usage}
use Rattle.ras_exit.specs.Causes.{BoardCause, Causes, SourceCause}
use Rattle.ras_exit.specs.Endings.{AnyFault, CallEnding, EndsBy, IsLineExit, IsStop, answered, ending_of, faulted, source_failed, starved}
use Rattle.ras_exit.proofs.PrintLemmas.{none_still}
use Rattle.ras_run.specs.declared.run.Run.{Run}
use Rattle.ras_run.specs.LineActs.{AreBegun, CanAsk, HoldsAt, TakesLine, asking_acts}
use Rattle.ras_run.specs.Status.{refusal_at}
use Rattle.ras_run.proofs.PlaceLemmas.{site-snoc}
use Rattle.ras_daemon.specs.Steps.Doing.{AreAllAsked, AreLinesActs, AsksBy, DoesFirst, DoesLines, EndsLines, IsAsked, MayAsk}
use Rattle.ras_daemon.specs.RunActs.{AreDoneAlong, refused_acts, script_asked}
use Rattle.ras_daemon.specs.Steps.Running.{AreAccepted, AreAll, AreFirst}
use Rattle.ras_exit.specs.ScriptEnd.{ending_exit}
use Rattle.ras_daemon.proofs.AlongActLemmas.{acts_along, along_begun, along_done, asks_alone, done-snoc, line_begun}
use Rattle.ras_daemon.proofs.PlaceLemmas.{accepted-snoc, all_read, first_more, line_refused, none_refused, reads-append, reads_behind, script-refused}

-- The first `number` lines of a script were taken and did their acts; the other lines are to come.
pub record Taking (start : Start) (script : List ℕ) (t : Told) (number : ℕ) (reader : Reader) (left : Option (List ℕ)) (run : Run) : Type 0 where
  pub done : List (List ℕ)
  pub now : List ℕ
  pub tells : left ≡ Some now
  pub lines : script_lines script ≡ with_lines done (lines_to_come reader now)
  pub count : number ≡ length done
  pub after : IsRunAt (site_at start (reads_in done)) run
  pub holds : HoldsAt (first_site start) t
  pub accepted : AreAccepted start (reads_in done)
  pub acts : List Act
  pub along : AreDoneAlong (places_from (first_site start) (reads_in done)) t acts
  pub cut : lines_of script ≡ done ++ lines_of (reader.held ++ now)
  pub size : length script ≤ length (script_of done) + length (reader.held ++ now)
  pub kept : (script ≡ script_of done ++ (reader.held ++ now)) ⊎ ((reader.held ≡ []) × (now ≡ []))

-- what a call of the reader returns, if the source is modelled
abbrev pub Gave : Result Bool Exit → ℕ → Reader → Reader → Option (List ℕ) → Option (List ℕ) → Type 0
Gave result number old new before now = IfSome before (λ left. IfSome now (λ rest. GivesNumbered result (lines_to_come old left) number new rest))

-- ---- the reader

-- what a call returned, in another form of its result
pub gave_as : (result found : Result Bool Exit) (number : ℕ) (old new : Reader) (before now : Option (List ℕ)) → result ≡ found → Gave result number old new before now → Gave found number old new before now
gave_as result found number old new before now is gave = subst (λ r. Gave r number old new before now) is gave

pub moved_as : (result found : Result Bool Exit) (old new : Reader) (before now : Option (List ℕ)) → result ≡ found → MovesLine result old new before now → MovesLine found old new before now
moved_as result found old new before now is moves = subst (λ r. MovesLine r old new before now) is moves

pub taken_tells : (bytes before : List ℕ) (now : Option (List ℕ)) → AreTaken bytes (Some before) now → (rest : List ℕ) × (now ≡ Some rest)
taken_tells bytes before None taken = absurd taken
taken_tells bytes before (Some rest) taken = (rest, refl)

-- a modelled source stays modelled
pub moved_tells : (result : Result Bool Exit) (old new : Reader) (left : List ℕ) (before now : Option (List ℕ)) → before ≡ Some left → MovesLine result old new before now → (rest : List ℕ) × (now ≡ Some rest)
moved_tells result old new left before now is moves = by result (subst (λ b. MovesLine result old new b now) is moves)
  where
    by : (result : Result Bool Exit) → MovesLine result old new (Some left) now → (rest : List ℕ) × (now ≡ Some rest)
    by (Ok true) (inl moved) = taken_tells moved.bytes left now moved.taken
    by (Ok true) (inr moved) = taken_tells moved.0.bytes left now moved.0.taken
    by (Ok false) moved = taken_tells moved.0.bytes left now moved.0.taken
    by (Err why) moved = taken_tells moved.bytes left now moved.taken

gave_now : (result : Result Bool Exit) (number : ℕ) (old new : Reader) (left rest : List ℕ) (before now : Option (List ℕ)) → before ≡ Some left → now ≡ Some rest → Gave result number old new before now → GivesNumbered result (lines_to_come old left) number new rest
gave_now result number old new left rest before now one two gave =
    subst (λ n. IfSome n (λ rest. GivesNumbered result (lines_to_come old left) number new rest)) two
    (subst (λ b. IfSome b (λ left. IfSome now (λ rest. GivesNumbered result (lines_to_come old left) number new rest))) one gave)

-- the line that was returned, among the bytes in the buffer and the bytes to come
ended_line : (old new : Reader) (before rest : List ℕ) → IsLine new.line → Moves (new.line ++ 10 ∷ []) old new (Some before) (Some rest)
    → old.held ++ before ≡ new.line ++ 10 ∷ (new.held ++ rest)
ended_line old new before rest line moved =
    ap (λ bytes. old.held ++ bytes) moved.taken
    ∙ sym (append_assoc old.held moved.bytes rest)
    ∙ ap (λ bytes. bytes ++ rest) moved.kept
    ∙ append_assoc (new.line ++ 10 ∷ []) new.held rest
    ∙ append_assoc new.line (10 ∷ []) (new.held ++ rest)

last_line : (old new : Reader) (before rest : List ℕ) → Moves new.line old new (Some before) (Some rest) → IsAtEnd new (Some rest) → old.held ++ before ≡ new.line
last_line old new before rest moved end =
    ap (λ bytes. old.held ++ bytes) moved.taken
    ∙ sym (append_assoc old.held moved.bytes rest)
    ∙ ap (λ bytes. bytes ++ rest) moved.kept
    ∙ ap (λ held. (new.line ++ held) ++ rest) end.0
    ∙ ap (λ left. (new.line ++ []) ++ left) end.1
    ∙ append-nil (new.line ++ [])
    ∙ append-nil new.line

some_line : (old new : Reader) (before rest : List ℕ) → given_count old < given_count new → Moves new.line old new (Some before) (Some rest) → IsAtEnd new (Some rest) → 0 < length new.line
some_line old new before rest grew moved end =
    let kept : length old.held + length moved.bytes ≡ length new.line + length new.held = sym (length-append old.held moved.bytes) ∙ ap length moved.kept ∙ length-append new.line new.held in
    let none : length new.held ≡ 0 = ap length end.0 in
    let count = moved.count in
    omega arith

pub given_text : (old new : Reader) (before rest : List ℕ) → IsLine new.line → given_count old < given_count new → MovesLine {E = Exit} (Ok true) old new (Some before) (Some rest)
    → (lines_of (old.held ++ before) ≡ new.line ∷ lines_of (new.held ++ rest)) × (length (old.held ++ before) ≤ length new.line + 1 + length (new.held ++ rest))
given_text old new before rest line grew (inl moved) =
    let whole = ended_line old new before rest line moved in
    let size : length (old.held ++ before) ≡ length new.line + suc (length (new.held ++ rest)) = ap length whole ∙ length-append new.line (10 ∷ (new.held ++ rest)) in
    (ap lines_of whole ∙ line_cut new.line (new.held ++ rest) line.0, omega arith)
given_text old new before rest line grew (inr (moved, end)) =
    let whole = last_line old new before rest moved end in
    let none : lines_of (new.held ++ rest) ≡ [] = rw (end.0, end.1) refl in
    let size : length (old.held ++ before) ≡ length new.line = ap length whole in
    (ap lines_of whole ∙ line_alone new.line line.0 (some_line old new before rest grew moved end) ∙ ap (λ lines. new.line ∷ lines) (sym none), omega arith)

script-snoc : (done : List (List ℕ)) (line more : List ℕ) → script_of (done ++ line ∷ []) ++ more ≡ script_of done ++ (line ++ 10 ∷ more)
script-snoc done line more =
    ap (λ bytes. bytes ++ more) (flat_map-append (λ l. l ++ 10 ∷ []) done (line ∷ []))
    ∙ append_assoc (script_of done) ((line ++ 10 ∷ []) ++ []) more
    ∙ ap (λ bytes. script_of done ++ (bytes ++ more)) (append-nil (line ++ 10 ∷ []))
    ∙ ap (λ bytes. script_of done ++ bytes) (append_assoc line (10 ∷ []) more)

-- the lines so far, the buffer and the rest are the script, or all was returned
kept_on : (script : List ℕ) (done : List (List ℕ)) (old new : Reader) (before rest : List ℕ) → IsLine new.line → (script ≡ script_of done ++ (old.held ++ before)) ⊎ ((old.held ≡ []) × (before ≡ []))
    → MovesLine {E = Exit} (Ok true) old new (Some before) (Some rest) → (script ≡ script_of (done ++ new.line ∷ []) ++ (new.held ++ rest)) ⊎ ((new.held ≡ []) × (rest ≡ []))
kept_on script done old new before rest line kept (inr (moved, end)) = inr (end.0, end.1)
kept_on script done old new before rest line (inl is) (inl moved) = inl (is ∙ ap (λ bytes. script_of done ++ bytes) (ended_line old new before rest line moved) ∙ sym (script-snoc done new.line (new.held ++ rest)))
kept_on script done old new before rest line (inr none) (inl moved) =
    let whole = ended_line old new before rest line moved in
    let long : length (old.held ++ before) ≡ length new.line + suc (length (new.held ++ rest)) = ap length whole ∙ length-append new.line (10 ∷ (new.held ++ rest)) in
    let short : length (old.held ++ before) ≡ 0 = ap length (ap (λ held. held ++ before) none.0 ∙ none.1) in
    absurd (omega arith)

size-snoc : (done : List (List ℕ)) (line : List ℕ) → length (script_of (done ++ line ∷ [])) ≡ length (script_of done) + (length line + 1)
size-snoc done line =
    ap length (flat_map-append (λ l. l ++ 10 ∷ []) done (line ∷ []))
    ∙ length-append (script_of done) ((line ++ 10 ∷ []) ++ [])
    ∙ ap (λ bytes. length (script_of done) + length bytes) (append-nil (line ++ 10 ∷ []))
    ∙ ap (λ n. length (script_of done) + n) (length-append line (10 ∷ []))

-- ---- at the start

-- The first lines were taken, and did these acts.
abbrev pub Took : {X : Type 0} → (X → Seen) → Start → List ℕ → Told → ℕ → Reader → Option (List ℕ) → Run → X → X → Type 0
Took see start script t number reader left run old new =
    (taking : Taking start script t number reader left run) × GoesWell taking.acts (see old) (see new)

pub took_none : {X : Type 0} (see : X → Seen) (start : Start) (script : List ℕ) (t : Told) (reader : Reader) (left : Option (List ℕ)) (run : Run) (x : X) → reader ≡ record { line = []; held = []; taken = 0 }
    → IsRunAt (first_site start) run → HoldsAt (first_site start) t → left ≡ Some script → Took see start script t 0 reader left run x x
took_none see start script t reader left run x fresh after holds tells = (
  record {
    done = [];
    now = script;
    tells = tells;
    lines = rw fresh refl;
    count = refl;
    after = after;
    holds = holds;
    accepted = tt;
    acts = [];
    along = refl;
    cut = rw fresh refl;
    size = rw fresh (omega arith);
    kept = inl (rw fresh refl);
  },
  does_nothing see x,
)

-- ---- a line is given

lines-given : (done : List (List ℕ)) (line : List ℕ) (come : Lines) (all : Lines) (more : Lines) → all ≡ with_lines done more → more ≡ with_line line come → all ≡ with_lines (done ++ line ∷ []) come
lines-given done line come all more is gives =
    is ∙ ap (with_lines done) gives ∙ ap (λ whole. record { whole = whole; ending = come.ending }) (sym (append_assoc done (line ∷ []) come.whole))

module _ (start : Start) (script : List ℕ) (t : Told) (number : ℕ) (reader new : Reader) (left now : Option (List ℕ)) (run : Run) (line : List ℕ) (same : line ≡ new.line) (taking : Taking start script t number reader left run) where
  -- the line's number and what it asks for
  abbrev pub read_given : NumberedLine
  read_given = (number + 1, line_of line)

  given_lines : Gave (Ok true) number reader new left now → MovesLine {E = Exit} (Ok true) reader new left now
      → (rest : List ℕ) × (now ≡ Some rest) × (script_lines script ≡ with_lines (taking.done ++ line ∷ []) (lines_to_come new rest))
  given_lines gave moves =
      let tells = moved_tells (Ok true) reader new taking.now left now taking.tells moves in (
        tells.0,
        tells.1,
        lines-given taking.done new.line (lines_to_come new tells.0) (script_lines script) (lines_to_come reader taking.now) taking.lines
            (gave_now (Ok true) number reader new taking.now tells.0 left now taking.tells tells.1 gave)
            ∙ ap (λ l. with_lines (taking.done ++ l ∷ []) (lines_to_come new tells.0)) (sym same),
      )

  reads-given : reads_in (taking.done ++ line ∷ []) ≡ reads_in taking.done ++ read_given ∷ []
  reads-given = reads-append taking.done (line ∷ []) ∙ (let n : 1 + length taking.done ≡ number + 1 = (let c = taking.count in omega arith) in ap (λ k. reads_in taking.done ++ (k, line_of line) ∷ []) n)

  -- The line comes after the lines that were taken.
  pub given : Gave (Ok true) number reader new left now → MovesLine {E = Exit} (Ok true) reader new left now
      → (rest : List NumberedLine) × (reads_in taking.done ++ read_given ∷ rest ≡ reads_of script)
  given gave moves =
      let lines = given_lines gave moves in
      let done : List (List ℕ) = taking.done ++ line ∷ [] in
      let come : List (List ℕ) = (lines_to_come new lines.0).whole in
      let whole : reads_of script ≡ reads_in done ++ reads_behind done come = ap (λ (l : Lines). reads_in l.whole) lines.2 ∙ reads-append done come in (
        reads_behind done come,
        sym (append_assoc (reads_in taking.done) (read_given ∷ []) (reads_behind done come)) ∙ ap (λ reads. reads ++ reads_behind done come) (sym reads-given) ∙ sym whole,
      )

  -- the line is in the bytes of the script
  pub given_here : IsLine new.line → given_count reader < given_count new → MovesLine {E = Exit} (Ok true) reader new left now
      → (rest : List ℕ) × (now ≡ Some rest) × (lines_of (reader.held ++ taking.now) ≡ line ∷ lines_of (new.held ++ rest)) × (length (reader.held ++ taking.now) ≤ length line + 1 + length (new.held ++ rest))
  given_here is_line grew moves =
      let tells = moved_tells (Ok true) reader new taking.now left now taking.tells moves in
      let text = given_text reader new taking.now tells.0 is_line grew (subst (λ n. MovesLine {E = Exit} (Ok true) reader new (Some taking.now) n) tells.1 (subst (λ b. MovesLine {E = Exit} (Ok true) reader new b now) taking.tells moves)) in
      (tells.0, tells.1, rw same text.0, rw same text.1)

  -- The line was processed, and did its acts.
  pub took_line : {X : Type 0} (see : X → Seen) (more : Run) (old mid later : X) → GoesWell taking.acts (see old) (see mid) → IsLine new.line → given_count reader < given_count new → Gave (Ok true) number reader new left now → MovesLine {E = Exit} (Ok true) reader new left now
      → TakesLine see (site_at start (reads_in taking.done), read_given) (after_acts taking.acts t) (Ok tt) more mid later → Took see start script t (number + 1) new now more old later
  took_line see more old mid later well is_line grew gave moves takes =
      let lines = given_lines gave moves in
      let text = given_text reader new taking.now lines.0 is_line grew (subst (λ n. MovesLine {E = Exit} (Ok true) reader new (Some taking.now) n) lines.1 (subst (λ b. MovesLine {E = Exit} (Ok true) reader new b now) taking.tells moves)) in
      let acts : List Act = takes.does.0 in
      let counted = takes.takes.1 in (
        record {
          done = taking.done ++ line ∷ [];
          now = lines.0;
          tells = lines.1;
          lines = lines.2;
          count = (let c = taking.count in simp length-append (omega arith));
          after = rw (reads-given, site-snoc (first_site start) (reads_in taking.done) read_given) (record { settings = counted.settings; account = counted.account; standing = counted.standing });
          holds = taking.holds;
          accepted = rw reads-given (accepted-snoc start (reads_in taking.done) read_given taking.accepted takes.takes.0);
          acts = taking.acts ++ acts;
          along = rw reads-given (done-snoc (first_site start) (reads_in taking.done) read_given t taking.acts acts taking.along takes.does.1);
          cut =
              taking.cut ∙ ap (λ lines. taking.done ++ lines) text.0
              ∙ ap (λ l. taking.done ++ l ∷ lines_of (new.held ++ lines.0)) (sym same)
              ∙ sym (append_assoc taking.done (line ∷ []) (lines_of (new.held ++ lines.0)));
          size =
              (let first = taking.size in
              let then = text.1 in
              let snoc = size-snoc taking.done line in
              let long : length line ≡ length new.line = ap length same in
              omega arith);
          kept = subst (λ l. (script ≡ script_of (taking.done ++ l ∷ []) ++ (new.held ++ lines.0)) ⊎ ((new.held ≡ []) × (lines.0 ≡ []))) (sym same) (kept_on script taking.done reader new taking.now lines.0 is_line taking.kept (subst (λ n. MovesLine {E = Exit} (Ok true) reader new (Some taking.now) n) lines.1 (subst (λ b. MovesLine {E = Exit} (Ok true) reader new b now) taking.tells moves)));
        },
        does_then see taking.acts acts went_well old mid later well tt takes.does.2,
      )

-- The next line is processed at the site after these lines.
pub takes_next : {X : Type 0} (see : X → Seen) (start : Start) (script : List ℕ) (t : Told) (number : ℕ) (reader : Reader) (left : Option (List ℕ)) (run : Run) (taking : Taking start script t number reader left run)
    (read : NumberedLine) (result : Result (Unit {0}) Exit) (more : Run) (old new : X)
    → (IsDrivable run.settings.driver → TakesLine see (site_of run (after_acts taking.acts t), read) (after_acts taking.acts t) result more old new)
    → TakesLine see (site_at start (reads_in taking.done), read) (after_acts taking.acts t) result more old new
takes_next see start script t number reader left run taking read result more old new takes =
    let after = taking.after in
    let holds = along_done (first_site start) (reads_in taking.done) t taking.acts taking.accepted taking.holds taking.along in
    subst (λ (site : Site). TakesLine see (site, read) (after_acts taking.acts t) result more old new)
    (λ i. record { settings = after.settings i; account = after.account i; standing = after.standing i; store = holds.board.store i; slow = holds.board.slow i })
    (takes (subst (λ (told : Settings). IsDrivable told.driver) (sym after.settings) holds.drivable))

-- ---- where a run ends among its lines

pub some_more : {T : Type 0} (o : Option T) (P Q : T → Type 0) → IsSomeAnd o P → ((x : T) → P x → Q x) → IsSomeAnd o Q
some_more None P Q holds more = absurd holds
some_more (Some x) P Q holds more = more x holds

pub if_more : {T : Type 0} (o : Option T) (P Q : T → Type 0) → IfSome o P → ((x : T) → P x → Q x) → IfSome o Q
if_more None P Q holds more = tt
if_more (Some x) P Q holds more = more x holds

pub tells_same : {T : Type 0} (o : Option T) → IfSome o (λ _. (x : T) × (o ≡ Some x))
tells_same None = tt
tells_same (Some x) = (x, refl)

module _ {X : Type 0} (see : X → Seen) (start : Start) (script : List ℕ) (t : Told) (before rest : List NumberedLine) (read : NumberedLine) (splits : before ++ read ∷ rest ≡ reads_of script) (accepted : AreAccepted start before)
    (acts : List Act) (along : AreDoneAlong (places_from (first_site start) before) t acts) (old mid new : X) (well : GoesWell acts (see old) (see mid)) where
  abbrev place : Place
  place = (site_at start before, read)

  abbrev first_here : AreFirst start script before
  first_here = record { rest = read ∷ rest; splits = splits; accepted = accepted }

  -- the model by then
  abbrev then : Told
  then = after_acts acts t

  -- the acts are what the line asks
  abbrev line_asks : (line : List Act) → CanAsk (event_at place) then → line ≡ asking_acts place then → IsAsked start script before then line
  line_asks line can is = record { read = read; rest = rest; splits = splits; can = can; is = is }

  pub stopped : (exit : Exit) (run : Run) → (see mid).told ≡ Some then → TakesLine see place then (Err exit) run mid new → DoesLines see start script t (Err exit) run old new
  stopped exit run told takes = by (ending_of exit) refl takes.takes takes.does.1 takes.does.2
    where
      behind : (ending : CallEnding) → ending_of exit ≡ ending → (lines : List NumberedLine) (made asked : List Act) → AreFirst start script lines → AreDoneAlong (places_from (first_site start) lines) t made → MayAsk start script lines (after_acts made t) asked
          → DoesFirst see (AreLinesActs start script t) t (made ++ asked) ending old new → AsksBy start script lines (after_acts made t) asked exit ending → DoesLines see start script t (Err exit) run old new
      behind ending is lines made asked first are asks does all = record {
        before = lines;
        first = first;
        acts = made;
        along = are;
        asked = asked;
        asks = asks;
        does = subst (λ (e : CallEnding). DoesFirst see (AreLinesActs start script t) t (made ++ asked) e old new) (sym is) does;
        ends = subst (λ (e : CallEnding). AsksBy start script lines (after_acts made t) asked exit e) (sym is) all;
      }

      fails : (kind : Kind) → ending_of exit ≡ faulted kind → AreBegun place then (faulted kind) takes.does.0 → DoesBy see takes.does.0 (faulted kind) mid new → DoesLines see start script t (Err exit) run old new
      fails kind is (can, inl (taken, are)) failed =
          behind (faulted kind) is (before ++ read ∷ []) (acts ++ takes.does.0) [] (first_more start script before rest read splits accepted taken) (done-snoc (first_site start) before read t acts takes.does.0 along (can, are)) (inl refl)
          (subst (λ (l : List Act). Breaks kind l (see old) (see new)) (sym (append-nil (acts ++ takes.does.0))) (does_then see acts takes.does.0 (broke kind) old mid new well tt failed)) tt
      fails kind is (can, inr (own, asks)) failed =
          behind (faulted kind) is before acts takes.does.0 first_here along (inr (line_asks takes.does.0 can asks)) (does_then see acts takes.does.0 (broke kind) old mid new well tt failed) tt

      by : (ending : CallEnding) → ending_of exit ≡ ending → EndsBy (refusal_at place ≡ Some exit) ⊤ AnyFault ending → AreBegun place then ending takes.does.0 → DoesBy see takes.does.0 ending mid new
          → DoesLines see start script t (Err exit) run old new
      by answered is refused begun done =
          let asks : IsAsked start script before then takes.does.0 = line_asks takes.does.0 begun.0 (asks_alone place exit then takes.does.0 refused begun.1) in
          behind answered is before acts takes.does.0 first_here along (inr asks) (does_then see acts takes.does.0 went_well old mid new well tt done)
          (record {
            all = line_refused start script before rest read exit splits accepted refused;
            is = asks.is ∙ sym (ap (λ found. refused_acts found then) (script-refused start script before rest read exit splits accepted refused));
            ends = inr asks;
          })
      by (faulted kind) is any begun failed = fails kind is begun failed
      by source_failed is never begun some = absurd never
      by starved is any are some =
          let part = line_begun start script t before rest read splits accepted acts (acts_along (places_from (first_site start) before) t acts along) takes.does.0 are some.done some.later some.splits in
          behind starved is before acts [] first_here along (inl refl)
          (record {
            done = some.done;
            later = part.0;
            are = rw append-nil part.1;
            still = rw append-nil (some.still then told);
            does = rw append-nil (does_then see acts some.done went_well old mid new well tt some.does);
          }) refl

-- ---- where no line is given

pub lines_first : (start : Start) (script : List ℕ) (t : Told) (number : ℕ) (reader : Reader) (left : Option (List ℕ)) (run : Run) (taking : Taking start script t number reader left run) → AreFirst start script (reads_in taking.done)
lines_first start script t number reader left run taking =
    let come : List (List ℕ) = (lines_to_come reader taking.now).whole in
    let whole : reads_of script ≡ reads_in taking.done ++ reads_behind taking.done come = ap (λ (l : Lines). reads_in l.whole) taking.lines ∙ reads-append taking.done come in
    record { rest = reads_behind taking.done come; splits = sym whole; accepted = taking.accepted }

module _ {X : Type 0} (see : X → Seen) (start : Start) (script : List ℕ) (t : Told) (number : ℕ) (reader : Reader) (left : Option (List ℕ)) (run : Run) (taking : Taking start script t number reader left run) (old new : X) (well : GoesWell taking.acts (see old) (see new)) where
  first_taken : AreFirst start script (reads_in taking.done)
  first_taken = lines_first start script t number reader left run taking

  -- the source failed
  pub took_now : DoesLines see start script t (Err SourceFault) run old new
  took_now =
      let begun = along_begun start script (reads_in taking.done) t taking.acts first_taken (acts_along (places_from (first_site start) (reads_in taking.done)) t taking.acts taking.along) in
      let rest : List Act = script_asked start script (after_acts (taking.acts ++ begun.0) t) in
      let none : (taking.acts ++ []) ++ [] ≡ taking.acts = append-nil (taking.acts ++ []) ∙ append-nil taking.acts in
      record {
        before = reads_in taking.done;
        first = first_taken;
        acts = taking.acts;
        along = taking.along;
        asked = [];
        asks = inl refl;
        does = record {
          done = [];
          later = begun.0 ++ rest;
          are = record {
            along = taking.acts ++ begun.0;
            lines = begun.1;
            is = ap (λ l. l ++ (begun.0 ++ rest)) none ∙ sym (append_assoc taking.acts begun.0 rest);
          };
          still = none_still (after_acts (taking.acts ++ []) t);
          does = subst (λ (l : List Act). GoesWell l (see old) (see new)) (sym none) well;
        };
        ends = refl;
      }

  none_behind : GoesWell (taking.acts ++ []) (see old) (see new)
  none_behind = rw append-nil well

  whole_given : (ending : Ending) → lines_to_come reader taking.now ≡ no_line ending → script_lines script ≡ record { whole = taking.done; ending = ending }
  whole_given ending none = taking.lines ∙ ap (with_lines taking.done) none ∙ ap (λ whole. record { whole = whole; ending = ending }) (append-nil taking.done)

  -- the model after these lines
  abbrev told_now : Told
  told_now = after_acts taking.acts t

  all_given : (ending : Ending) (exit : Exit) → exit ≡ ending_exit number ending → lines_to_come reader taking.now ≡ no_line ending → AreAllAsked start script exit (reads_in taking.done) told_now []
  all_given ending exit is none =
      let same : exit ≡ ending_exit (length taking.done) ending = is ∙ ap (λ n. ending_exit n ending) taking.count in
      record {
        all = subst (λ e. AreAll start script e (reads_in taking.done)) (sym same) (all_read start script taking.done ending (whole_given ending none) taking.accepted);
        is = sym (ap (λ found. refused_acts found told_now) (none_refused start script taking.done ending (whole_given ending none) taking.accepted));
        ends = inl (same ∙ ap (λ (l : Lines). ending_exit (length l.whole) l.ending) (sym (whole_given ending none)), refl);
      }

  -- the lines end here, in this way
  pub lines_end : (ending : Ending) (exit : Exit) → ending_of exit ≡ answered → exit ≡ ending_exit number ending → lines_to_come reader taking.now ≡ no_line ending → DoesLines see start script t (Err exit) run old new
  lines_end ending exit answer is none = record {
    before = reads_in taking.done;
    first = first_taken;
    acts = taking.acts;
    along = taking.along;
    asked = [];
    asks = inl refl;
    does = subst (λ (e : CallEnding). DoesFirst see (AreLinesActs start script t) t (taking.acts ++ []) e old new) (sym answer) none_behind;
    ends = subst (λ (e : CallEnding). AsksBy start script (reads_in taking.done) told_now [] exit e) (sym answer) (all_given ending exit is none);
  }

  -- all lines were taken
  pub all_taken : lines_to_come reader taking.now ≡ no_line script_ended → DoesLines see start script t (Ok tt) run old new
  all_taken none = record {
    before = reads_in taking.done;
    first = first_taken;
    acts = taking.acts;
    along = taking.along;
    asked = [];
    asks = inl refl;
    does = none_behind;
    ends = (all_given script_ended Done refl none, taking.after);
  }

  -- what the reader returned of the lines to come
  gave_here : (result : Result Bool Exit) (other : Reader) (now : Option (List ℕ)) → MovesLine result reader other left now → Gave result number reader other left now
      → (rest : List ℕ) × GivesNumbered result (lines_to_come reader taking.now) number other rest
  gave_here result other now moves gave =
      let tells = moved_tells result reader other taking.now left now taking.tells moves in
      (tells.0, gave_now result number reader other taking.now tells.0 left now taking.tells tells.1 gave)

  -- no line was returned
  pub none_given : (other : Reader) (now : Option (List ℕ)) → MovesLine {E = Exit} (Ok false) reader other left now → Gave (Ok false) number reader other left now → DoesLines see start script t (Ok tt) run old new
  none_given other now moves gave = all_taken (gave_here (Ok false) other now moves gave).1

  -- the list of lines ended otherwise
  pub next_failed : (exit : Exit) (other : Reader) (now : Option (List ℕ)) → IsNextExit exit → MovesLine {E = Exit} (Err exit) reader other left now → Gave (Err exit) number reader other left now → DoesLines see start script t (Err exit) run old new
  next_failed SourceFault other now is moves gave = took_now
  next_failed TooLong other now is moves gave = let here = (gave_here (Err TooLong) other now moves gave).1 in lines_end here.0 TooLong refl here.2 here.1
  next_failed (BadLine line reason) other now is moves gave = let here = (gave_here (Err (BadLine line reason)) other now moves gave).1 in lines_end here.0 (BadLine line reason) refl here.2 here.1
  next_failed exit other now is moves gave = absurd is

-- an exit that is a fault of the source in one result is a fault of the source in the other
pub failed_same : (exit : Exit) → ◌≡◌ {A = Result (Unit {0}) Exit} (Err exit) (Err SourceFault) → ◌≡◌ {A = Result Bool Exit} (Err exit) (Err SourceFault)
failed_same exit fault = let same : exit ≡ SourceFault = cc in ap Err same

-- how the lines end, and why
pub next_ends : (exit : Exit) (count mid count' : ℕ) (before now : Faults) → IsNextExit exit → Causes {C = ℕ} {T = Bool} SourceCause (Err exit) mid count' → mid ≡ count → now ≡ before → EndsLines (Err exit) count count' before now
next_ends SourceFault count mid count' before now is cause one two = record { stop = tt; source = subst (λ n. SourceCause SourceFault n count') one cause; board = two }
next_ends TooLong count mid count' before now is cause one two = record { stop = tt; source = cause ∙ one; board = two }
next_ends (BadLine line reason) count mid count' before now is cause one two = record { stop = tt; source = cause ∙ one; board = two }
next_ends exit count mid count' before now is cause one two = absurd is

pub line_ends : (exit : Exit) (count count' : ℕ) (before mid now : Faults) → IsStop exit → count' ≡ count → mid ≡ before → Causes {C = Faults} {T = Unit {0}} BoardCause (Err exit) mid now → EndsLines (Err exit) count count' before now
line_ends exit count count' before mid now stop one two cause = record {
  stop = line_stop exit stop;
  source = still exit stop;
  board = subst (λ f. BoardCause exit f now) two cause;
}
  where
    line_stop : (e : Exit) → IsStop e → IsLineExit e
    line_stop Done stop = absurd stop
    line_stop Usage stop = absurd stop
    line_stop SourceFault stop = absurd stop
    line_stop (ErstStatus code) stop = stop
    line_stop e stop = tt

    still : (e : Exit) → IsStop e → SourceCause e count count'
    still SourceFault stop = absurd stop
    still e stop = one
