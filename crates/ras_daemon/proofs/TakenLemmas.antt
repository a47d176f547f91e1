-- A script is processed: the orders are printed, then the lines are taken, and then the run ends.
use Rattle.std.proofs.Common.{◌≡◌, ℕ, true, List, [], ◌++◌, Result, Ok, Err, refl, ap, sym, ◌∙◌, subst, append_assoc, append-nil, inl, inr}
use Rattle.std.specs.Prelude.{⊤, IfErr}
use Rattle.board_core.specs.Cause.{print_call}
use Rattle.board_core.specs.Doing.{Act, Breaks, Does, Ended, GoesWell, IsMade, Seen, after_acts, broke, went_well}
use Rattle.board_core.specs.Told.{Told}
use Rattle.board_core.proofs.DoingLemmas.{after-append, does_first, does_then}
use Rattle.ras_account.specs.Account.{State}
use Rattle.line_filters.specs.Filters.{exit_of}
use Rattle.ras_events.specs.Described.{NumberedLine}
use Rattle.ras_run.specs.Sites.{Start, first_site}
use Rattle.ras_run.specs.Places.{places_from, site_at}
use Rattle.ras_daemon.specs.Script.{reads_of}
use Rattle.ras_exit.specs.Acts.{AreStill, end_of, print_acts}
use Rattle.ras_exit.specs.Endings.{CallEnding, EndsBy, IsAnswer, IsLineExit, OnlyFault, answered, ending_of, faulted, is_answered, source_failed, starved}
use Rattle.ras_exit.specs.declared.exit.Exit.{Exit}
use Rattle.ras_exit.specs.declared.exit.Exit.TheVariants.{Done, SourceFault}
use Rattle.ras_exit.proofs.EndingLemmas.{memory_ran_out, not_both}
use Rattle.ras_exit.proofs.PrintLemmas.{none_still}
use Rattle.ras_run.specs.declared.run.Run.{Run}
use Rattle.ras_run.specs.Taking.{IsPrintExit}
use Rattle.ras_daemon.specs.Steps.Doing.{AreAllAsked, AreLinesActs, AsksBy, DoesFirst, DoesLines, DoesPart, DoesScript, Ends, IsLastBy, MayAsk, Says, TakesScript}
use Rattle.ras_daemon.specs.RunActs.{AreDoneAlong, AreScriptActs, last_acts, orders_acts, script_asked}
use Rattle.ras_daemon.specs.RunOutput.{closing_line}
use Rattle.ras_daemon.specs.RunStatus.{run_exit}
use Rattle.ras_daemon.specs.Steps.Running.{AreFirst}
use Rattle.ras_daemon.proofs.ScriptLemmas.{script_begun}

-- with which exit a run ends after its lines, if that isn't a fault
abbrev pub EndsAs : Result (Unit {0}) Exit → Exit → Type 0
EndsAs (Ok done) exit = exit ≡ Done
EndsAs (Err found) exit = (exit ≡ found) × IsLineExit found

pub ends_as : (lines : Result (Unit {0}) Exit) → IfErr lines IsLineExit → EndsAs lines (exit_of lines)
ends_as (Ok done) stop = refl
ends_as (Err found) stop = (refl, stop)

pub source_fault : (lines : Result (Unit {0}) Exit) → exit_of lines ≡ SourceFault → lines ≡ Err SourceFault
source_fault (Ok done) fault = absurd cc
source_fault (Err found) fault = ap Err fault

pub answers : (exit : Exit) → IsAnswer exit → ending_of exit ≡ answered
answers exit is = by (ending_of exit) is
  where
    by : (ending : CallEnding) → is_answered ending ≡ true → ending ≡ answered
    by answered is = refl
    by ending is = absurd cc

-- only the last line of a whole run depends on the account
last_same : (exit : Exit) (one other : State) → IsLineExit exit → closing_line one exit ≡ closing_line other exit
last_same Done one other stop = absurd stop
last_same exit one other stop = refl

module _ {X : Type 0} (see : X → Seen) (start : Start) (script : List ℕ) (t : Told) where
  abbrev behind_orders : Told
  behind_orders = after_acts (orders_acts start) t

  -- the script did its acts, given the exit of the run
  taken : (result : Exit) (ending : CallEnding) (before : List NumberedLine) (along asked last : List Act) (old new : X) → ending_of result ≡ ending → AreFirst start script before → AreDoneAlong (places_from (first_site start) before) behind_orders along
      → MayAsk start script before (after_acts along behind_orders) asked → IsLastBy start script before (after_acts along behind_orders) asked result ending last
      → DoesFirst see (AreScriptActs start script t) t (orders_acts start ++ (along ++ (asked ++ last))) ending old new → DoesScript see start script t result old new
  taken result ending before along asked last old new is first lines asks ends does = record {
    before = before;
    first = first;
    along = along;
    lines = lines;
    asked = asked;
    asks = asks;
    last = last;
    ends = subst (λ (e : CallEnding). IsLastBy start script before (after_acts along behind_orders) asked result e last) (sym is) ends;
    does = subst (λ (e : CallEnding). DoesFirst see (AreScriptActs start script t) t (orders_acts start ++ (along ++ (asked ++ last))) e old new) (sym is) does;
  }

  -- the orders weren't printed
  pub no_orders : (exit : Exit) (old new : X) → IsPrintExit exit → Does see (orders_acts start) (end_of (ending_of exit)) old new → TakesScript see start script t exit old new
  no_orders exit old new ends does = by (ending_of exit) refl ends does
    where
      by : (ending : CallEnding) → ending_of exit ≡ ending → EndsBy ⊥ ⊤ (OnlyFault print_call) ending → Does see (orders_acts start) (end_of ending) old new → TakesScript see start script t exit old new
      by answered is never does = absurd never
      by source_failed is never does = absurd never
      by starved is any same = inl (memory_ran_out exit is, same)
      by (faulted kind) is only does =
          inr (taken exit (faulted kind) [] [] [] [] old new is (record { rest = reads_of script; splits = refl; accepted = tt }) refl (inl refl) (inl refl) (does_first see (orders_acts start) ([] ++ ([] ++ [])) (broke kind) old new tt does))

  module _ (old a b new : X) (orders : GoesWell (orders_acts start) (see old) (see a)) (before : List NumberedLine) (first : AreFirst start script before) (along asked : List Act) (lines : AreDoneAlong (places_from (first_site start) before) behind_orders along)
      (asks : MayAsk start script before (after_acts along behind_orders) asked) where
    abbrev behind_lines : Told
    behind_lines = after_acts along behind_orders

    -- acts after the lines
    behind : (last : List Act) (ended : Ended) → IsMade ended → GoesWell (along ++ asked) (see a) (see b) → Does see last ended b new → Does see (orders_acts start ++ (along ++ (asked ++ last))) ended old new
    behind last ended made well does =
        subst (λ (l : List Act). Does see (orders_acts start ++ l) ended old new) (append_assoc along asked last)
        (does_then see (orders_acts start) ((along ++ asked) ++ last) ended old a new orders made (does_then see (along ++ asked) last ended a b new well made does))

    -- an answer, and its last line
    answer : (exit result : Exit) (line : List ℕ) → GoesWell (along ++ asked) (see a) (see b) → AreAllAsked start script exit before behind_lines asked → IsAnswer exit → line ≡ closing_line (site_at start before).account exit → Says see exit result line b new
        → DoesScript see start script t result old new
    answer exit result line well all is same (inl (result_is, does)) =
        let ending : ending_of result ≡ answered = ap ending_of result_is ∙ answers exit is in
        let all' : AreAllAsked start script result before behind_lines asked = subst (λ (e : Exit). AreAllAsked start script e before behind_lines asked) (sym result_is) all in
        taken result answered before along asked (print_acts line) old new ending first lines asks
        (all', ap print_acts same ∙ ap (last_acts start before) (sym result_is))
        (behind (print_acts line) went_well tt well does)
    answer exit result line well all is same (inr (inl (result_is, does))) =
        taken result (faulted print_call) before along asked (print_acts line) old new (ap ending_of result_is) first lines asks
        (inr (exit, all, ap print_acts same))
        (behind (print_acts line) (broke print_call) tt well does)
    answer exit result line well all is same (inr (inr (result_is, none, free))) =
        let begun = script_begun start script t before first along lines asked asks [] (inl refl) in
        let acts : List Act = orders_acts start ++ (along ++ (asked ++ [])) in
        taken result starved before along asked [] old new (ap ending_of result_is) first lines asks (refl, inr (exit, all, free)) (record {
          done = [];
          later = begun.0;
          are = subst (λ (l : List Act). AreScriptActs start script t (l ++ begun.0)) (sym (append-nil acts)) begun.1;
          still = none_still (after_acts acts t);
          does = subst (λ (l : List Act). GoesWell l (see old) (see new)) (ap (λ (l : List Act). orders_acts start ++ (along ++ l)) (sym (append-nil asked)) ∙ sym (append-nil acts))
              (subst (λ x. GoesWell (orders_acts start ++ (along ++ asked)) (see old) (see x)) (sym none) (does_then see (orders_acts start) (along ++ asked) went_well old a b orders tt well));
        })

  -- the lines ended in this way, and then the run ends
  pub lines_taken : (old a b new : X) (lines_result : Result (Unit {0}) Exit) (run : Run) (exit result : Exit) → GoesWell (orders_acts start) (see old) (see a) → DoesLines see start script behind_orders lines_result run a b
      → EndsAs lines_result exit → Ends see exit result (closing_line run.ledger.account.state exit) b new → TakesScript see start script t result old new
  lines_taken old a b new (Ok done) run exit result orders d is (inl said) =
      inr (answer old a b new orders d.before d.first d.acts d.asked d.along d.asks exit result (closing_line run.ledger.account.state exit) d.does
      (subst (λ (e : Exit). AreAllAsked start script e d.before (after_acts d.acts behind_orders) d.asked) (sym is) d.ends.0) said.0
      (ap (λ (s : State). closing_line s exit) d.ends.1.account) said.1)
  lines_taken old a b new (Ok done) run exit result orders d is (inr cut) = absurd (not_both exit cut.0 (rw is refl))
  lines_taken old a b new (Err found) run exit result orders d is ends =
      by (ending_of found) refl d.does d.ends (subst (λ (e : Exit). Ends see e result (closing_line run.ledger.account.state e) b new) is.0 ends)
    where
      parts : DoesPart see (AreLinesActs start script behind_orders) behind_orders (d.acts ++ d.asked) a b → DoesPart see (AreScriptActs start script t) t (orders_acts start ++ (d.acts ++ (d.asked ++ []))) old b
      parts part =
          let first : List Act = orders_acts start in
          let lines : List Act = d.acts ++ d.asked in
          let made : List Act = part.done in
          let asks : List Act = script_asked start script (after_acts part.are.along behind_orders) in
          let all : List Act = last_acts start (reads_of script) (run_exit start script) in
          let none : d.acts ++ (d.asked ++ []) ≡ lines = ap (λ l. d.acts ++ l) (append-nil d.asked) in
          record {
            done = made;
            later = part.later ++ all;
            are = record {
              along = part.are.along;
              lines = part.are.lines;
              is = ap (λ l. ((first ++ l) ++ made) ++ (part.later ++ all)) none
                  ∙ append_assoc (first ++ lines) made (part.later ++ all)
                  ∙ append_assoc first lines (made ++ (part.later ++ all))
                  ∙ ap (λ l. first ++ l) (sym (append_assoc lines made (part.later ++ all)) ∙ sym (append_assoc (lines ++ made) part.later all) ∙ ap (λ l. l ++ all) part.are.is ∙ append_assoc part.are.along asks all);
            };
            still = subst (AreStill made) (sym (ap (λ l. after_acts (first ++ l) t) none ∙ after-append first lines t)) part.still;
            does = subst (λ (l : List Act). GoesWell l (see old) (see b))
                (ap (λ l. first ++ (l ++ made)) (sym none) ∙ sym (append_assoc first (d.acts ++ (d.asked ++ [])) made))
                (does_then see first (lines ++ made) went_well old a b orders tt part.does);
          }

      by : (ending : CallEnding) → ending_of found ≡ ending → DoesFirst see (AreLinesActs start script behind_orders) behind_orders (d.acts ++ d.asked) ending a b → AsksBy start script d.before (after_acts d.acts behind_orders) d.asked found ending
          → Ends see found result (closing_line run.ledger.account.state found) b new → TakesScript see start script t result old new
      by answered so well all (inl said) =
          inr (answer old a b new orders d.before d.first d.acts d.asked d.along d.asks found result (closing_line run.ledger.account.state found) well all said.0 (last_same found run.ledger.account.state (site_at start d.before).account is.1) said.1)
      by answered so well all (inr cut) = absurd (not_both found cut.0 (ap is_answered so))
      by (faulted kind) so failed all (inl said) = absurd (not_both found (ap is_answered so) said.0)
      by (faulted kind) so failed all (inr cut) =
          inr (rw (cut.1, cut.2) (taken found (faulted kind) d.before d.acts d.asked [] old b so d.first d.along d.asks (inl refl)
          (subst (λ (l : List Act). Breaks kind (orders_acts start ++ (d.acts ++ l)) (see old) (see b)) (sym (append-nil d.asked)) (does_then see (orders_acts start) (d.acts ++ d.asked) (broke kind) old a b orders tt failed))))
      by ending so part none (inl said) = absurd (not_both found (ap is_answered so) said.0)
      by ending so part none (inr cut) = inr (rw (cut.1, cut.2) (taken found ending d.before d.acts d.asked [] old b so d.first d.along d.asks (refl, inl none) (parts part)))
