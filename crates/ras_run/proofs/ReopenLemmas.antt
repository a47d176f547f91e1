-- Opening the journal again during a run: the clauses of an opening, as acts.
use Rattle.std.proofs.Common.{◌≡◌, ℕ, ◌≤◌, List, [], ◌∷◌, ◌++◌, length, map, Option, None, Some, Result, Ok, Err, OnErr, IfErr, refl, sym, ap, subst, ◌∙◌, inl, inr, append_assoc, arith}
use Rattle.std.specs.Option.{option_map}
use Rattle.std.proofs.lemmas.List.{map-append}
use Rattle.board_core.specs.declared.board.Access.{Access}
use Rattle.board_core.specs.declared.board.DiskCall.{DiskCall}
use Rattle.board_core.specs.Cause.{Kind, disk_call, print_call}
use Rattle.board_core.specs.Clock.{Adds, LeftNow, Rests}
use Rattle.board_core.specs.Stop.{Left}
use Rattle.board_core.specs.Told.{Told, Relates, with_call}
use Rattle.board_core.specs.Doing.{Act, Breaks, Does, FailsActs, GoesWell, Moment, Raises, Seen, after_acts, calls, one_end}
use Rattle.board_core.proofs.DoingLemmas.{does_then, made_one}
use Rattle.ras_account.specs.Account.{State}
use Rattle.ras_journal.specs.declared.standing.Standing.{Standing}
use Rattle.ras_journal.specs.Appending.{Before}
use Rattle.ras_journal.specs.Recovered.{Refusal, position_of, recovered}
use Rattle.ras_recover.specs.DiskCalls.{IsBeginning, Makes, with_calls}
use Rattle.ras_recover.specs.Opening.{Opening}
use Rattle.ras_recover.specs.OpeningCalls.{AfterOpening, IsOpening, IsRecoveryOf, MakesOpening}
use Rattle.ras_recover.proofs.OpeningActsLemmas.{after_reading, reading_fails}
use Rattle.ras_recover.proofs.OpeningCallsLemmas.{calls_opened, standing_recovers}
use Rattle.ras_texts.specs.Orders.{standing_lines}
use Rattle.ras_texts.specs.Text.{done_line}
use Rattle.ras_exit.specs.declared.exit.Exit.{Exit}
use Rattle.ras_exit.specs.declared.exit.Exit.TheVariants.{NoMemory, PrintFault}
use Rattle.ras_exit.specs.Acts.{AreStill, DoesBy, DoesSome, print_acts}
use Rattle.ras_exit.specs.Causes.{BoardCause, BoardCauseBy}
use Rattle.ras_exit.specs.Endings.{CallEnding, EndsBy, OnlyFault, answered, ending_of, faulted, source_failed, starved}
use Rattle.ras_exit.proofs.PrintLemmas.{as_part, part_does}
use Rattle.ras_run.specs.Files.{refusal_exit}
use Rattle.ras_run.specs.LineActs.{DoesReopening, event_prints}
use Rattle.ras_run.specs.Taking.{OpensLedger}
use Rattle.ras_run.proofs.OpenLemmas.{CountsEarlier, here_kept, opening_left}
use Rattle.ras_run.proofs.StandsLemmas.{same_told}

-- ---- calls that write nothing, as acts

pub reading_moment : (made : List DiskCall) (t : Told) (left : Left) → Moment (map calls made) t left → left ≡ t.here
reading_moment [] t left never = absurd never
reading_moment (call ∷ made) t left (inl same) = same
reading_moment (call ∷ made) t left (inr later) = reading_moment made (with_call call t) left later

reading_still : (made : List DiskCall) (t : Told) → AreStill (map calls made) t
reading_still made t = record { here = ap (λ (u : Told). u.here) (after_reading made t); moments = reading_moment made t }

-- ---- the clauses of an opening, over a journal whose files are valid

pub opened_at : (a b : Option Told) (t : Told) → a ≡ Some t → Relates AfterOpening a b → (u : Told) × (b ≡ Some u) × AfterOpening t u
opened_at a b t is tells = by b refl (subst (λ (o : Option Told). Relates AfterOpening o b) is tells)
  where
    by : (o : Option Told) → b ≡ o → Relates AfterOpening (Some t) o → (u : Told) × (b ≡ Some u) × AfterOpening t u
    by None same after = absurd after
    by (Some u) same after = (u, same, after)

module _ {X : Type 0} (see : X → Seen) (x y : X) (s : Standing) (a : State) (t u : Told) (before : Before s a t (see x).told (see x).clock) (now : (see y).told ≡ Some u) (opened : AfterOpening t u)
    (may : LeftNow (see x).clock t.here) (earlier : CountsEarlier (see x).clock) (earlier_then : CountsEarlier (see y).clock) (stops : Adds (Opening (see x).clock t.here) (see x).clock (see y).clock) where
  with_made : (made : List DiskCall) → u.disk_calls ≡ t.disk_calls ++ made → (see y).told ≡ Some (with_calls made t)
  with_made made listed =
      now
      ∙ ap Some
      (ap (λ (l : Left). record u { here = l }) (here_kept s a t u (see x).told (see x).clock before opened)
      ∙ (ap (λ v. record u { here = t.here; volatile = v }) opened.volatile
      ∙ (ap (λ (l : List DiskCall). record u { here = t.here; volatile = t.volatile; disk_calls = l }) listed
      ∙ ap (λ (l : List Access). record t { disk_calls = t.disk_calls ++ made; accesses = l }) opened.accesses)))

  abbrev begun : IsBeginning (IsOpening t.here) opened.calls.made
  begun = opened.calls.are

  pub reading : IsRecoveryOf t.here begun.whole
  reading = standing_recovers s t.here begun.whole before.at.position begun.are

  some_reading : (whole : List DiskCall) → IsRecoveryOf t.here whole → 1 ≤ length whole
  some_reading whole recovers = rw recovers.recovery.is (omega arith)

  -- A crash meanwhile leaves what a crash before left.
  adds_any : (P : Left → Type 0) → Adds P (see x).clock (see y).clock
  adds_any P = record {
    later = stops.later;
    each = λ since left le after. elim (stops.each since left le after) [
      | inl was ↦ inl was
      | inr by ↦ inl (earlier since (see x).clock.now left le (subst (LeftNow (see x).clock) (sym (opening_left s a t (see x).told (see x).clock left before by)) may))
    ];
  }

  rests_now : (left : Left) → LeftNow (see y).clock left → left ≡ t.here
  rests_now left after =
      elim (stops.each (see x).clock.now left (omega arith) (earlier_then (see x).clock.now (see y).clock.now left stops.later after)) [
        | inl was ↦ before.rests.only left was
        | inr by ↦ opening_left s a t (see x).told (see x).clock left before by
      ]

  read_well : (made : List DiskCall) → u.disk_calls ≡ t.disk_calls ++ made → (see y).faults ≡ (see x).faults → GoesWell (map calls made) (see x) (see y)
  read_well made listed same =
      let is : (see y).told ≡ Some (after_acts (map calls made) t) = with_made made listed ∙ ap Some (sym (after_reading made t)) in
      record {
        told = is ∙ ap (option_map (after_acts (map calls made))) (sym before.rests.is);
        stops = λ v rests. adds_any (Moment (map calls made) v);
        rests = λ v rests. subst (λ (w : Told). Rests (after_acts (map calls made) w) (see y).told (see y).clock) (sym (same_told v t (sym rests.is ∙ before.rests.is))) (record {
          is = is;
          only = λ left after. rests_now left after ∙ ap (λ (w : Told). w.here) (sym (after_reading made t));
        });
        faults = same;
      }

  module _ (number : ℕ) where
    abbrev prints : List Act
    prints = event_prints (standing_lines a) number

    -- Memory ran out after a beginning of the reading.
    pub read_some : (see y).faults ≡ (see x).faults → DoesSome see (map calls begun.whole ++ prints) x y
    read_some same = record {
      done = map calls opened.calls.made;
      later = map calls begun.begins.0 ++ prints;
      splits = sym (append_assoc (map calls opened.calls.made) (map calls begun.begins.0) prints)
          ∙ ap (λ (l : List Act). l ++ prints) (sym (map-append calls opened.calls.made begun.begins.0) ∙ ap (map calls) begun.begins.1);
      still = λ v is. reading_still opened.calls.made v;
      does = read_well opened.calls.made opened.calls.listed same;
    }

    read_failed : Raises disk_call (see x).faults (see y).faults → Breaks disk_call (map calls begun.whole ++ prints) (see x) (see y)
    read_failed raises = record {
      told = rw (before.rests.is, with_made opened.calls.made opened.calls.listed) fails;
      stops = λ v rests. adds_any (Moment (map calls begun.whole ++ prints) v);
      faults = raises;
    }
      where
        fails : FailsActs disk_call (map calls begun.whole ++ prints) t (with_calls opened.calls.made t)
        fails = subst (λ (l : List DiskCall). FailsActs disk_call (map calls l ++ prints) t (with_calls opened.calls.made t)) begun.begins.1
            (reading_fails opened.calls.made begun.begins.0 prints t (subst (λ (l : List DiskCall). 1 ≤ length l) (sym begun.begins.1) (some_reading begun.whole reading)))

    read_broke : (kind : Kind) → kind ≡ disk_call → BoardCauseBy (faulted kind) (see x).faults (see y).faults → Breaks kind (map calls begun.whole ++ prints) (see x) (see y)
    read_broke disk_call is raises = read_failed raises
    read_broke kind is raises = absurd cc

    -- A call failed, or memory ran out. The opening can't be rejected, because the journal's files are valid.
    pub not_reopened : (exit : Exit) → OpensLedger (Err exit) (recovered t.here.file0 t.here.file1) → BoardCause exit (see x).faults (see y).faults → DoesReopening see a number t.here (Err exit) x y
    not_reopened exit opens cause = (map calls begun.whole ++ prints, (begun.whole, reading, refl), by (ending_of exit) opens cause)
      where
        by : (ending : CallEnding) → EndsBy (refusal_exit (recovered t.here.file0 t.here.file1) ≡ Some exit) (Unit {0}) (OnlyFault disk_call) ending → BoardCauseBy ending (see x).faults (see y).faults → DoesBy see (map calls begun.whole ++ prints) ending x y
        by answered found same = absurd (let not : refusal_exit (recovered t.here.file0 t.here.file1) ≡ None = ap (λ (h : Result State Refusal). refusal_exit h) before.at.recovers in cc)
        by starved memory same = read_some same
        by (faulted kind) is raises = read_broke kind is raises
        by source_failed never same = absurd never

    pub starved_reopening : (see y).faults ≡ (see x).faults → DoesReopening see a number t.here (Err NoMemory) x y
    starved_reopening same = (map calls begun.whole ++ prints, (begun.whole, reading, refl), read_some same)

    -- The whole journal was read, and then the text was printed.
    pub reopened : (made : List DiskCall) → u.disk_calls ≡ t.disk_calls ++ made → IsRecoveryOf t.here made → (see y).faults ≡ (see x).faults → (printed : Result (Unit {0}) Exit) (text done : List ℕ) (z : X)
        → text ≡ standing_lines a → done ≡ done_line number → Does see (print_acts text ++ print_acts done) (one_end print_call printed) y z → OnErr printed (printed ≡ Err PrintFault)
        → DoesReopening see a number t.here printed x z
    reopened made listed recovers same printed text done z text_is done_is second fault =
        let out : print_acts text ++ print_acts done ≡ prints = ap (λ bytes. print_acts bytes ++ print_acts done) text_is ∙ ap (λ bytes. print_acts (standing_lines a) ++ print_acts bytes) done_is in (
          map calls made ++ prints,
          (made, recovers, refl),
          part_does see (map calls made ++ prints) printed x z (no_answer printed fault)
              (as_part see (map calls made ++ prints) printed x z fault
              (does_then see (map calls made) prints (one_end print_call printed) x y z (read_well made listed same) (made_one print_call printed)
              (subst (λ (acts : List Act). Does see acts (one_end print_call printed) y z) out second))),
        )
      where
        no_answer : (r : Result (Unit {0}) Exit) → OnErr r (r ≡ Err PrintFault) → IfErr r (λ exit. ending_of exit ≡ answered → map calls made ++ prints ≡ [])
        no_answer (Ok over) f = tt
        no_answer (Err exit) f = λ is. absurd (let same : exit ≡ PrintFault = cc in let ended : ending_of exit ≡ faulted print_call = ap ending_of same in cc)

-- An opening that returned Ok read all that decides the result.
pub all_read : (s : Standing) (t u : Told) (a b : Option Told) → position_of t.here.file0 t.here.file1 ≡ Some s → a ≡ Some t → b ≡ Some u → Relates MakesOpening a b
    → (made : List DiskCall) × (u.disk_calls ≡ t.disk_calls ++ made) × IsRecoveryOf t.here made
all_read s t u a b stands at now opens =
    let makes : Makes (IsOpening t.here) t u = rw (at, now) at (calls_opened a b opens) in
    (makes.made, makes.listed, standing_recovers s t.here makes.made stands makes.are)

-- Two files give at most one account.
pub account_held : (file0 file1 : List ℕ) (a b : State) → recovered file0 file1 ≡ Ok a → recovered file0 file1 ≡ Ok b → a ≡ b
account_held file0 file1 a b one two = cc
