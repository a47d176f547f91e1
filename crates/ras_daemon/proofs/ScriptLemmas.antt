-- What processing a script does, over a journal that was opened.
use Rattle.std.proofs.Common.{◌≡◌, ℕ, List, [], ◌∷◌, ◌++◌, Option, None, Some, IsSomeAnd, Result, refl, ap, sym, ◌∙◌, subst, append_assoc, append-nil, inl, inr}
use Rattle.std.specs.Prelude.{◌≢◌, ◌⊎◌}
use Rattle.std.specs.Option.{option_map}
use Rattle.std.proofs.lemmas.List.{append_cancel_left}
use Rattle.board_core.specs.Cause.{Kind}
use Rattle.board_core.specs.Clock.{Adds, Rests}
use Rattle.board_core.specs.Steps.ClockLemmas.{adds_none, adds_weaker}
use Rattle.board_core.specs.Doing.{Act, FailsActs, GoesWell, Moment, Seen, after_acts}
use Rattle.board_core.specs.Stop.{Left, Begins, InOut}
use Rattle.board_core.specs.Told.{Relates, Steps, Told}
use Rattle.board_core.proofs.DoingLemmas.{after-append, fails_first, moment_parts}
use Rattle.erst_store.specs.Store.{Stored}
use Rattle.ras_account.specs.Account.{State}
use Rattle.ras_journal.specs.Recovered.{Recovers, recovered}
use Rattle.ras_events.specs.declared.event.Event.{Event}
use Rattle.ras_events.specs.declared.event.LineRefusal.{LineRefusal}
use Rattle.ras_events.specs.Described.{NumberedLine}
use Rattle.ras_run.specs.Sites.{Site, Start, first_site}
use Rattle.ras_run.specs.Places.{Place, event_at, places_from, site_at}
use Rattle.ras_daemon.specs.Script.{reads_of}
use Rattle.ras_exit.specs.Acts.{AreStill, print_acts}
use Rattle.ras_exit.specs.Endings.{CallEnding, answered, ending_of, faulted, starved}
use Rattle.ras_exit.specs.ScriptEnd.{script_exit}
use Rattle.ras_exit.specs.declared.exit.Exit.{Exit}
use Rattle.ras_exit.specs.declared.exit.Exit.TheVariants.{ErstBusy}
use Rattle.ras_exit.proofs.PrintLemmas.{after_printed, print_moment}
use Rattle.ras_run.specs.LineActs.{AreFollowing, AreLineActs, AreUnlessRefused, HoldsAt, asking_acts}
use Rattle.ras_run.specs.Moments.{refused_store}
use Rattle.ras_run.specs.Status.{places_before_refusal, refusal_at}
use Rattle.ras_run.proofs.LineLawLemmas.{asking_moment, line_still}
use Rattle.ras_run.proofs.SomeActLemmas.{some_acts}
use Rattle.ras_texts.specs.Orders.{standing_lines}
use Rattle.ras_daemon.specs.Steps.Doing.{AreAllAsked, AreLinesActs, DoesFirst, DoesPart, DoesScript, IsAsked, IsLastBy, KeepsStore, MayAsk, TakesScript}
use Rattle.ras_daemon.specs.RunActs.{AreActsAlong, AreDoneAlong, AreScriptActs, DidOf, TookAll, last_acts, orders_acts, script_asked}
use Rattle.ras_daemon.specs.RunOutput.{closing_line}
use Rattle.ras_daemon.specs.RunStatus.{run_exit}
use Rattle.ras_daemon.specs.Steps.Running.{AreAll, AreFirst, EndsEarly, EndsIn, EndsSo, LinesMoment, OpenMoment, RunEnds, StoreAtEnd, lines_from, outputs}
use Rattle.ras_daemon.proofs.AlongActLemmas.{acts_along, along_begun, along_done, along_moment, along_prints, line_begun, moment_in}
use Rattle.ras_daemon.proofs.FirstLinesLemmas.{closing-same, first-before, others}
use Rattle.ras_daemon.proofs.PlaceLemmas.{line_refused}

-- ---- prints, and what comes after the lines

pub printed_out : (text : List ℕ) (t : Told) → (after_acts (print_acts text) t).here.out ≡ t.here.out ++ text
printed_out text t = ap (λ (u : Told). u.here.out) (after_printed text t)

pub printed_holds : (site : Site) (text : List ℕ) (t : Told) → HoldsAt site t → HoldsAt site (after_acts (print_acts text) t)
printed_holds site [] t holds = holds
printed_holds site (b ∷ text) t holds = record {
  account = holds.account;
  at = record { recovers = holds.at.recovers; position = holds.at.position };
  board = record { store = holds.board.store; slow = holds.board.slow };
  drivable = holds.drivable;
}

-- equal files give the same account
recovers_same : (account : State) (here left : Left) → left.file0 ≡ here.file0 → left.file1 ≡ here.file1 → Recovers account here → Recovers account left
recovers_same account here left zero one recovers = record { is = (λ i. recovered (zero i) (one i)) ∙ recovers.is }

-- what comes after the lines: no last line, or one
abbrev pub IsLast : Start → List ℕ → List NumberedLine → Told → List Act → List Act → Type 0
IsLast start script before t asked last = (last ≡ []) ⊎ ((end : Exit) × AreAllAsked start script end before t asked × (last ≡ last_acts start before end))

-- ---- what the next line asks

store_kept : (exit : Exit) (event : Result Event LineRefusal) (store : List Stored) → exit ≢ ErstBusy → refused_store exit event store ≡ store
store_kept ErstBusy event store free = absurd (free refl)
store_kept exit event store free = refl

module _ (start : Start) (script : List ℕ) (before : List NumberedLine) (first : AreFirst start script before) (t : Told) (holds : HoldsAt (site_at start before) t) (asked : List Act) where
  -- the line that asks, at its place
  abbrev place : IsAsked start script before t asked → Place
  place asks = (site_at start before, asks.read)

  module _ (asks : IsAsked start script before t asked) where
    asked_moment : (out : List ℕ) (left : Left) → t.here.out ≡ out ++ outputs start before → Moment asked t left → LinesMoment start script out left
    asked_moment out left text moment =
        moment_in start script out before asks.rest asks.read t left asks.splits first.accepted text
        (asking_moment (place asks) t holds asks.can left (subst (λ (l : List Act). Moment l t left) asks.is moment))

    -- the line is rejected, if these are all lines that are taken
    asked_refused : (end : Exit) → AreAll start script end before → refusal_at (place asks) ≡ Some end
    asked_refused end all = by (refusal_at (place asks)) refl
      where
        by : (refusal : Option Exit) → refusal_at (place asks) ≡ refusal → refusal_at (place asks) ≡ Some end
        by None taken =
            let here : AreFirst start script before = record { rest = asks.read ∷ asks.rest; splits = asks.splits; accepted = first.accepted } in
            let none : places_before_refusal (others start script before here) ≡ [] =
            append_cancel_left (places_from (first_site start) before) _ [] (sym (first-before start script before here) ∙ all.all ∙ sym (append-nil (places_from (first_site start) before))) in
            let never = rw taken at none in absurd cc
        by (Some exit) refused = refused ∙ ap Some (sym (line_refused start script before asks.rest asks.read exit asks.splits first.accepted refused).exit_is ∙ all.exit_is)

    asked_are : (end : Exit) → refusal_at (place asks) ≡ Some end → AreLineActs (place asks) t asked
    asked_are end refused = record {
      rest = [];
      is = asks.is ∙ sym (append-nil (asking_acts (place asks) t));
      follow = subst (λ (r : Option Exit). AreUnlessRefused r (AreFollowing (place asks) (after_acts (asking_acts (place asks) t) t)) []) (sym refused) refl;
    }

    asked_left : (end : Exit) → AreAll start script end before → (after_acts asked t).here ≡ record t.here { store = refused_store end (event_at (place asks)) (site_at start before).store }
    asked_left end all = (let refused = asked_refused end all in line_still (place asks) end t asked refused asks.can holds (asked_are end refused))

  -- the store after all lines
  pub left_at_end : (end : Exit) → AreAllAsked start script end before t asked → (store : List Stored) × StoreAtEnd start script before end store × ((after_acts asked t).here ≡ record t.here { store = store })
  left_at_end end all = by all.ends
    where
      by : ((end ≡ script_exit script) × (asked ≡ [])) ⊎ IsAsked start script before t asked → (store : List Stored) × StoreAtEnd start script before end store × ((after_acts asked t).here ≡ record t.here { store = store })
      by (inl (is, none)) = (t.here.store, inl (is, holds.board.store), ap (λ (l : List Act). (after_acts l t).here) none)
      by (inr asks) = (
        refused_store end (event_at (place asks)) (site_at start before).store,
        inr (record { read = asks.read; rest = asks.rest; splits = asks.splits; refused = asked_refused asks end all.all; is = refl }),
        asked_left asks end all.all,
      )

  -- what was asked changes nothing, unless the device was too slow
  pub asked_none : KeepsStore start script before t asked → (after_acts asked t).here ≡ t.here
  asked_none (inl none) = ap (λ (l : List Act). (after_acts l t).here) none
  asked_none (inr (end, all, free)) = by all.ends
    where
      by : ((end ≡ script_exit script) × (asked ≡ [])) ⊎ IsAsked start script before t asked → (after_acts asked t).here ≡ t.here
      by (inl (is, none)) = ap (λ (l : List Act). (after_acts l t).here) none
      by (inr asks) =
          asked_left asks end all.all
          ∙ ap (λ (store : List Stored). record t.here { store = store }) (store_kept end (event_at (place asks)) (site_at start before).store free ∙ sym holds.board.store)

-- ---- the acts of a script, up to these lines

module _ (start : Start) (script : List ℕ) (t : Told) (before : List NumberedLine) (first : AreFirst start script before) (along : List Act) (lines : AreDoneAlong (places_from (first_site start) before) (after_acts (orders_acts start) t) along)
    (asked : List Act) (asks : MayAsk start script before (after_acts along (after_acts (orders_acts start) t)) asked) (last : List Act) where
  abbrev pub script_acts : List Act
  script_acts = orders_acts start ++ (along ++ (asked ++ last))

  -- the model after the orders, after the lines, and after what was asked
  abbrev behind_orders : Told
  behind_orders = after_acts (orders_acts start) t

  abbrev behind_lines : Told
  behind_lines = after_acts along behind_orders

  abbrev behind_asked : Told
  behind_asked = after_acts asked behind_lines

  are_along : AreActsAlong (places_from (first_site start) before) behind_orders along
  are_along = acts_along (places_from (first_site start) before) behind_orders along lines

  lines_out : behind_lines.here.out ≡ lines_from start t.here.out ++ outputs start before
  lines_out =
      along_prints (places_from (first_site start) before) behind_orders along first.accepted are_along
      ∙ ap (λ out. out ++ outputs start before) (printed_out (standing_lines start.account) t)

  -- with the last line, these are all acts of the script
  script_whole : (end : Exit) → AreAllAsked start script end before behind_lines asked → last ≡ last_acts start before end → AreScriptActs start script t script_acts
  script_whole end all is = record {
    along = along;
    lines = rw all.all.all are_along;
    is = λ i. orders_acts start ++ (along ++ (all.is i ++ (is ∙ ap print_acts (closing-same start script end before all.all)) i));
  }

  -- without the last line, these are the first acts of all lines
  lines_begun : MayAsk start script before behind_lines asked → (more : List Act) × AreLinesActs start script behind_orders ((along ++ asked) ++ more)
  lines_begun (inl silent) =
      let begun = along_begun start script before behind_orders along first are_along in
      let rest : List Act = script_asked start script (after_acts (along ++ begun.0) behind_orders) in (
        begun.0 ++ rest,
        record {
          along = along ++ begun.0;
          lines = begun.1;
          is = ap (λ l. (along ++ l) ++ (begun.0 ++ rest)) silent ∙ ap (λ l. l ++ (begun.0 ++ rest)) (append-nil along) ∙ sym (append_assoc along begun.0 rest);
        },
      )
  lines_begun (inr has) =
      let some = some_acts (site_at start before, has.read) behind_lines in
      line_begun start script behind_orders before has.rest has.read has.splits first.accepted along are_along some.0 some.1 asked some.1.rest
      (ap (λ l. l ++ some.1.rest) has.is ∙ sym some.1.is)

  begun_by : last ≡ [] → (more : List Act) × AreScriptActs start script t (script_acts ++ more)
  begun_by none =
      let begun = lines_begun asks in
      let rest : List Act = script_asked start script (after_acts begun.1.along behind_orders) in
      let all : List Act = last_acts start (reads_of script) (run_exit start script) in
      let short : along ++ (asked ++ last) ≡ along ++ asked = ap (λ l. along ++ (asked ++ l)) none ∙ ap (λ l. along ++ l) (append-nil asked) in (
        begun.0 ++ all,
        record {
          along = begun.1.along;
          lines = begun.1.lines;
          is = append_assoc (orders_acts start) (along ++ (asked ++ last)) (begun.0 ++ all)
              ∙ ap (λ more. orders_acts start ++ more)
              (ap (λ more. more ++ (begun.0 ++ all)) short ∙ sym (append_assoc (along ++ asked) begun.0 all) ∙ ap (λ more. more ++ all) begun.1.is ∙ append_assoc begun.1.along rest all);
        },
      )

  pub script_begun : IsLast start script before behind_lines asked last → (more : List Act) × AreScriptActs start script t (script_acts ++ more)
  script_begun (inl none) = begun_by none
  script_begun (inr (end, all, is)) = ([], rw append-nil (script_whole end all is))

  module _ (holds : HoldsAt (first_site start) t) where
    pub lines_hold : HoldsAt (site_at start before) behind_lines
    lines_hold = along_done (first_site start) before behind_orders along first.accepted (printed_holds (first_site start) (standing_lines start.account) t holds) lines

    after_script : after_acts script_acts t ≡ after_acts last behind_asked
    after_script =
        after-append (orders_acts start) (along ++ (asked ++ last)) t ∙ after-append along (asked ++ last) behind_orders
        ∙ after-append asked last behind_lines

    -- what a crash at a moment of these acts leaves
    at_last : (left : Left) → IsLast start script before behind_lines asked last → Moment last behind_asked left → OpenMoment start script t.here.out left
    at_last left (inl none) moment = absurd (subst (λ (l : List Act). Moment l behind_asked left) none moment)
    at_last left (inr (end, all, is)) moment =
        let text : List ℕ = closing_line (site_at start before).account end in
        let by : InOut (Begins text) behind_asked.here left = print_moment text behind_asked left (subst (λ (l : List Act). Moment l behind_asked left) is moment) in
        let found = left_at_end start script before first behind_lines lines_hold asked end all in
        let rest : left ≡ record behind_lines.here { store = found.0; out = by.text } = by.rest ∙ ap (λ (l : Left). record l { out = by.text }) found.2 in
        inr (inr (record {
          before = before;
          exit = end;
          all = all.all;
          recovers = recovers_same (site_at start before).account behind_lines.here left (ap (λ (l : Left). l.file0) rest) (ap (λ (l : Left). l.file1) rest) (record { is = lines_hold.at.recovers });
          store = subst (StoreAtEnd start script before end) (sym (ap (λ (l : Left). l.store) rest)) found.1;
          text = subst (λ out. Begins text out left.out) (ap (λ (l : Left). l.out) found.2 ∙ lines_out) (subst (λ out. Begins text behind_asked.here.out out) (sym (ap (λ (l : Left). l.out) rest)) by.step);
        }))

    at_asked : (left : Left) → MayAsk start script before behind_lines asked → Moment asked behind_lines left → OpenMoment start script t.here.out left
    at_asked left (inl silent) moment = absurd (subst (λ (l : List Act). Moment l behind_lines left) silent moment)
    at_asked left (inr has) moment = inr (inl (asked_moment start script before first behind_lines lines_hold asked has (lines_from start t.here.out) left lines_out moment))

    script_moment : (left : Left) → IsLast start script before behind_lines asked last → Moment script_acts t left → OpenMoment start script t.here.out left
    script_moment left is moment = elim (moment_parts (orders_acts start) (along ++ (asked ++ last)) t left moment) [
      | inl at ↦
          (let orders : List ℕ = standing_lines start.account in
          let by : InOut (Begins orders) t.here left = print_moment orders t left at in
          inl (record {
            recovers = rw by.rest (record { is = holds.at.recovers });
            store = ap (λ (l : Left). l.store) by.rest ∙ holds.board.store;
            text = subst (λ out. Begins orders t.here.out out) (sym (ap (λ (l : Left). l.out) by.rest)) by.step;
          }))
      | inr later ↦ elim (moment_parts along (asked ++ last) behind_orders left later) [
        | inl among ↦
            inr (inl (along_moment start script (lines_from start t.here.out) before behind_orders along left first (printed_out (standing_lines start.account) t)
            (printed_holds (first_site start) (standing_lines start.account) t holds) lines among))
        | inr behind ↦ elim (moment_parts asked last behind_lines left behind) [
          | inl asking ↦ at_asked left asks asking
          | inr end ↦ at_last left is end
        ]
      ]
    ]

    -- no last line was printed, after a line that only read or was rejected
    module _ (none : last ≡ []) (silent : KeepsStore start script before behind_lines asked) (done : List Act) (still : AreStill done (after_acts script_acts t)) where
      here_still : (after_acts script_acts t).here ≡ behind_lines.here
      here_still = ap (λ (u : Told). u.here) (after_script ∙ ap (λ (l : List Act). after_acts l behind_asked) none) ∙ asked_none start script before first behind_lines lines_hold asked silent

      still_stop : (left : Left) → Moment done (after_acts script_acts t) left → OpenMoment start script t.here.out left
      still_stop left moment =
          let here : left ≡ behind_lines.here = still.moments left moment ∙ here_still in
          inr (inl (inl (record { before = before; first = first; recovers = rw here (record { is = lines_hold.at.recovers }); store = ap (λ (l : Left). l.store) here ∙ lines_hold.board.store; text = rw here lines_out })))

      -- how a run ends that is cut short
      script_early : EndsEarly start script t.here.out (after_acts (script_acts ++ done) t)
      script_early =
          let here : (after_acts (script_acts ++ done) t).here ≡ behind_lines.here = ap (λ (u : Told). u.here) (after-append script_acts done t) ∙ still.here ∙ here_still in
          record {
            before = before;
            first = first;
            recovers = subst (λ (l : Left). Recovers (site_at start before).account l) (sym here) (record { is = lines_hold.at.recovers });
            store = ap (λ (l : Left). l.store) here ∙ lines_hold.board.store;
            text = inl (holds.account, ap (λ (l : Left). l.out) here ∙ lines_out ∙ append_assoc t.here.out (standing_lines start.account) (outputs start before));
          }

    -- how a run ends with an answer
    script_so : (exit : Exit) → AreAllAsked start script exit before behind_lines asked → last ≡ last_acts start before exit → EndsSo start script exit t.here.out (after_acts script_acts t)
    script_so exit all is =
        let text : List ℕ = closing_line (site_at start before).account exit in
        let orders : List ℕ = standing_lines start.account in
        let found = left_at_end start script before first behind_lines lines_hold asked exit all in
        let there : (after_acts script_acts t).here ≡ record behind_lines.here { store = found.0; out = behind_lines.here.out ++ text } =
        ap (λ (u : Told). u.here) (after_script ∙ ap (λ (l : List Act). after_acts l behind_asked) is ∙ after_printed text behind_asked)
        ∙ ap (λ (l : Left). record l { out = l.out ++ text }) found.2 in
        record {
          before = before;
          all = all.all;
          account = holds.account;
          recovers = recovers_same (site_at start before).account behind_lines.here (after_acts script_acts t).here (ap (λ (l : Left). l.file0) there) (ap (λ (l : Left). l.file1) there) (record { is = lines_hold.at.recovers });
          store = subst (StoreAtEnd start script before exit) (sym (ap (λ (l : Left). l.store) there)) found.1;
          text = ap (λ (l : Left). l.out) there
              ∙ ap (λ out. out ++ text) lines_out
              ∙ append_assoc (t.here.out ++ orders) (outputs start before) text
              ∙ append_assoc t.here.out orders (outputs start before ++ text);
        }

-- ---- of a script that was taken

-- the model after acts that succeeded
pub told_after : (acts : List Act) (t : Told) (old new : Option Told) → old ≡ Some t → Steps (after_acts acts) old new → new ≡ Some (after_acts acts t)
told_after acts t old new is steps = steps ∙ ap (option_map (after_acts acts)) is

pub told_failed : (kind : Kind) (acts : List Act) (t : Told) (old new : Option Told) → old ≡ Some t → Relates (FailsActs kind acts) old new → (now : Told) × (new ≡ Some now) × FailsActs kind acts t now
told_failed kind acts t old new is fails = by new (subst (λ (o : Option Told). Relates (FailsActs kind acts) o new) is fails)
  where
    by : (new : Option Told) → Relates (FailsActs kind acts) (Some t) new → (now : Told) × (new ≡ Some now) × FailsActs kind acts t now
    by None fails = absurd fails
    by (Some now) fails = (now, refl, fails)

-- Not even the orders at the start were printed.
pub early_none : (start : Start) (script : List ℕ) (t now : Told) → Recovers start.account now.here → now.here.store ≡ start.store → now.here.out ≡ t.here.out → EndsEarly start script t.here.out now
early_none start script t now recovers store text = record {
  before = [];
  first = record { rest = reads_of script; splits = refl; accepted = tt };
  recovers = record { is = recovers.is };
  store = store;
  text = inr (text, refl);
}

-- some acts of a script
pub script_some : (start : Start) (script : List ℕ) (t : Told) → (acts : List Act) × AreScriptActs start script t acts
script_some start script t =
    let begun = script_begun start script t [] (record { rest = reads_of script; splits = refl; accepted = tt }) [] refl [] (inl refl) [] (inl refl) in
    ((orders_acts start ++ ([] ++ ([] ++ []))) ++ begun.0, begun.1)

module _ {X : Type 0} (see : X → Seen) (start : Start) (script : List ℕ) (t : Told) (exit : Exit) (old new : X) (rests : Rests t (see old).told (see old).clock) where
  told_done : (acts : List Act) → GoesWell acts (see old) (see new) → (see new).told ≡ Some (after_acts acts t)
  told_done acts does = told_after acts t (see old).told (see new).told rests.is does.told

  -- which acts were done
  abbrev pub Did : CallEnding → Told → Type 0
  Did ending now = (acts : List Act) × AreScriptActs start script t acts × DidOf acts ending t now

  abbrev acts_by : DoesScript see start script t exit old new → List Act
  acts_by d = orders_acts start ++ (d.along ++ (d.asked ++ d.last))

  did_by : (d : DoesScript see start script t exit old new) (ending : CallEnding) → IsLastBy start script d.before (after_acts d.along (after_acts (orders_acts start) t)) d.asked exit ending d.last
      → DoesFirst see (AreScriptActs start script t) t (acts_by d) ending old new → IsSomeAnd (see new).told (Did ending)
  did_by d answered ends does =
      rw (told_done (acts_by d) does) (acts_by d, script_whole start script t d.before d.first d.along d.lines d.asked d.asks d.last exit ends.0 ends.1, refl)
  did_by d (faulted kind) ends does =
      let all = script_begun start script t d.before d.first d.along d.lines d.asked d.asks d.last ends in
      let failed = told_failed kind (acts_by d) t (see old).told (see new).told rests.is does.told in
      rw failed.1 (acts_by d ++ all.0, all.1, fails_first kind (acts_by d) all.0 t failed.0 failed.2)
  did_by d ending ends does =
      let done : List Act = acts_by d ++ does.done in
      rw (told_done done does.does) (done ++ does.later, does.are, (done, (does.later, refl), refl))

  pub takes_did : TakesScript see start script t exit old new → IsSomeAnd (see new).told (Did (ending_of exit))
  takes_did (inl none) =
      let some = script_some start script t in
      rw (none.0, none.1) (subst (λ (o : Option Told). IsSomeAnd o (Did starved)) (sym rests.is) (some.0, some.1, ([], (some.0, refl), refl)))
  takes_did (inr d) = did_by d (ending_of exit) d.ends d.does

  -- a run that ended with an answer took all lines
  pub took_all : ending_of exit ≡ answered → TakesScript see start script t exit old new → IsSomeAnd (see new).told (TookAll start script t)
  unfolding script_whole
  took_all is (inl none) = let e = sym is ∙ ap ending_of none.0 in absurd cc
  took_all is (inr d) =
      by (subst (λ (e : CallEnding). IsLastBy start script d.before (after_acts d.along (after_acts (orders_acts start) t)) d.asked exit e d.last) is d.ends)
      (subst (λ (e : CallEnding). DoesFirst see (AreScriptActs start script t) t (acts_by d) e old new) is d.does)
    where
      by : AreAllAsked start script exit d.before (after_acts d.along (after_acts (orders_acts start) t)) d.asked × (d.last ≡ last_acts start d.before exit) → GoesWell (acts_by d) (see old) (see new)
          → IsSomeAnd (see new).told (TookAll start script t)
      by ends does =
          rw (told_done (acts_by d) does) (record {
            before = d.before;
            rest = d.first.rest;
            splits = d.first.splits;
            all = ends.0.all.all;
            accepted = d.first.accepted;
            along = d.along;
            lines = d.lines;
            is = ap (λ (l : List Act). after_acts l t) (script_whole start script t d.before d.first d.along d.lines d.asked d.asks d.last exit ends.0 ends.1).is;
          })

  module _ (holds : HoldsAt (first_site start) t) where
    -- how the run ends
    abbrev IsBetween : DoesScript see start script t exit old new → Type 0
    IsBetween d = (d.last ≡ []) × KeepsStore start script d.before (after_acts d.along (after_acts (orders_acts start) t)) d.asked

    early_by : (d : DoesScript see start script t exit old new) → IsBetween d → DoesPart see (AreScriptActs start script t) t (acts_by d) old new → IsSomeAnd (see new).told (EndsEarly start script t.here.out)
    early_by d away part =
        rw (told_done (acts_by d ++ part.done) part.does) (script_early start script t d.before d.first d.along d.lines d.asked d.asks d.last holds away.0 away.1 part.done part.still)

    runs_by : (d : DoesScript see start script t exit old new) (ending : CallEnding) → IsLastBy start script d.before (after_acts d.along (after_acts (orders_acts start) t)) d.asked exit ending d.last
        → DoesFirst see (AreScriptActs start script t) t (acts_by d) ending old new → IsSomeAnd (see new).told (EndsIn start script exit ending t.here.out)
    runs_by d answered ends does = rw (told_done (acts_by d) does) (script_so start script t d.before d.first d.along d.lines d.asked d.asks d.last holds exit ends.0 ends.1)
    runs_by d (faulted kind) ends does = rw (told_failed kind (acts_by d) t (see old).told (see new).told rests.is does.told).1 tt
    runs_by d ending ends does = early_by d ends does

    pub takes_runs : TakesScript see start script t exit old new → IsSomeAnd (see new).told (RunEnds start script exit t.here.out)
    takes_runs (inl none) =
        rw (none.0, none.1) (subst (λ (o : Option Told). IsSomeAnd o (EndsEarly start script t.here.out)) (sym rests.is) (early_none start script t t (record { is = holds.at.recovers }) holds.board.store refl))
    takes_runs (inr d) = runs_by d (ending_of exit) d.ends d.does

    -- what crashes leave while these acts are done
    stops_whole : (d : DoesScript see start script t exit old new) → IsLast start script d.before (after_acts d.along (after_acts (orders_acts start) t)) d.asked d.last → Adds (Moment (acts_by d) t) (see old).clock (see new).clock
        → Adds (OpenMoment start script t.here.out) (see old).clock (see new).clock
    stops_whole d is adds =
        adds_weaker (Moment (acts_by d) t) (OpenMoment start script t.here.out) (see old).clock (see new).clock adds
        (λ left moment. script_moment start script t d.before d.first d.along d.lines d.asked d.asks d.last holds left is moment)

    stops_part : (d : DoesScript see start script t exit old new) → IsBetween d → (part : DoesPart see (AreScriptActs start script t) t (acts_by d) old new) → Adds (OpenMoment start script t.here.out) (see old).clock (see new).clock
    stops_part d away part =
        adds_weaker (Moment (acts_by d ++ part.done) t) (OpenMoment start script t.here.out) (see old).clock (see new).clock (part.does.stops t rests)
        (λ left moment. elim (moment_parts (acts_by d) part.done t left moment) [
          | inl at ↦ script_moment start script t d.before d.first d.along d.lines d.asked d.asks d.last holds left (inl away.0) at
          | inr reading ↦ still_stop start script t d.before d.first d.along d.lines d.asked d.asks d.last holds away.0 away.1 part.done part.still left reading
        ])

    stops_by : (d : DoesScript see start script t exit old new) (ending : CallEnding) → IsLastBy start script d.before (after_acts d.along (after_acts (orders_acts start) t)) d.asked exit ending d.last
        → DoesFirst see (AreScriptActs start script t) t (acts_by d) ending old new → Adds (OpenMoment start script t.here.out) (see old).clock (see new).clock
    stops_by d answered ends does = stops_whole d (inr (exit, ends.0, ends.1)) (does.stops t rests)
    stops_by d (faulted kind) ends does = stops_whole d ends (does.stops t rests)
    stops_by d ending ends does = stops_part d ends does

    pub takes_stops : TakesScript see start script t exit old new → Adds (OpenMoment start script t.here.out) (see old).clock (see new).clock
    takes_stops (inl none) = rw none.1 (adds_none (OpenMoment start script t.here.out) (see old).clock)
    takes_stops (inr d) = stops_by d (ending_of exit) d.ends d.does
