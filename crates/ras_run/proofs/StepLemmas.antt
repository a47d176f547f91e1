-- A line that was read, processed at the run's site.
use Rattle.std.proofs.Common.{◌≡◌, ◌∙◌, ℕ, Bool, if◌then◌else◌, List, [], ◌∷◌, ◌++◌, unwrap_or, Option, None, Some, Result, Ok, Err, IfErr, append_assoc, append-nil, refl, sym, ap, subst, inl, inr}
use Rattle.board_core.specs.Cause.{Kind, print_call}
use Rattle.board_core.specs.Told.{Told, device_of}
use Rattle.board_core.specs.Doing.{Act, Breaks, Does, GoesWell, Seen, after_acts, device, put}
use Rattle.board_core.proofs.DoingLemmas.{does_nothing}
use Rattle.erst_driver.specs.Operations.{write_calls}
use Rattle.erst_interp.specs.Run.{acts_of}
use Rattle.erst_store.specs.DeviceLaws.{IsDevice}
use Rattle.erst_store.specs.Store.{refusal_of}
use Rattle.ras_account.specs.Continued.{account_after_all}
use Rattle.ras_account.specs.Numbers.{fresh_entries_in}
use Rattle.ras_script.specs.declared.line.Line.{Line}
use Rattle.ras_script.specs.declared.line.LineRefused.{LineRefused}
use Rattle.ras_script.specs.declared.line.LineRefused.TheVariants as refused
use Rattle.ras_script.specs.Line.{GivesLine}
use Rattle.ras_events.specs.declared.event.Event.{Event}
use Rattle.ras_events.specs.declared.event.Event.TheVariants.{Nothing, Settled, Counted, Put, Saved, Polled, Reopened}
use Rattle.ras_events.specs.declared.event.LineRefusal.{LineRefusal}
use Rattle.ras_events.specs.declared.event.LineRefusal.TheVariants.{Bad, NoTable}
use Rattle.ras_events.specs.declared.made.Piece.{Piece}
use Rattle.ras_events.specs.declared.settings.Settings.{Settings}
use Rattle.ras_events.specs.Events.{Lists, event_of, settings_after}
use Rattle.ras_events.specs.Making.{entries_in, polled}
use Rattle.ras_events.specs.Deeds.{made_in}
use Rattle.ras_events.specs.Described.{settings_read}
use Rattle.ras_run.specs.Places.{event_at}
use Rattle.ras_events.specs.Sizes.{CanBeSaved, IsFit}
use Rattle.ras_events.proofs.FitLemmas.{nothing_fits}
use Rattle.ras_exit.specs.declared.exit.Exit.{Exit}
use Rattle.ras_exit.specs.declared.exit.Exit.TheVariants.{Full, NoMemory}
use Rattle.ras_exit.specs.declared.reason.Reason.TheVariants as reason
use Rattle.ras_exit.specs.Acts.{DoesBy, DoesSome, ended_with, part_end, print_acts}
use Rattle.ras_exit.specs.Endings.{AnyFault, CallEnding, EndsBy, OnlyFault, answered, ending_of, faulted, source_failed, starved, unread_exit}
use Rattle.ras_exit.proofs.EndingLemmas.{ends_weaker}
use Rattle.ras_exit.proofs.PrintLemmas.{none_still}
use Rattle.ras_records.specs.Polls.{look_calls, readable_ids}
use Rattle.ras_texts.specs.Text.{done_line}
use Rattle.ras_run.specs.declared.run.Run.{Run}
use Rattle.ras_run.specs.LineActs.{AreActsIn, AreBegunIn, AreFollowingIn, AreUnlessRefused, AskingEnds, CanAsk, DoesAsking, DoesPoll, DoesReopening, TakesEvent, TakesLine, asking_by, event_prints, made_acts, polled_acts}
use Rattle.ras_events.specs.Deeds.{deed_of}
use Rattle.ras_run.specs.News.{has_no_room_for, standing_with_news}
use Rattle.ras_run.specs.Status.{counting_refusal, put_refusal, site_refusal, refused_exit, saving_refusal}
use Rattle.ras_run.specs.Sites.{IsDrivable, Site, driving_lists, site_of}
use Rattle.ras_run.specs.Taking.{CountsMade, CountsPolled, EndsUnless, IsAcceptedIn, IsPrintExit, Reopens, TakesIn}
use Rattle.ras_run.proofs.AskingLemmas.{asked_then}
use Rattle.ras_run.proofs.CountLemmas.{counts_unless, ends_unless}
use Rattle.ras_run.proofs.DrivenLemmas.{IsDriven, driven}
use Rattle.ras_run.proofs.SomeActLemmas.{some_in}

-- ---- an event that makes device calls, and then does the rest

module _ (site : Site) (number : ℕ) (event : Result Event LineRefusal) (t : Told) where
  abbrev asked : List Act
  asked = asking_by (driving_lists site) event t

  abbrev Follows : List Act → Type 0
  Follows = AreFollowingIn site number (deed_of event) (after_acts asked t)

  refused_acts : (why : Exit) → site_refusal site number event ≡ Some why → AreActsIn site number event t (asked ++ [])
  refused_acts why is = record { rest = []; is = refl; follow = subst (λ (r : Option Exit). AreUnlessRefused r Follows []) (sym is) refl }

  taken_acts : (rest : List Act) → IsAcceptedIn site number event → Follows rest → AreActsIn site number event t (asked ++ rest)
  taken_acts rest accepted follow = record { rest = rest; is = refl; follow = subst (λ (r : Option Exit). AreUnlessRefused r Follows rest) (sym accepted.taken) follow }

  module _ {X : Type 0} (see : X → Seen) (x y : X) where
    -- A beginning of the device calls was made, and then memory ran out.
    some_does : DoesSome see asked x y → (acts : List Act) × AreActsIn site number event t acts × DoesSome see acts x y
    some_does some =
        let all = some_in site number event t in (
          all.0,
          all.1,
          record {
            done = some.done;
            later = some.later ++ all.1.rest;
            splits = sym (append_assoc some.done some.later all.1.rest) ∙ (ap (λ (acts : List Act). acts ++ all.1.rest) some.splits ∙ sym all.1.is);
            still = some.still;
            does = some.does;
          },
        )

    -- The device calls were made, and then the rest of the acts if the event is accepted.
    asking_does : (Can Accepted : Type 0) → (Can → CanAsk event t) → (Accepted → IsAcceptedIn site number event) → (rest : List Act) → Follows rest → (told : Settings) (result : Result (Unit {0}) Exit) (run : Run)
        → TakesIn site number told event result run → DoesAsking see Can Accepted asked rest result x y → TakesEvent see site number told event t result run x y
    asking_does Can Accepted can accept rest follow told (Ok done) run takes does = record { takes = takes; does = (asked ++ rest, (can does.0, taken_acts rest takes.0 follow), does.1) }
    asking_does Can Accepted can accept rest follow told (Err exit) run takes does = record { takes = takes; does = by (ending_of exit) takes does }
      where
        by : (ending : CallEnding) → EndsBy (site_refusal site number event ≡ Some exit) (Unit {0}) AnyFault ending → AskingEnds see Can Accepted asked rest ending x y
            → (acts : List Act) × AreBegunIn site number event t ending acts × DoesBy see acts ending x y
        by answered is d = (asked ++ [], (can d.0, refused_acts exit is), subst (λ (acts : List Act). GoesWell acts (see x) (see y)) (sym (append-nil asked)) d.1)
        by starved is d = some_does d
        by source_failed is d = absurd is
        by (faulted kind) is d = elim d.1 [
          | inl later ↦ (let accepted = accept later.0 in (asked ++ rest, (can d.0, inl (accepted, taken_acts rest accepted follow)), later.1))
          | inr first ↦ (asked, (can d.0, inr (first.0, refl)), subst (λ (kind : Kind). Breaks kind asked (see x) (see y)) (sym first.0) first.1)
        ]

    -- The event makes no device calls, and did the rest of the acts.
    then_does : asked ≡ [] → (Accepted : Type 0) → (Accepted → IsAcceptedIn site number event) → CanAsk event t → (rest : List Act) → Follows rest → (told : Settings) (result : Result (Unit {0}) Exit) (run : Run)
        → TakesIn site number told event result run → IfErr result (λ exit. EndsBy (Unit {0}) (Unit {0}) (λ kind. Accepted) (ending_of exit)) → Does see rest (part_end result) x y → TakesEvent see site number told event t result run x y
    then_does none Accepted accept can rest follow told result run takes ends does =
        asking_does (Unit {0}) Accepted (λ any. can) accept rest follow told result run takes
        (subst (λ (acts : List Act). DoesAsking see (Unit {0}) Accepted acts rest result x y) (sym none)
        (asked_then see (Unit {0}) Accepted [] rest x x y result tt (λ u told. none_still u) ends (does_nothing see x) does))

-- ---- nothing was done

module _ {X : Type 0} (see : X → Seen) (site : Site) (number : ℕ) (t : Told) (run : Run) (x : X) (told : Settings) where
  -- memory ran out
  pub starved_in : (event : Result Event LineRefusal) → TakesEvent see site number told event t (Err NoMemory) run x x
  starved_in event =
      let acts = some_in site number event t in
      record { takes = tt; does = (acts.0, acts.1, record { done = []; later = acts.0; splits = refl; still = λ u is. none_still u; does = does_nothing see x }) }

  -- The line's event is rejected.
  pub refused_in : (why : LineRefusal) → TakesEvent see site number told (Err why) t (Err (refused_exit number why)) run x x
  refused_in (Bad why) = record { takes = refl; does = ([], (tt, refused_acts site number (Err (Bad why)) t (refused_exit number (Bad why)) refl), does_nothing see x) }
  refused_in NoTable = record { takes = refl; does = ([], (tt, refused_acts site number (Err NoTable) t (refused_exit number NoTable) refl), does_nothing see x) }

pub refused_for : {X : Type 0} (see : X → Seen) (old run : Run) (number : ℕ) (t : Told) (x : X) (line : Line) (why : LineRefusal) → event_of old.settings line ≡ Err why
    → TakesEvent see (site_of old t) number (settings_after old.settings line) (event_of old.settings line) t (Err (refused_exit number why)) run x x
refused_for see old run number t x line why is =
    subst (λ (e : Result Event LineRefusal). TakesEvent see (site_of old t) number (settings_after old.settings line) e t (Err (refused_exit number why)) run x x) (sym is)
    (refused_in see (site_of old t) number t run x (settings_after old.settings line) why)

-- The line can't be read.
pub unread : {X : Type 0} (see : X → Seen) (site : Site) (number : ℕ) (t : Told) (run : Run) (x : X) (read : Result Line LineRefused) (why : LineRefused) → GivesLine (Err why) read
    → TakesLine see (site, (number, read)) t (Err (unread_exit number why)) run x x
unread see site number t run x read refused.NoMemory is = starved_in see site number t run x (settings_read site.settings (number, read)) (event_at (site, (number, read)))
unread see site number t run x read why is = rw is (refused_in see site number t run x site.settings (Bad (reason.Line why)))

-- ---- an event without pieces

module _ (site : Site) (number : ℕ) (event : Result Event LineRefusal) (none : made_in site.settings.topology site.store event ≡ []) where
  accepted_quiet : site_refusal site number event ≡ None → IsAcceptedIn site number event
  accepted_quiet free = record { taken = free; fit = subst IsFit (sym none) nothing_fits }

  takes_quiet : (run : Run) → run.ledger.account.state ≡ site.account → run.ledger.journal.standing ≡ site.standing → (result : Result (Unit {0}) Exit) → EndsUnless (site_refusal site number event) result
      → TakesIn site number run.settings event result run
  takes_quiet run account standing (Ok over) free = (
    accepted_quiet free,
    record {
      settings = refl;
      account = account ∙ ap (λ made. account_after_all site.account (entries_in made)) (sym none);
      standing = standing ∙ ap (λ made. standing_with_news site.account site.standing (fresh_entries_in site.account (entries_in made))) (sym none);
    },
  )
  takes_quiet run account standing (Err exit) ends = ends

-- An event whose pieces are counted, under the settings after its line.
takes_made : (old run : Run) (t : Told) (number : ℕ) (event : Result Event LineRefusal) (settings : Settings) (result : Result (Unit {0}) Exit)
    → CountsPolled (site_refusal (record (site_of old t) { settings = settings }) number event) (made_in settings.topology t.here.store event) result old.ledger run.ledger
    → TakesIn (record (site_of old t) { settings = settings }) number run.settings event result run
takes_made old run t number event settings (Ok over) c = (record { taken = c.0; fit = c.1 }, record { settings = refl; account = c.2; standing = c.3 })
takes_made old run t number event settings (Err exit) ends = ends

print_unless : (result : Result (Unit {0}) Exit) → IfErr result IsPrintExit → EndsUnless None result
print_unless (Ok over) ends = refl
print_unless (Err exit) ends = ends_weaker ⊥ (None ≡ Some exit) (Unit {0}) (Unit {0}) (OnlyFault print_call) AnyFault exit (λ never. absurd never) (λ memory over. over) (λ kind print. tt) ends

print_ends : (result : Result (Unit {0}) Exit) → IfErr result IsPrintExit → IfErr result (λ exit. EndsBy (Unit {0}) (Unit {0}) (λ kind. Unit {0}) (ending_of exit))
print_ends (Ok over) ends = tt
print_ends (Err exit) ends = ends_weaker ⊥ (Unit {0}) (Unit {0}) (Unit {0}) (OnlyFault print_call) (λ kind. Unit {0}) exit (λ never. tt) (λ memory over. over) (λ kind print. tt) ends

-- ---- an event that needs the driver of the record store

module _ (old run : Run) (line : Line) (settings : run.settings ≡ settings_after old.settings line) (event : Event) (is : event_of old.settings line ≡ Ok event) (needs : IsDriven event) where
  -- The event's line doesn't change the machine description.
  settings_stay : run.settings ≡ old.settings
  settings_stay = settings ∙ (driven old.settings line event is needs).same

  pub still_drivable : IsDrivable old.settings.driver → IsDrivable run.settings.driver
  still_drivable = subst (λ (s : Settings). IsDrivable s.driver) (sym settings_stay)

  -- There is a driver.
  pub not_undriven : run.settings.driver ≡ None → ⊥
  not_undriven none =
      let found = driven old.settings line event is needs in
      let some : run.settings.driver ≡ Some found.lists = ap (λ (s : Settings). s.driver) settings_stay ∙ found.driver in
      cc

-- ---- each event, from the run before it to the run after it

module _ {X : Type 0} (see : X → Seen) (old run : Run) (number : ℕ) (t : Told) (result : Result (Unit {0}) Exit) (x y : X) where
  abbrev site : Site
  site = site_of old t

  -- the site, with the machine description after the line
  abbrev behind : Site
  behind = record site { settings = run.settings }

  abbrev pub Takes : Settings → Result Event LineRefusal → Type 0
  Takes told event = TakesEvent see site number told event t result run x y

  -- the event of a line
  module _ (line : Line) (settings : run.settings ≡ settings_after old.settings line) (event : Result Event LineRefusal) (is : event_of old.settings line ≡ event) where
    pub asked_for : Takes run.settings event → Takes (settings_after old.settings line) (event_of old.settings line)
    asked_for takes = subst (λ (told : Settings). Takes told (event_of old.settings line)) settings (subst (λ (e : Result Event LineRefusal). Takes run.settings e) (sym is) takes)

  pub settled_in : run.ledger.account.state ≡ site.account → run.ledger.journal.standing ≡ site.standing → IfErr result IsPrintExit → Does see (event_prints [] number) (part_end result) x y → Takes run.settings (Ok Settled)
  settled_in account standing ends does =
      then_does site number (Ok Settled) t see x y refl (Unit {0}) (λ any. accepted_quiet site number (Ok Settled) refl refl) tt (event_prints [] number) ([], refl, refl) run.settings result run
      (takes_quiet site number (Ok Settled) refl run account standing result (print_unless result ends)) (print_ends result ends) does

  pub counted_in : (made : List Piece) → IsFit made → CountsMade made result old.ledger run.ledger → Does see (made_acts site.account number site.standing made) (part_end result) x y → Takes run.settings (Ok (Counted made))
  counted_in made fit counts does =
      let refusal = counting_refusal site.account site.standing (entries_in made) in
      let room = λ (full : Bool) (is : has_no_room_for site.account site.standing (entries_in made) ≡ full). ap (λ b. if b then Some Full else None) is in
      then_does site number (Ok (Counted made)) t see x y refl ((refusal ≡ None) × IsFit made) (λ free. record { taken = free.0; fit = free.1 }) tt (made_acts site.account number site.standing made) ([], refl, refl) run.settings result run
      (takes_made old run t number (Ok (Counted made)) old.settings result (counts_unless made old.ledger run.ledger fit refusal room result counts)) (ends_unless made old.ledger run.ledger fit refusal room result counts) does

  pub put_in : (id : ℕ) (bytes : List ℕ) → run.ledger.account.state ≡ site.account → run.ledger.journal.standing ≡ site.standing → EndsUnless (put_refusal number (refusal_of id bytes t.here.store)) result
      → DoesAsking see (Unit {0}) (refusal_of id bytes t.here.store ≡ None) (device (put id bytes) ∷ []) (print_acts (done_line number)) result x y → Takes run.settings (Ok (Put id bytes))
  put_in id bytes account standing ends does =
      asking_does site number (Ok (Put id bytes)) t see x y (Unit {0}) (refusal_of id bytes t.here.store ≡ None) (λ any. any) (λ free. accepted_quiet site number (Ok (Put id bytes)) refl (ap (put_refusal number) free))
      (print_acts (done_line number)) ([], refl, refl) run.settings result run (takes_quiet site number (Ok (Put id bytes)) refl run account standing result ends) does

  pub reopened_in : Reopens result old.ledger run.ledger → DoesReopening see old.ledger.account.state number t.here result x y → Takes run.settings (Ok Reopened)
  reopened_in reopens does = record { takes = takes result reopens; does = (does.0, begun result reopens, does.2) }
    where
      accepted : IsAcceptedIn site number (Ok Reopened)
      accepted = accepted_quiet site number (Ok Reopened) refl refl

      takes : (r : Result (Unit {0}) Exit) → Reopens r old.ledger run.ledger → TakesIn site number run.settings (Ok Reopened) r run
      takes (Ok over) same = (accepted, record { settings = refl; account = same.0; standing = same.1 })
      takes (Err exit) ends = ends_weaker ⊥ (None ≡ Some exit) (Unit {0}) (Unit {0}) AnyFault AnyFault exit (λ never. absurd never) (λ memory over. over) (λ kind any. any) ends

      are : AreActsIn site number (Ok Reopened) t does.0
      are = taken_acts site number (Ok Reopened) t does.0 accepted does.1

      begun : (r : Result (Unit {0}) Exit) → Reopens r old.ledger run.ledger → AreBegunIn site number (Ok Reopened) t (ended_with r) does.0
      begun (Ok over) same = (tt, are)
      begun (Err exit) ends = by (ending_of exit) ends
        where
          by : (ending : CallEnding) → EndsBy ⊥ (Unit {0}) AnyFault ending → AreBegunIn site number (Ok Reopened) t ending does.0
          by answered never = absurd never
          by starved memory = are
          by source_failed never = absurd never
          by (faulted kind) any = (tt, inl (accepted, are))

  -- ---- by the driver of the record store

  module _ (line : Line) (settings : run.settings ≡ settings_after old.settings line) (event : Event) (is : event_of old.settings line ≡ Ok event) (needs : IsDriven event) where
    driven_in : TakesEvent see behind number run.settings (Ok event) t result run x y → Takes (settings_after old.settings line) (event_of old.settings line)
    driven_in takes = asked_for line settings (Ok event) is (subst (λ (s : Settings). TakesEvent see (record site { settings = s }) number run.settings (Ok event) t result run x y) (settings_stay old run line settings event is needs) takes)

  module _ (line : Line) (settings : run.settings ≡ settings_after old.settings line) (lists : Lists) (told : run.settings.driver ≡ Some lists) where
    lists_are : unwrap_or run.settings.driver [] ≡ lists
    lists_are = ap (λ (o : Option Lists). unwrap_or o []) told

    module _ (id : ℕ) (bytes : List ℕ) (is : event_of old.settings line ≡ Ok (Saved id bytes)) where
      abbrev saving : Option Exit
      saving = saving_refusal t.volatile.slow id t.here.store

      pub saved_in : run.ledger.account.state ≡ site.account → run.ledger.journal.standing ≡ site.standing → CanBeSaved id bytes → EndsUnless saving result
          → DoesAsking see (IsDevice (device_of t)) (saving ≡ None) (acts_of (write_calls lists bytes (device_of t))) (print_acts (done_line number)) result x y → Takes (settings_after old.settings line) (event_of old.settings line)
      saved_in account standing can ends does =
          driven_in line settings (Saved id bytes) is tt
          (asking_does behind number (Ok (Saved id bytes)) t see x y (IsDevice (device_of t)) (saving ≡ None) (λ device. (can, device)) (accepted_quiet behind number (Ok (Saved id bytes)) refl)
          (print_acts (done_line number)) ([], refl, refl) run.settings result run (takes_quiet behind number (Ok (Saved id bytes)) refl run account standing result ends)
          (subst (λ (l : Lists). DoesAsking see (IsDevice (device_of t)) (saving ≡ None) (acts_of (write_calls l bytes (device_of t))) (print_acts (done_line number)) result x y) (sym lists_are) does))

    module _ (seconds : ℕ) (is : event_of old.settings line ≡ Ok (Polled seconds)) where
      abbrev made : List Piece
      made = polled run.settings.topology seconds t.here.store

      abbrev rest : Lists → List Act
      rest l = polled_acts l site.account number site.standing made (readable_ids t.here.store) (after_acts (acts_of (look_calls l t)) t)

      abbrev Free : Type 0
      Free = (site_refusal behind number (Ok (Polled seconds)) ≡ None) × IsFit made

      pub polled_in : DoesPoll see lists t number made (readable_ids t.here.store) result old.ledger run.ledger x y → Takes (settings_after old.settings line) (event_of old.settings line)
      polled_in polls =
          driven_in line settings (Polled seconds) is tt
          (asking_does behind number (Ok (Polled seconds)) t see x y (IsDevice (device_of t)) Free (λ device. device) (λ free. record { taken = free.0; fit = free.1 })
          (rest (driving_lists behind)) ([], refl, refl) run.settings result run (takes_made old run t number (Ok (Polled seconds)) run.settings result polls.0)
          (subst (λ (l : Lists). DoesAsking see (IsDevice (device_of t)) Free (acts_of (look_calls l t)) (rest l) result x y) (sym lists_are) polls.1))

pub nothing_in : {X : Type 0} (see : X → Seen) (old run : Run) (number : ℕ) (t : Told) (x : X) → run.ledger.account.state ≡ old.ledger.account.state → run.ledger.journal.standing ≡ old.ledger.journal.standing
    → TakesEvent see (site_of old t) number run.settings (Ok Nothing) t (Ok tt) run x x
nothing_in see old run number t x account standing =
    then_does (site_of old t) number (Ok Nothing) t see x x refl (Unit {0}) (λ any. accepted_quiet (site_of old t) number (Ok Nothing) refl refl) tt [] ([], refl, refl) run.settings (Ok tt) run (takes_quiet (site_of old t) number (Ok Nothing) refl run account standing (Ok tt) refl) tt (does_nothing see x)
