-- A poll of the record store: what it appends, prints and clears, and how it ends.
use Rattle.std.proofs.Common.{◌≡◌, ◌∙◌, ℕ, Bool, false, IsTrue, List, ◌++◌, Option, None, Some, Result, Ok, Err, IfSome, OnErr, sym, ap, subst, if◌then◌else◌}
use Rattle.std.specs.Option.{option_map}
use Rattle.board_core.specs.Cause.{print_call}
use Rattle.board_core.specs.Doing.{Act, DeviceCall, Does, GoesWell, Moment, Seen, after_acts, one_end, went_well}
use Rattle.board_core.specs.Stop.{Left}
use Rattle.board_core.specs.Told.{Told, device_of}
use Rattle.board_core.proofs.ActLemmas.{acts_device}
use Rattle.board_core.proofs.DoingLemmas.{does_first, moment_first}
use Rattle.dimm_topology.specs.declared.row.Row.{Row}
use Rattle.erst_store.specs.DeviceLaws.{IsDevice}
use Rattle.erst_interp.specs.Admission.{IsAdmittedTable}
use Rattle.erst_interp.specs.Run.{acts_of}
use Rattle.erst_interp.proofs.BreakLemmas.{acts_both}
use Rattle.erst_driver.specs.declared.refusals.DriverRefused.{DriverRefused}
use Rattle.erst_driver.specs.declared.refusals.DriverRefused.TheVariants.{Busy, NoMemory, Register, Status as EndedWith}
use Rattle.erst_driver.specs.Answers.{AnswersAs, DoesListing, IsAnswered, driver_end}
use Rattle.erst_driver.specs.Operations.{clear_calls}
use Rattle.erst_driver.proofs.DoesLemmas.{at_told}
use Rattle.ras_account.specs.Account.{State}
use Rattle.ras_run.specs.declared.ledger.Ledger.{Ledger}
use Rattle.ras_journal.specs.declared.standing.Standing.{Standing}
use Rattle.ras_events.specs.declared.made.Piece.{Piece}
use Rattle.ras_events.specs.Events.{Lists}
use Rattle.ras_events.specs.Making.{entries_in, polled}
use Rattle.ras_events.specs.Preparing.{event_text_in}
use Rattle.ras_events.specs.Sizes.{IsFit}
use Rattle.ras_exit.specs.declared.exit.Exit.{Exit}
use Rattle.ras_exit.specs.declared.exit.Exit.TheVariants.{ErstBusy, Full, PrintFault}
use Rattle.ras_exit.specs.Acts.{AreStill, end_of, part_end, print_acts}
use Rattle.ras_exit.specs.Endings.{ending_of}
use Rattle.ras_records.specs.declared.looking.Looked.{Looked}
use Rattle.ras_records.specs.Each.{each_answer, each_calls}
use Rattle.ras_records.specs.Polls.{HasLooked, IsBounded, Looks, is_busy_for_reads, look_calls, readable_ids}
use Rattle.ras_records.proofs.ClearingLemmas.{calls_keep}
use Rattle.ras_records.proofs.QuietLemmas.{look_begun, look_device, look_here, look_moment}
use Rattle.ras_texts.specs.Text.{done_line}
use Rattle.ras_run.specs.LineActs.{DoesPoll, polled_acts, told_acts}
use Rattle.ras_run.specs.News.{has_no_room_for}
use Rattle.ras_run.specs.Status.{counting_refusal, driver_exit, polling_refusal}
use Rattle.ras_run.specs.Taking.{CountsMade, CountsPolled}
use Rattle.ras_run.proofs.AskingLemmas.{asked_then, listing_refused}
use Rattle.ras_run.proofs.ClearLemmas.{CanClear, clear_kept, cleared_does, failed_does, failed_ends}
use Rattle.ras_run.proofs.CountLemmas.{counted_still, counts_unless, cut_short, end_is_bad, ends_unless, print_exit}
use Rattle.ras_run.proofs.PrintActLemmas.{told_off}
use Rattle.ras_run.proofs.StandsLemmas.{same_told}

-- ---- listing and reading the records

-- the model after acts that succeeded
told_behind : (acts : List Act) (old new : Seen) (t : Told) → GoesWell acts old new → old.told ≡ Some t → new.told ≡ Some (after_acts acts t)
told_behind acts old new t well at = well.told ∙ ap (option_map (after_acts acts)) at

module _ (lists : Lists) (t : Told) (admitted : IsAdmittedTable lists) (device : IsDevice (device_of t)) where
  abbrev asked : List Act
  asked = acts_of (look_calls lists t)

  -- A beginning of the calls only reads.
  begun_still : (done later : List DeviceCall) → done ++ later ≡ look_calls lists t → AreStill (acts_of done) t
  begun_still done later is = record {
    here = look_begun lists admitted t device done later is;
    moments = λ left moment. look_moment lists admitted t device left
        (subst (λ (acts : List Act). Moment acts t left) (sym (acts_both done later) ∙ ap acts_of is) (moment_first (acts_of done) (acts_of later) t left moment));
  }

  look_still : AreStill asked t
  look_still = record { here = look_here lists admitted t device; moments = look_moment lists admitted t device }

  -- The readable records that were found can be cleared.
  can_behind : (rows : List Row) (seconds : ℕ) (looked : Looked) → HasLooked rows seconds t looked → CanClear lists looked.readable.items (after_acts asked t)
  can_behind rows seconds looked has =
      let here : (after_acts asked t).here ≡ t.here = look_here lists admitted t device in
      let slow : (after_acts asked t).volatile.slow ≡ t.volatile.slow = (calls_keep (look_calls lists t) t).slow in
      record {
        admitted = admitted;
        device = look_device lists admitted t device;
        free = (λ i. is_busy_for_reads (slow i) ((here i).store)) ∙ has.free;
        found = has.readable ∙ ap (λ (l : Left). readable_ids l.store) (sym here);
      }

-- ---- how it ends

refused_busy : (b : Bool) (other : Option Exit) → IsTrue b → (if b then Some ErstBusy else other) ≡ Some ErstBusy
refused_busy b other is = ap (λ c. if c then Some ErstBusy else other) is

module _ (t : Told) (old : Ledger) (made : List Piece) where
  abbrev refusal : Option Exit
  refusal = polling_refusal t.volatile.slow t.here.store old.account.state old.journal.standing (entries_in made)

  not_looked : (rows : List Row) (seconds : ℕ) (why : DriverRefused) → Looks rows seconds (Err why) t → (new : Ledger) → CountsPolled refusal made (Err (driver_exit why)) old new
  not_looked rows seconds Register looks new = tt
  not_looked rows seconds Busy looks new = refused_busy (is_busy_for_reads t.volatile.slow t.here.store) (counting_refusal old.account.state old.journal.standing (entries_in made)) looks
  not_looked rows seconds (EndedWith code) looks new = absurd looks
  not_looked rows seconds NoMemory looks new = tt

  -- Over a device that is fast enough, only a lack of room rejects the poll.
  by_room : is_busy_for_reads t.volatile.slow t.here.store ≡ false → (full : Bool) → has_no_room_for old.account.state old.journal.standing (entries_in made) ≡ full → refusal ≡ (if full then Some Full else None)
  by_room free full is =
      ap (λ b. if b then Some ErstBusy else counting_refusal old.account.state old.journal.standing (entries_in made)) free ∙ ap (λ b. if b then Some Full else None) is

-- ---- what was found is appended, printed and cleared

-- what a look found, over a modelled board
pub record Found {X : Type 0} (see : X → Seen) (lists : Lists) (rows : List Row) (seconds : ℕ) (t : Told) (looked : Looked) (x y : X) : Type 0 where
  pub admitted : IsAdmittedTable lists
  pub device : IsDevice (device_of t)
  pub has : HasLooked rows seconds t looked
  pub fit : IsFit looked.made
  pub at : (see x).told ≡ Some t
  pub does : GoesWell (acts_of (look_calls lists t)) (see x) (see y)

module _ {X : Type 0} (see : X → Seen) (lists : Lists) (rows : List Row) (seconds : ℕ) (x y : X) (device : IfSome (see x).told (λ t. IsDevice (device_of t))) where
  -- The driver refused to list or read the records.
  pub not_found : (why : DriverRefused) → (IsAdmittedTable lists → IfSome (see x).told (λ t. Looks rows seconds (Err why) t)) → IfSome (see x).told (λ t. DoesListing {T = Looked} see (look_calls lists t) (Err why) x y)
      → (number : ℕ) (old : Ledger) (t : Told) → (see x).told ≡ Some t → IsAdmittedTable lists → DoesPoll see lists t number (polled rows seconds t.here.store) (readable_ids t.here.store) (Err (driver_exit why)) old old x y
  not_found why looks does number old t at admitted =
      let here = at_told (λ u. IsDevice (device_of u)) (see x).told t device at in (
        not_looked t old (polled rows seconds t.here.store) rows seconds why (at_told (λ u. Looks rows seconds (Err why) u) (see x).told t (looks admitted) at) old,
        listing_refused see (IsDevice (device_of t)) _ (look_calls lists t) _ Looked x y why here
            (λ u done later is splits. subst (λ (v : Told). AreStill (acts_of done) v) (same_told t u (sym at ∙ is)) (begun_still lists t admitted here done later splits))
            (at_told (λ u. DoesListing {T = Looked} see (look_calls lists u) (Err why) x y) (see x).told t does at),
      )

  pub found : (looked : Looked) → (IsAdmittedTable lists → IfSome (see x).told (λ t. Looks rows seconds (Ok looked) t)) → IsBounded (Ok looked) → IfSome (see x).told (λ t. Does see (acts_of (look_calls lists t)) went_well x y)
      → (t : Told) → (see x).told ≡ Some t → IsAdmittedTable lists → Found see lists rows seconds t looked x y
  found looked has bounded does t at admitted = record {
    admitted = admitted;
    device = at_told (λ u. IsDevice (device_of u)) (see x).told t device at;
    has = at_told (λ u. Looks rows seconds (Ok looked) u) (see x).told t (has admitted) at;
    fit = bounded.0;
    at = at;
    does = at_told (λ u. Does see (acts_of (look_calls lists u)) went_well x y) (see x).told t does at;
  }

module _ {X : Type 0} {see : X → Seen} {lists : Lists} {rows : List Row} {seconds : ℕ} {t : Told} {looked : Looked} {x y : X} (f : Found see lists rows seconds t looked x y) (number : ℕ) (old : Ledger) where
  abbrev a : State
  a = old.account.state

  abbrev s : Standing
  s = old.journal.standing

  -- the model after the look
  abbrev u : Told
  u = after_acts (acts_of (look_calls lists t)) t

  abbrev told : List Act
  told = told_acts a s looked.made

  abbrev pub Ends : Result (Unit {0}) Exit → Ledger → X → Type 0
  Ends result new z = DoesPoll see lists t number (polled rows seconds t.here.store) (readable_ids t.here.store) result old new x z

  poll_ends : (result : Result (Unit {0}) Exit) (new : Ledger) (z : X) → CountsMade looked.made result old new → Does see (polled_acts lists a number s looked.made looked.readable.items u) (part_end result) y z → Ends result new z
  poll_ends result new z counts does =
      let room = by_room t old looked.made f.has.free in
      subst (λ (pieces : List Piece). DoesPoll see lists t number pieces (readable_ids t.here.store) result old new x z) f.has.made
      (subst (λ (ids : List ℕ). DoesPoll see lists t number looked.made ids result old new x z) f.has.readable (
        counts_unless looked.made old new f.fit (refusal t old looked.made) room result counts,
        asked_then see (IsDevice (device_of t)) _ (acts_of (look_calls lists t)) _ x y z result f.device
            (λ v at. subst (λ (w : Told). AreStill (acts_of (look_calls lists t)) w) (same_told t v (sym f.at ∙ at)) (look_still lists t f.admitted f.device))
            (ends_unless looked.made old new f.fit (refusal t old looked.made) room result counts) f.does does,
      ))

  -- The new entries of what was found aren't appended, or their text isn't printed.
  pub not_told : (exit : Exit) (new : Ledger) (z : X) → CountsMade {T = Unit {0}} looked.made (Err exit) old new → Does see told (end_of (ending_of exit)) y z → Ends (Err exit) new z
  not_told exit new z counts does = poll_ends (Err exit) new z counts (does_first see told _ (end_of (ending_of exit)) y z (end_is_bad (ending_of exit)) does)

  -- The new entries are appended, the text is printed, and then the records are cleared.
  module _ (new : Ledger) (w : X) (counts : CountsMade {T = Unit {0}} looked.made (Ok tt) old new) (well : GoesWell told (see y) (see w)) (ids : List ℕ) (are : ids ≡ looked.readable.items) where
    at_y : (see y).told ≡ Some u
    at_y = told_behind (acts_of (look_calls lists t)) (see x) (see y) t f.does f.at

    can : CanClear lists looked.readable.items (after_acts told u)
    can = clear_kept lists looked.readable.items u (after_acts told u) (acts_device told (told_off s a looked.made (event_text_in a looked.made)) u) (can_behind lists t f.admitted f.device rows seconds looked f.has)

    pub cleared : (result : Result (Unit {0}) Exit) (done : List ℕ) (v end : X) → done ≡ done_line number → IfSome (see w).told (λ n. Does see (acts_of (each_calls (clear_calls lists) ids n)) went_well w v)
        → OnErr result (result ≡ Err PrintFault) → Does see (print_acts done) (one_end print_call result) v end → Ends result new end
    cleared result done v end done_is clears fault does =
        poll_ends result new end (counted_still looked.made old new result counts (cut_short result (print_exit result fault)))
        (cleared_does see lists told (print_acts (done_line number)) looked.readable.items u y w at_y can well result v end
        (subst (λ (l : List ℕ). IfSome (see w).told (λ n. Does see (acts_of (each_calls (clear_calls lists) l n)) went_well w v)) are clears) fault
        (subst (λ bytes. Does see (print_acts bytes) (one_end print_call result) v end) done_is does))

    pub not_cleared : (why : DriverRefused) (v : X) → IsAnswered {T = Unit {0}} (Err why) → IfSome (see w).told (λ n. AnswersAs (Err why) (each_answer (clear_calls lists) ids n))
        → IfSome (see w).told (λ n. Does see (acts_of (each_calls (clear_calls lists) ids n)) (driver_end why) w v) → Ends (Err (driver_exit why)) new v
    not_cleared why v is gives does =
        let gives_them = subst (λ (l : List ℕ). IfSome (see w).told (λ n. AnswersAs (Err why) (each_answer (clear_calls lists) l n))) are gives in
        poll_ends (Err (driver_exit why)) new v
        (counted_still {T = Unit {0}} looked.made old new (Err (driver_exit why)) counts (failed_ends see lists told (print_acts (done_line number)) looked.readable.items u y w at_y can well why is gives_them))
        (failed_does see lists told (print_acts (done_line number)) looked.readable.items u y w at_y can well why is gives_them v
        (subst (λ (l : List ℕ). IfSome (see w).told (λ n. Does see (acts_of (each_calls (clear_calls lists) l n)) (driver_end why) w v)) are does))
