-- The record store at each moment of a line, and at the end of a run.
use Rattle.std.proofs.Common.{◌≡◌, ◌≤◌, ℕ, zero, suc, Bool, true, false, not, cond, if◌then◌else◌, List, [], ◌∷◌, ◌++◌, length, Option, None, Some, Result, Ok, Err, refl, sym, ap, ◌∙◌, inl, inr, append_assoc, arith}
use Rattle.std.specs.Prelude.{◌⊎◌}
use Rattle.erst_store.specs.Store.{Stored}
use Rattle.board_core.specs.Stop.{Begins, Left}
use Rattle.ras_facts.specs.declared.name.Name.{Name}
use Rattle.ras_journal.specs.Recovered.{Recovers}
use Rattle.ras_script.specs.declared.line.Line.TheVariants as asks
use Rattle.ras_script.specs.Lines.{Ending, script_ended, script_lines, line_too_long, script_too_long}
use Rattle.ras_texts.specs.Text.{done_line}
use Rattle.ras_events.specs.declared.event.Event.{Event}
use Rattle.ras_events.specs.declared.event.Event.TheVariants.{Polled}
use Rattle.ras_events.specs.declared.event.LineRefusal.{LineRefusal}
use Rattle.ras_events.specs.Described.{NumberedLine}
use Rattle.ras_run.specs.Sites.{Site, Start}
use Rattle.ras_run.specs.Places.{Place, deed_at, event_at, site_after, site_at}
use Rattle.ras_run.specs.Deeds.{clears_by, deed_done, store_asked}
use Rattle.ras_daemon.specs.Script.{is_event, reads_of}
use Rattle.ras_events.specs.Stores.{is_readable, unreadable, without_first}
use Rattle.ras_exit.specs.ScriptEnd.{ending_exit, script_exit}
use Rattle.ras_exit.specs.declared.exit.Exit.{Exit}
use Rattle.ras_exit.specs.declared.exit.Exit.TheVariants.{ErstBusy}
use Rattle.ras_events.specs.Deeds.{Asking, deed_of, polls, puts, saves}
use Rattle.ras_run.specs.Moments.{Course, CourseMoment, IsBegun, clears_store, course_at, refused_store, store_cleared, store_left, stored_by}
use Rattle.ras_run.specs.Output.{output_at}
use Rattle.ras_run.specs.Status.{refusal_at}
use Rattle.ras_run.specs.Taking.{IsAccepted}
use Rattle.ras_run.proofs.LineLawLemmas.{refused_is}
use Rattle.ras_daemon.specs.Machine.{StoreChange, change_next, store_upto}
use Rattle.ras_daemon.specs.RunOf.{change_at, change_by, run_of}
use Rattle.ras_daemon.specs.Steps.Running.{AreAccepted, AreAll, StoreAtEnd}
use Rattle.ras_daemon.specs.StoreDuring.{KnownBy, store_at_end}
use Rattle.ras_daemon.proofs.CountLemmas.{events_before}
use Rattle.ras_daemon.proofs.KeptLemmas.{StoreNow, known-polled}
use Rattle.ras_daemon.proofs.RunLawLemmas.{no-event}
use Rattle.ras_daemon.proofs.StoreLemmas.{IsBegunWith, line-next, store-first}

-- ---- the moments of a line

-- a line that has no done line leaves the store as it is
no-done : (number count : ℕ) (store : List Stored) (event : Result Event LineRefusal) → deed_done number (deed_of event) ≡ []
    → (if clears_store event then without_first count (stored_by event store) else stored_by event store)
    ≡ (if clears_store event then unreadable (stored_by event store) else stored_by event store)
no-done number count store (Ok (Polled seconds)) none = absurd (let is : done_line number ≡ [] = none in cc)
no-done number count store (Ok event) none = refl
no-done number count store (Err why) none = refl

-- all readable records are cleared
without-all : (rs : List Stored) → without_first (length rs) rs ≡ unreadable rs
without-all rs = without-most rs (length rs) (omega arith)
  where
    without-most : (qs : List Stored) (n : ℕ) → length qs ≤ n → without_first n qs ≡ unreadable qs
    without-most [] zero most = refl
    without-most [] (suc n) most = refl
    without-most (r ∷ qs) zero most = absurd (omega arith)
    without-most (r ∷ qs) (suc n) most = by (is_readable r) (without-most qs n (omega arith)) (without-most qs (suc n) (omega arith))
      where
        by : (b : Bool) → without_first n qs ≡ unreadable qs → without_first (suc n) qs ≡ unreadable qs
            → (if b then without_first n qs else r ∷ without_first (suc n) qs) ≡ cond (not b) (r ∷ unreadable qs) (unreadable qs)
        by true less more = less
        by false less more = ap (λ (others : List Stored). r ∷ others) more

-- A line is accepted, its new entries are stored, the first of the records that it clears are cleared, and a
-- beginning of its output is printed. All are cleared before the last of its output is printed.
pub record InLine (place : Place) (out : List ℕ) (left : Left) : Type 0 where
  pub accepted : IsAccepted place
  pub recovers : Recovers (site_after place.0 place.1).account left
  pub count : ℕ
  pub store : left.store ≡ store_cleared (course_at place) count
  pub text : Begins (output_at place) out left.out
  pub whole : text.missing ≡ [] → left.store ≡ store_left (course_at place)

module _ (place : Place) (out : List ℕ) (left : Left) where
  abbrev course : Course
  course = course_at place

  -- the store before the done line
  uncleared : (count : ℕ) (missing : List ℕ) → left.store ≡ store_cleared course count → missing ++ course.done ≡ [] → left.store ≡ store_left course
  uncleared count missing is none = is ∙ no-done place.1.0 count place.0.store (event_at place) (nothing-behind missing course.done none)
    where
      nothing-behind : (xs ys : List ℕ) → xs ++ ys ≡ [] → ys ≡ []
      nothing-behind [] ys none = none
      nothing-behind (x ∷ xs) ys none = absurd cc

  none-cleared : store_cleared course 0 ≡ course.stored
  none-cleared = by course.clears
    where
      by : (b : Bool) → (if b then without_first 0 course.stored else course.stored) ≡ course.stored
      by true = refl
      by false = refl

  all-cleared : store_left course ≡ store_cleared course (length course.stored)
  all-cleared = by course.clears
    where
      by : (b : Bool) → (if b then unreadable course.stored else course.stored) ≡ (if b then without_first (length course.stored) course.stored else course.stored)
      by true = sym (without-all course.stored)
      by false = refl

  pub line-course : CourseMoment (IsAccepted place) course out left → IsBegun course out left ⊎ InLine place out left
  line-course (inl begun) = inl begun
  line-course (inr (accepted, inl kept)) =
      let same : left.store ≡ store_cleared course 0 = kept.store ∙ sym none-cleared in inr (record {
        accepted = accepted;
        recovers = kept.recovers;
        count = 0;
        store = same;
        text = record {
          part = kept.text.part;
          missing = kept.text.missing ++ course.done;
          splits = sym (append_assoc kept.text.part kept.text.missing course.done) ∙ ap (λ text. text ++ course.done) kept.text.splits;
          is = kept.text.is;
        };
        whole = uncleared 0 kept.text.missing same;
      })
  line-course (inr (accepted, inr (inl clearing))) = inr (record {
    accepted = accepted;
    recovers = clearing.recovers;
    count = clearing.count;
    store = clearing.store;
    text = record { part = course.text; missing = course.done; splits = refl; is = clearing.text };
    whole = uncleared clearing.count [] clearing.store;
  })
  line-course (inr (accepted, inr (inr ending))) = inr (record {
    accepted = accepted;
    recovers = ending.recovers;
    count = length course.stored;
    store = ending.store ∙ all-cleared;
    text = record {
      part = course.text ++ ending.text.part;
      missing = ending.text.missing;
      splits = append_assoc course.text ending.text.part ending.text.missing ∙ ap (λ text. course.text ++ text) ending.text.splits;
      is = ending.text.is ∙ append_assoc out course.text ending.text.part;
    };
    whole = λ none. ending.store;
  })

-- ---- a line among those of a script

-- a record that an event puts is put
put-passes : (Known : Name → Type 0) (asks : Asking) (laid store : List Stored) → store ≡ store_asked asks laid → StoreNow (change_by asks) Known laid store
put-passes Known (puts r) laid store is = inr is
put-passes Known (saves r) laid store is = inr is
put-passes Known asks laid store is = inl is

-- the store after a rejected event whose device was busy for too long
busy-left : (asks : Asking) (laid : List Stored) → store_asked asks laid ≡ store_at_end ErstBusy (change_by asks) laid
busy-left (puts r) laid = refl
busy-left (saves r) laid = refl
busy-left asks laid = refl

-- a line that is rejected is an event
refused-event : (place : Place) (exit : Exit) → refusal_at place ≡ Some exit → is_event place ≡ true
refused-event (site, (number, Ok asks.Nothing)) exit refused = absurd cc
refused-event place exit refused = refl

-- the store at the end of a run whose device wasn't busy for too long
pub kept-at-end : (exit : Exit) (next : StoreChange) (store : List Stored) → (exit ≡ ErstBusy → ⊥) → store_at_end exit next store ≡ store
kept-at-end ErstBusy next store free = absurd (free refl)
kept-at-end exit next store free = refl

module _ (start : Start) (script : List ℕ) (before rest : List NumberedLine) (read : NumberedLine) (splits : before ++ read ∷ rest ≡ reads_of script) (accepted : AreAccepted start before) where
  abbrev here : Site
  here = site_at start before

  abbrev line : Place
  line = (here, read)

  abbrev next : StoreChange
  next = change_next (run_of start script) (events_before start before)

  abbrev laid : List Stored
  laid = store_upto (run_of start script) (events_before start before)

  laid-here : laid ≡ here.store
  laid-here = store-first start script before (record { rest = read ∷ rest; splits = splits; accepted = accepted })

  next-is : is_event line ≡ true → IsBegunWith (refusal_at line) → next ≡ change_at line
  next-is = line-next start script before rest read splits accepted

  -- ---- where its news are kept

  abbrev KnownBehind : Name → Type 0
  KnownBehind = KnownBy (site_after here read).account

  asks-pass : (asks : Asking) (store : List Stored) (count : ℕ) → (deed_at line).asks ≡ asks
      → store ≡ (if clears_by asks then without_first count (store_asked asks here.store) else store_asked asks here.store) → StoreNow (change_by asks) KnownBehind here.store store
  asks-pass (polls seconds) store count there is = inr (record { count = count; is = is }, known-polled line seconds there)
  asks-pass (puts r) store count there is = inr is
  asks-pass (saves r) store count there is = inr is
  asks-pass asks store count there is = inl is

  pub part-now : (store : List Stored) (count : ℕ) → is_event line ≡ true → refusal_at line ≡ None → store ≡ store_cleared (course_at line) count → StoreNow next KnownBehind laid store
  part-now store count event taken is = rw (laid-here, next-is event (rw taken tt)) (asks-pass (deed_at line).asks store count refl is)

  -- ---- while the event is begun

  module _ (Known : Name → Type 0) (store : List Stored) where
    put-now : is_event line ≡ true → IsBegunWith (refusal_at line) → store ≡ stored_by (event_at line) here.store → StoreNow next Known laid store
    put-now event begun is = rw (laid-here, next-is event begun) (put-passes Known (deed_at line).asks here.store store is)

    stored-now : store ≡ stored_by (event_at line) here.store → StoreNow next Known laid store
    stored-now is = by (refusal_at line) refl
      where
        taken-now : refusal_at line ≡ None → (event : Bool) → is_event line ≡ event → StoreNow next Known laid store
        taken-now taken true event = put-now event (rw taken tt) is
        taken-now taken false not = inl (is ∙ ap (λ (e : Result Event LineRefusal). stored_by e here.store) (no-event line not) ∙ sym laid-here)

        by : (refusal : Option Exit) → refusal_at line ≡ refusal → StoreNow next Known laid store
        by None taken = taken-now taken (is_event line) refl
        by (Some ErstBusy) refused = put-now (refused-event line ErstBusy refused) (rw refused tt) is
        by (Some exit) refused = inl (is ∙ refused_is line exit (event_at line) refused ∙ sym laid-here)

    pub refused-left : (exit : Exit) → store ≡ refused_store exit (event_at line) here.store → StoreNow next Known laid store
    refused-left ErstBusy is = stored-now is
    refused-left exit is = inl (is ∙ sym laid-here)

  pub begun-now : (Known : Name → Type 0) (left : Left) (out : List ℕ) → IsBegun (course_at line) out left → StoreNow next Known laid left.store
  begun-now Known left out begun = elim begun.store [ inl same ↦ inl (same ∙ sym laid-here) | inr became ↦ stored-now Known left.store became ]

  -- ---- the run ends with the event

  pub refused-end : (store : List Stored) (exit : Exit) → refusal_at line ≡ Some exit → store ≡ refused_store exit (event_at line) here.store → store ≡ store_at_end exit next laid
  refused-end store ErstBusy refused is = rw (laid-here, next-is (refused-event line ErstBusy refused) (rw refused tt)) (is ∙ busy-left (deed_at line).asks here.store)
  refused-end store exit refused is = is ∙ sym laid-here

-- ---- where a run ends

-- a script's list of lines doesn't end with a busy device
script-end : (script : List ℕ) → script_exit script ≡ ErstBusy → ⊥
script-end script = by (length (script_lines script).whole) (script_lines script).ending
  where
    by : (count : ℕ) (ending : Ending) → ending_exit count ending ≡ ErstBusy → ⊥
    by count script_ended is = cc
    by count line_too_long is = cc
    by count script_too_long is = cc

module _ (start : Start) (script : List ℕ) (exit : Exit) (before : List NumberedLine) (store : List Stored) (all : AreAll start script exit before) where
  abbrev last : StoreChange
  last = change_next (run_of start script) (events_before start before)

  abbrev laid_last : List Stored
  laid_last = store_upto (run_of start script) (events_before start before)

  -- the store of a run that ends with an answer
  pub end-store : StoreAtEnd start script before exit store → store ≡ store_at_end exit last laid_last
  end-store (inl (ends, same)) = same ∙ sym (store-first start script before all.first) ∙ sym (kept-at-end exit last laid_last (λ busy. script-end script (sym ends ∙ busy)))
  end-store (inr left) = refused-end start script before left.rest left.read left.splits all.first.accepted store exit left.refused left.is

  -- the store while the run's last line is printed
  pub end-now : (Known : Name → Type 0) → StoreAtEnd start script before exit store → StoreNow last Known laid_last store
  end-now Known (inl (ends, same)) = inl (same ∙ sym (store-first start script before all.first))
  end-now Known (inr left) = refused-left start script before left.rest left.read left.splits all.first.accepted Known store exit left.is
