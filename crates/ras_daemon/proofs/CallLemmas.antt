-- What `rasd` promises of a run follows from what the run did.
use Rattle.std.proofs.Common.{◌≡◌, ℕ, ◌≤◌, List, [], ◌++◌, Option, Some, None, refl, sym, ap, ◌∙◌, subst, append_assoc, append-nil, arith, inl, inr}
use Rattle.std.specs.Prelude.{◌⊎◌, IsSomeAnd, ⊤}
use Rattle.std.specs.List.{flat_map}
use Rattle.board_core.specs.Cause.{disk_call}
use Rattle.board_core.specs.Clock.{Adds, Always, Clock, LeftNow, Rests}
use Rattle.board_core.specs.Steps.ClockLemmas.{adds_weaker}
use Rattle.board_core.specs.Stop.{Left}
use Rattle.board_core.specs.Told.{Told}
use Rattle.ras_account.specs.Account.{State}
use Rattle.ras_account.specs.Accounts.{IsAccount}
use Rattle.ras_journal.specs.Recovered.{Recovers}
use Rattle.ras_recover.specs.Opening.{OpeningSynced}
use Rattle.ras_recover.specs.OpeningActs.{AreOpeningActs}
use Rattle.ras_recover.specs.Recovering.{SyncsFirst}
use Rattle.ras_texts.specs.Orders.{standing_lines}
use Rattle.ras_events.specs.Described.{NumberedLine}
use Rattle.ras_run.specs.Sites.{Start}
use Rattle.ras_run.specs.Places.{site_at}
use Rattle.ras_events.specs.DoneLines.{done_count}
use Rattle.ras_exit.specs.declared.exit.Exit.{Exit}
use Rattle.ras_exit.specs.Endings.{CallEnding, EndsBy, IfAnswered, OnAnswer, OnlyFault, OnWhole, UnlessFaulted, answered, ending_of, faulted, source_failed, starved}
use Rattle.ras_exit.specs.Telling.{PrintsPart}
use Rattle.ras_exit.proofs.EndingLemmas.{memory_ran_out}
use Rattle.ras_run.specs.Output.{output_at}
use Rattle.ras_daemon.specs.Ahead.{TakesAhead}
use Rattle.ras_daemon.specs.Headline.{AtOpening, Headline, IsWhole, NeverOpens, Settles, StopsRecover}
use Rattle.ras_daemon.specs.Machine.{change_next, store_upto}
use Rattle.ras_daemon.specs.RunOf.{run_of}
use Rattle.ras_daemon.specs.Promises.{HasOpened, Ran, RunStops, StillTell}
use Rattle.ras_daemon.specs.RunActs.{DidRun}
use Rattle.ras_daemon.specs.RunOutput.{closing_line, run_output}
use Rattle.ras_daemon.specs.RunStatus.{run_exit, start_of}
use Rattle.board_core.specs.Doing.{Act, Seen, after_acts}
use Rattle.ras_daemon.specs.Steps.Doing.{Comes, DoesNotOpen, DoesRun, Opens}
use Rattle.ras_daemon.proofs.RunLemmas.{disk_failed, run_ends, run_stops, synced_at}
use Rattle.ras_daemon.proofs.AheadLemmas.{ahead_told}
use Rattle.ras_daemon.proofs.DidLemmas.{opened_acts, opened_first, run_did}
use Rattle.ras_daemon.proofs.FewLinksLemmas.{opened-few, run-few}
use Rattle.ras_daemon.specs.StoreDuring.{store_at_end}
use Rattle.ras_daemon.specs.Steps.Running.{AreAll, AreFirst, EndsEarly, EndsIn, EndsAhead, EndsSo, OpenMoment, RunEnds, RunMoment, lines_from, outputs}
use Rattle.ras_daemon.proofs.HeadlineLemmas.{closing-quiet, headline, headline-since, moment-prints}
use Rattle.ras_daemon.proofs.ScriptLemmas.{takes_stops}
use Rattle.ras_daemon.proofs.CountLemmas.{account-first, count-first, events_before}
use Rattle.ras_daemon.proofs.FirstLinesLemmas.{closing-same}
use Rattle.ras_daemon.proofs.CourseLemmas.{end-store, kept-at-end}
use Rattle.ras_daemon.proofs.StoreLemmas.{store-first}
use Rattle.ras_daemon.proofs.MachineLemmas.{account-same}
use Rattle.ras_exit.specs.declared.exit.Exit.TheVariants.{DiskFault, ErstBusy, NoMemory, SourceFault}
use Rattle.ras_events.proofs.DoneLemmas.{none_done}

-- ---- a run that ends with an answer

-- all that the run prints
text-so : (start : Start) (script : List ℕ) (exit : Exit) (before : List NumberedLine) → AreAll start script exit before
    → standing_lines start.account ++ (outputs start before ++ closing_line (site_at start before).account exit) ≡ run_output start script
text-so start script exit before all = λ i.
    standing_lines start.account ++ (flat_map output_at (sym all.all i) ++ closing-same start script exit before all i)

-- all that the run prints says that the events of its lines are done
pub lines-counted : (start : Start) (script : List ℕ) (exit : Exit) (before : List NumberedLine) → AreAll start script exit before → IsAccount start.account → done_count (run_output start script) ≡ events_before start before
lines-counted start script exit before all account =
    let last : List ℕ = closing_line (site_at start before).account exit in
    let none : done_count last ≡ 0 = none_done last last [] (closing-quiet (site_at start before).account exit) (append-nil last) in
    ap done_count (sym (text-so start script exit before all) ∙ sym (append_assoc (standing_lines start.account) (outputs start before) last))
    ∙ count-first start script before all.first account last
    ∙ omega (arith, none)

-- the run's output was printed
output-so : (start : Start) (script : List ℕ) (exit : Exit) (old now : Told) → EndsSo start script exit old.here.out now → now.here.out ≡ old.here.out ++ run_output start script
output-so start script exit old now ends = ends.text ∙ ap (λ (text : List ℕ). old.here.out ++ text) (text-so start script exit ends.before ends.all)

module _ (start : Start) (script : List ℕ) (old now : Told) where
  -- a statement about the end of a run with an answer
  ends-answer : (exit : Exit) (P : Type 0) → (EndsSo start script exit old.here.out now → P) → RunEnds start script exit old.here.out now → OnAnswer exit P
  ends-answer exit P so ends = by (ending_of exit) ends
    where
      by : (ending : CallEnding) → EndsIn start script exit ending old.here.out now → IfAnswered ending P
      by answered ends = so ends
      by ending ends = tt

  pub ends-status : (exit : Exit) → RunEnds start script exit old.here.out now → OnAnswer exit (exit ≡ run_exit start script)
  ends-status exit = ends-answer exit (exit ≡ run_exit start script) (λ ends. sym ends.all.exit_is)

  pub ends-output : (exit : Exit) → RunEnds start script exit old.here.out now → OnAnswer exit (now.here.out ≡ old.here.out ++ run_output start script)
  ends-output exit = ends-answer exit (now.here.out ≡ old.here.out ++ run_output start script) (output-so start script exit old now)

  -- only whole events were done: the events of first lines
  whole-lines : (exit : Exit) (before : List NumberedLine) (printed : List ℕ) → AreFirst start script before → Recovers (site_at start before).account now.here
      → now.here.store ≡ store_at_end exit (change_next (run_of start script) (events_before start before)) (store_upto (run_of start script) (events_before start before))
      → done_count printed ≡ events_before start before → now.here.out ≡ old.here.out ++ printed → IsWhole (run_of start script) exit old now
  whole-lines exit before printed first recovers store count text = record {
    printed = printed;
    text = text;
    done = events_before start before;
    counted = count;
    recovers = subst (λ (account : State). Recovers account now.here) (sym (account-same start script (events_before start before) ∙ account-first start script before first)) recovers;
    store = store;
  }

  whole-so : (exit : Exit) → EndsSo start script exit old.here.out now → IsWhole (run_of start script) exit old now
  whole-so exit ends =
      whole-lines exit ends.before (run_output start script) ends.all.first ends.recovers (end-store start script exit ends.before now.here.store ends.all ends.store)
      (lines-counted start script exit ends.before ends.all ends.account) (output-so start script exit old now ends)

  early-lines : (exit : Exit) → (exit ≡ ErstBusy → ⊥) → EndsEarly start script old.here.out now → IsWhole (run_of start script) exit old now
  early-lines exit free ends = by ends.text
    where
      whole : (printed : List ℕ) → done_count printed ≡ events_before start ends.before → now.here.out ≡ old.here.out ++ printed → IsWhole (run_of start script) exit old now
      whole printed count text =
          whole-lines exit ends.before printed ends.first ends.recovers
          (ends.store ∙ sym (store-first start script ends.before ends.first) ∙ sym (kept-at-end exit (change_next (run_of start script) (events_before start ends.before)) _ free)) count text

      by : (IsAccount start.account × (now.here.out ≡ old.here.out ++ (standing_lines start.account ++ outputs start ends.before))) ⊎ ((now.here.out ≡ old.here.out) × (ends.before ≡ [])) → IsWhole (run_of start script) exit old now
      by (inl (account, text)) =
          let printed : List ℕ = standing_lines start.account ++ outputs start ends.before in
          whole (printed ++ []) (count-first start script ends.before ends.first account [] ∙ omega arith) (text ∙ ap (λ (more : List ℕ). old.here.out ++ more) (sym (append-nil printed)))
      by (inr (text, none)) = whole [] (sym (ap (events_before start) none)) (text ∙ sym (append-nil old.here.out))

  pub ends-whole : (exit : Exit) → RunEnds start script exit old.here.out now → OnWhole exit (IsWhole (run_of start script) exit old now)
  ends-whole exit ends = by (ending_of exit) refl ends
    where
      by : (ending : CallEnding) → ending_of exit ≡ ending → EndsIn start script exit ending old.here.out now → UnlessFaulted ending (IsWhole (run_of start script) exit old now)
      by answered is ends = whole-so exit ends
      by (faulted kind) is ends = tt
      by source_failed is ends = early-lines exit (λ busy. let e = sym is ∙ ap ending_of busy in cc) ends
      by starved is ends = early-lines exit (λ busy. let e = sym is ∙ ap ending_of busy in cc) ends

-- ---- what crashes leave

-- what a crash since the start of a run leaves
pub always-headline : (old new : Clock) (start : Start) (script : List ℕ) (here : Left) → StopsRecover start old
    → ((left : Left) → LeftNow old left → left.out ≡ here.out)
    → Adds (RunMoment old start script here) old new → Always new old.now (Headline (run_of start script) here)
always-headline old new start script here stops text adds left may = by (adds.each old.now left (omega arith) may)
  where
    by : old.may_leave_since old.now left ⊎ RunMoment old start script here left → Headline (run_of start script) here left
    by (inl before) = headline old start script here left stops (text left) (inl before)
    by (inr moment) = headline old start script here left stops (text left) moment

-- the model now is what a crash now may leave
pub begun-now : (old new : Clock) (start : Start) (script : List ℕ) (here now : Left) → ((left : Left) → LeftNow old left → left.out ≡ here.out)
    → Adds (RunMoment old start script here) old new → new.may_leave_since old.now now → PrintsPart (run_output start script) here.out now.out
begun-now old new start script here now text adds may = by (adds.each old.now now (omega arith) may)
  where
    by : old.may_leave_since old.now now ⊎ RunMoment old start script here now → PrintsPart (run_output start script) here.out now.out
    by (inl before) = moment-prints old start script here now (text now) (inl before)
    by (inr moment) = moment-prints old start script here now (text now) moment

-- ---- the journal was opened, or it never was

cut-exit : (exit : Exit) → EndsBy ⊥ ⊤ (OnlyFault disk_call) (ending_of exit) → (exit ≡ DiskFault) ⊎ (exit ≡ NoMemory)
cut-exit exit cut = by (ending_of exit) refl cut
  where
    by : (ending : CallEnding) → ending_of exit ≡ ending → EndsBy ⊥ ⊤ (OnlyFault disk_call) ending → (exit ≡ DiskFault) ⊎ (exit ≡ NoMemory)
    by answered so never = absurd never
    by source_failed so never = absurd never
    by (faulted kind) so only = inl (disk_failed exit (so ∙ ap faulted only))
    by starved so any = inr (memory_ran_out exit so)

module _ {X : Type 0} (see : X → Seen) (account : State) (script : List ℕ) (exit : Exit) (t : Told) (old new : X) (recovers : Recovers account t.here) where
  abbrev start : Start
  start = start_of account t

  synced-start : (mid : X) → SyncsFirst see (OpeningSynced t.here) t old mid → SyncsFirst see (AtOpening start t.here.out) t old mid
  synced-start mid s = record {
    synced = s.synced;
    rests = s.rests;
    until = s.until;
    since = adds_weaker (OpeningSynced t.here) (AtOpening start t.here.out) (see s.synced).clock (see mid).clock s.since (λ left opening. synced_at account t left recovers opening);
  }

  -- the run settles, from the point at which both files were synced
  run-settles : Opens see start script exit t old new → Settles see start script t old new
  unfolding synced-start
  run-settles d = record {
    opened = d.mid;
    syncs = synced-start d.mid d.syncs;
    just = record { acts = first.0; are = first.1; rests = subst (λ (u : Told). Rests u (see d.mid).told (see d.mid).clock) first.2 d.rests };
    behind = adds_weaker (OpenMoment start script d.there.here.out) (Headline (run_of start script) t.here) (see d.mid).clock (see new).clock adds later;
    from = λ left may. elim (adds.each (see d.syncs.synced).clock.now left d.syncs.since.later may) [ inl was ↦ opening left was | inr moment ↦ later left moment ];
    few = λ few. opened-few see start script exit t old new few d;
  }
    where
      first : (acts : List Act) × AreOpeningActs t.here acts × (d.there ≡ after_acts acts t)
      first = opened_acts t d.there d.makes

      adds : Adds (OpenMoment start script d.there.here.out) (see d.mid).clock (see new).clock
      adds = takes_stops see start script d.there exit d.mid new d.rests d.holds d.takes

      later : (left : Left) → OpenMoment start script d.there.here.out left → Headline (run_of start script) t.here left
      later left moment = headline-since start script t.here left (inr (d.holds.account, subst (λ out. OpenMoment start script out left) d.text moment))

      synced : (left : Left) → OpeningSynced t.here left → Headline (run_of start script) t.here left
      synced left at = headline-since start script t.here left (inl (synced_at account t left recovers at))

      opening : (left : Left) → (see d.mid).clock.may_leave_since (see d.syncs.synced).clock.now left → Headline (run_of start script) t.here left
      opening left was = elim (d.syncs.since.each (see d.syncs.synced).clock.now left (omega arith) was) [ inl now ↦ synced left (inl (d.syncs.rests.only left now)) | inr at ↦ synced left at ]

  never-opens : (Same : Type 0) → Same → DoesNotOpen see exit t old new → NeverOpens see exit Same start t old new
  never-opens Same same d = record {
    cut = cut-exit exit d.cut;
    unread = same;
    syncs = elim d.syncs [ inl synced ↦ inl (synced-start new synced) | inr failed ↦ inr failed ];
  }

  pub run-settled : (Same : Type 0) (left : Option (List ℕ)) → Comes see Same start script exit t left old new
      → Settles see start script t old new ⊎ NeverOpens see exit Same start t old new
  run-settled Same left comes = by comes.does comes.reads
    where
      by : DoesRun see start script exit t old new → Same ⊎ (Opens see start script exit t old new × EndsAhead (exit ≡ SourceFault) start script (lines_from start t.here.out) left (see new).told)
          → Settles see start script t old new ⊎ NeverOpens see exit Same start t old new
      by (inl d) (inl same) = inr (never-opens Same same d)
      by (inl d) (inr read) = inl (run-settles read.0)
      by (inr d) reads = inl (run-settles d)

-- ---- the promised records, from what a run did

-- What a board's laws say of what a crash between its calls leaves.
pub record LeavesTold (told : Option Told) (clock : Clock) : Type 0 where
  pub text : (t : Told) (left : Left) → told ≡ Some t → LeftNow clock left → left.out ≡ t.here.out
  pub now : (t : Told) → told ≡ Some t → LeftNow clock t.here
  pub earlier : (m n : ℕ) (left : Left) → m ≤ n → clock.may_leave_since n left → clock.may_leave_since m left

module _ {X : Type 0} (see : X → Seen) (Same : Type 0) (account : State) (script : List ℕ) (exit : Exit) (t : Told) (left : Option (List ℕ)) (old new : X) (is : (see old).told ≡ Some t) (recovers : Recovers account t.here)
    (first : LeavesTold (see old).told (see old).clock) (comes : Comes see Same (start_of account t) script exit t left old new) where
  abbrev begins : Start
  begins = start_of account t

  stops : Adds (RunMoment (see old).clock begins script t.here) (see old).clock (see new).clock
  stops = run_stops see account script exit t old new recovers comes.does

  -- what crashes of the run leave
  pub run-stops : RunStops see exit Same begins script t old new
  run-stops = record {
    later = stops.later;
    once = λ recover. always-headline (see old).clock (see new).clock begins script t.here recover (λ left may. first.text t left is may) stops;
    settled = run-settled see account script exit t old new recovers Same left comes;
    few = λ few. run-few see begins script exit t old new few comes.does;
  }

  -- what the model says at the run's end
  module _ (last : LeavesTold (see new).told (see new).clock) where
    ran-now : (rest : List ℕ) (now : Told) → (see new).told ≡ Some now → RunEnds begins script exit t.here.out now → DidRun begins script (ending_of exit) t now → TakesAhead exit script rest t now
        → Same ⊎ HasOpened begins t now → Ran exit Same begins script t rest now
    ran-now rest now here ends did ahead opened = record {
      status = ends-status begins script t now exit ends;
      output = ends-output begins script t now exit ends;
      begun = begun-now (see old).clock (see new).clock begins script t.here now.here (λ left may. first.text t left is may) stops (last.earlier (see old).clock.now (see new).clock.now now.here stops.later (last.now now here));
      whole = ends-whole begins script t now exit ends;
      acts = did;
      ahead = ahead;
      opened = opened;
    }

    run-begun : (told : Option Told) → (see new).told ≡ told → IsSomeAnd told (RunEnds begins script exit t.here.out) → IsSomeAnd told (λ now. PrintsPart (run_output begins script) t.here.out now.here.out)
    run-begun None here ends = absurd ends
    run-begun (Some now) here ends =
        begun-now (see old).clock (see new).clock begins script t.here now.here (λ left may. first.text t left is may) stops (last.earlier (see old).clock.now (see new).clock.now now.here stops.later (last.now now here))

    pub run-ran : (Same → left ≡ Some script) → StillTell (Ran exit Same begins script t) left (see new).told
    run-ran back =
        by left (see new).told refl (run_ends see account script exit t old new recovers comes.does) (run_did see begins script exit t old new comes.does)
        (ahead_told exit Same begins script t left (see new).told back (elim comes.reads [ inl same ↦ inl same | inr (opens, ahead) ↦ inr (opens.holds.account, ahead) ])
        (run-begun (see new).told refl (run_ends see account script exit t old new recovers comes.does)))
        (elim comes.reads [ inl same ↦ inl same | inr (opens, ahead) ↦ inr (opened_first see begins script exit t left old new opens ahead) ])
      where
        by : (left : Option (List ℕ)) (told : Option Told) → (see new).told ≡ told → IsSomeAnd told (RunEnds begins script exit t.here.out) → IsSomeAnd told (DidRun begins script (ending_of exit) t)
            → IsSomeAnd left (λ rest. IsSomeAnd told (TakesAhead exit script rest t)) → Same ⊎ IsSomeAnd told (HasOpened begins t) → StillTell (Ran exit Same begins script t) left told
        by None told here ends did ahead opened = absurd ahead
        by (Some rest) None here ends did ahead opened = absurd ahead
        by (Some rest) (Some now) here ends did ahead opened = ran-now rest now here ends did ahead opened
