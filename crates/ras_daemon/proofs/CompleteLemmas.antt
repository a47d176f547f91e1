-- What else the promises of `rasd` say of a run.
use Rattle.std.proofs.Common.{◌≡◌, ℕ, List, length, Option, None, Some, ◌∙◌, refl, sym, ap, subst, inl, inr}
use Rattle.std.proofs.lemmas.List.{append_cancel_left}
use Rattle.std.specs.Prelude.{◌≢◌, ◌⊎◌}
use Rattle.board_core.specs.Cause.{Faults}
use Rattle.board_core.specs.Clock.{Always, LeftNow}
use Rattle.board_core.specs.Doing.{Seen}
use Rattle.board_core.specs.Told.{Told}
use Rattle.ras_journal.specs.Recovered.{HasFewLinks}
use Rattle.ras_run.specs.Sites.{Start}
use Rattle.ras_run.specs.Places.{Place}
use Rattle.ras_daemon.specs.Script.{events_of}
use Rattle.ras_exit.specs.declared.exit.Exit.{Exit}
use Rattle.ras_exit.specs.declared.exit.Exit.TheVariants.{Done, ErstStatus, NoMemory}
use Rattle.ras_exit.specs.Causes.{BoardCause, BoardCauseBy, SourceCause, SourceCauseBy}
use Rattle.ras_exit.specs.Endings.{CallEnding, IfAnswered, OnAnswer, answered, ending_of, faulted, source_failed, starved}
use Rattle.ras_exit.proofs.EndingLemmas.{memory_ran_out}
use Rattle.ras_events.specs.DoneLines.{done_count}
use Rattle.ras_daemon.specs.Commands.{MayEnd}
use Rattle.ras_daemon.specs.declared.word.Task.{Task}
use Rattle.ras_daemon.specs.declared.word.Task.TheVariants.{Run, Report, Load, Pcie, Klog, TraceFeed, LogFeed, TraceLines, KlogLines, GhesLines, MceLine, Help, Version}
use Rattle.ras_daemon.specs.Headline.{laid_with}
use Rattle.ras_daemon.specs.Promises.{Caused, IsQuiet, IsQuietBoard, Ran, RunStops}
use Rattle.ras_daemon.specs.RunActs.{DidAll, DidRun}
use Rattle.ras_daemon.specs.RunOutput.{run_output}
use Rattle.ras_daemon.specs.RunStatus.{run_exit}
use Rattle.ras_daemon.specs.Runs.{event_count}
use Rattle.ras_daemon.proofs.CallLemmas.{lines-counted}
use Rattle.ras_daemon.proofs.CountLemmas.{events_among}
use Rattle.ras_daemon.proofs.MachineLemmas.{store-same}

-- ---- its done lines number its events

all_counted : (start : Start) (script : List ℕ) (before now : Told) → DidAll start script before now → done_count (run_output start script) ≡ length (events_of start script)
all_counted start script before now did =
    lines-counted start script (run_exit start script) did.takes.before
    (record { first = record { rest = did.takes.rest; splits = did.takes.splits; accepted = did.takes.accepted }; all = did.takes.all; exit_is = refl }) did.holds.account
    ∙ ap (λ (ps : List Place). events_among ps) (sym did.takes.all)

pub did_counted : (start : Start) (script : List ℕ) (ending : CallEnding) (before now : Told) → DidRun start script ending before now → IfAnswered ending (done_count (run_output start script) ≡ length (events_of start script))
did_counted start script answered before now did = all_counted start script before now did
did_counted start script ending before now did = tt

-- ---- the record store of one that is done

pub ran_stored : (Same : Type 0) (start : Start) (script left : List ℕ) (before now : Told) → Ran Done Same start script before left now → now.here.store ≡ laid_with start script (event_count start script)
ran_stored Same start script left before now ran =
    let printed : ran.whole.printed ≡ run_output start script = append_cancel_left before.here.out ran.whole.printed (run_output start script) (sym ran.whole.text ∙ ran.output) in
    ran.whole.store
    ∙ store-same start script ran.whole.done
    ∙ ap (laid_with start script) (sym ran.whole.counted ∙ ap done_count printed ∙ all_counted start script before now ran.acts)

-- ---- one that no fault cut short and that is refused nowhere is done, where there is memory

module _ (source source' : ℕ) (board board' : Faults) (quiet_source : IsQuiet source source') (quiet_board : IsQuietBoard board board') where
  exit-done : (exit status : Exit) → OnAnswer exit (exit ≡ status) → SourceCause exit source source' → BoardCause exit board board' → status ≡ Done
      → (exit ≡ Done) ⊎ (exit ≡ NoMemory)
  exit-done exit status answers cause_source cause_board done = by (ending_of exit) refl answers cause_source cause_board
    where
      by : (ending : CallEnding) → ending_of exit ≡ ending → IfAnswered ending (exit ≡ status) → SourceCauseBy ending source source' → BoardCauseBy ending board board'
          → (exit ≡ Done) ⊎ (exit ≡ NoMemory)
      by answered is answers same also = inl (answers ∙ done)
      by (faulted kind) is answers same rose = absurd (quiet_board kind rose.own)
      by source_failed is answers rose same = absurd (quiet_source rose)
      by starved is answers same also = inr (memory_ran_out exit is)

pub ran_complete : (exit : Exit) (Same : Type 0) (start : Start) (script left : List ℕ) (before now : Told) (count count' : ℕ) (faults faults' : Faults)
    → Ran exit Same start script before left now → Caused exit count count' faults faults' → IsQuiet count count' → IsQuietBoard faults faults'
    → run_exit start script ≡ Done → (exit ≡ Done) ⊎ (exit ≡ NoMemory)
ran_complete exit Same start script left before now count count' faults faults' ran caused quiet_source quiet_board done =
    exit-done count count' faults faults' quiet_source quiet_board exit (run_exit start script) ran.status caused.source caused.board done

-- ---- no command reports a device's status of 0

pub may_code : (task : Option Task) (exit : Exit) (code : ℕ) → MayEnd task exit → exit ≡ ErstStatus code → code ≢ 0
may_code task exit code may is = by task (subst (MayEnd task) is may)
  where
    by : (task : Option Task) → MayEnd task (ErstStatus code) → code ≢ 0
    by None (inl is) = absurd cc
    by None (inr is) = absurd cc
    by (Some Run) some = some
    by (Some (Report listing)) never = absurd never
    by (Some (Load n)) (inl is) = absurd cc
    by (Some (Load n)) (inr (inl is)) = absurd cc
    by (Some (Load n)) (inr (inr is)) = absurd cc
    by (Some Pcie) never = absurd never
    by (Some (Klog boot mask)) never = absurd never
    by (Some (TraceFeed boot mask began drivers)) never = absurd never
    by (Some (LogFeed boot mask began borders)) never = absurd never
    by (Some (TraceLines boot)) never = absurd never
    by (Some (KlogLines boot mask)) never = absurd never
    by (Some (GhesLines boot began)) never = absurd never
    by (Some (MceLine boot)) never = absurd never
    by (Some Help) (inl is) = absurd cc
    by (Some Help) (inr is) = absurd cc
    by (Some Version) (inl is) = absurd cc
    by (Some Version) (inr is) = absurd cc

-- ---- how many links its files have

pub stops_few : {X : Type 0} (see : X → Seen) (exit : Exit) (Same : Type 0) (start : Start) (script : List ℕ) (t : Told) (old new : X) → LeftNow (see old).clock t.here
    → RunStops see exit Same start script t old new → Always (see old).clock (see old).clock.now HasFewLinks → Always (see new).clock (see old).clock.now HasFewLinks
stops_few see exit Same start script t old new here stops always left may = elim (stops.few (always t.here here) left may) [ inl was ↦ always left was | inr few ↦ few ]
