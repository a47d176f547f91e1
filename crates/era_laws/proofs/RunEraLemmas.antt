-- Eras, made from what `rasd` promises of a run.
use Rattle.std.proofs.Common.{◌≡◌, ℕ, ◌≤◌, List, arith, inl, inr, refl, sym, ap, subst}
use Rattle.std.specs.Prelude.{◌⊎◌}
use Rattle.board_core.specs.Clock.{Clock, LeftNow}
use Rattle.board_core.specs.Stop.{Left}
use Rattle.board_core.specs.Doing.{Seen}
use Rattle.board_core.specs.Told.{Told}
use Rattle.ras_recover.specs.Recovering.{MaySync, SyncsFirst}
use Rattle.ras_account.specs.Account.{State}
use Rattle.ras_exit.specs.declared.exit.Exit.{Exit}
use Rattle.ras_journal.specs.Recovered.{Recovers}
use Rattle.ras_daemon.specs.Headline.{AtOpening, Headline, NeverOpens, Settles, StopsRecover}
use Rattle.ras_daemon.specs.Promises.{RunStops}
use Rattle.ras_daemon.specs.RunOf.{run_of}
use Rattle.ras_daemon.specs.RunStatus.{start_of}
use Rattle.ras_daemon.proofs.HeadlineLemmas.{headline-nothing}
use Rattle.ras_run.specs.Sites.{Start}
use Rattle.era_laws.specs.Eras.{IsEra, era_of}

pub stops-recover : (clock : Clock) (account : State) (t : Told) → Recovers account t.here → ((left : Left) → LeftNow clock left → left ≡ t.here) → StopsRecover (start_of account t) clock
stops-recover clock account t recovers only left now = record {
  recovers = subst (Recovers account) (sym (only left now)) recovers;
  store = ap (λ (l : Left). l.store) (only left now);
}

module _ {X : Type 0} (see : X → Seen) (old new : X) (account : State) (t : Told) (script : List ℕ) (opens : Recovers account t.here) where
  abbrev start : Start
  start = start_of account t

  abbrev Leaves : Left → Type 0
  Leaves left = IsEra (era_of account t script left)

  is-era : (left : Left) → Headline (run_of start script) t.here left → Leaves left
  is-era left leaves = record { opens = opens; store = refl; leaves = leaves }

  -- a crash leaves an era, from the point at which both syncs of the opening have returned
  pub era-settled : (left : Left) (settles : Settles see start script t old new) → (see new).clock.may_leave_since (see settles.syncs.synced).clock.now left → Leaves left
  era-settled left settles may = is-era left (settles.from left may)

  era-opening : (left : Left) → AtOpening start t.here.out left → Leaves left
  era-opening left opening = is-era left (headline-nothing start script t.here left opening.text opening.recovers opening.store)

  -- a crash leaves an era from that point on, also if the journal is never open
  pub era-synced : (left : Left) (mid : X) (syncs : SyncsFirst see (AtOpening start t.here.out) t old mid) → (see mid).clock.may_leave_since (see syncs.synced).clock.now left → Leaves left
  era-synced left mid syncs may = elim (syncs.since.each (see syncs.synced).clock.now left (omega arith) may) [
    | inl was ↦ subst Leaves (sym (syncs.rests.only left was)) (is-era t.here (headline-nothing start script t.here t.here refl opens refl))
    | inr opening ↦ era-opening left opening
  ]

  -- until then a crash leaves what a crash at the start might have left
  era-during : (left : Left) (mid : X) → MaySync see (AtOpening start t.here.out) t old mid → (see mid).clock.may_leave_since (see old).clock.now left → LeftNow (see old).clock left ⊎ Leaves left
  era-during left mid (inl syncs) may = elim (syncs.since.each (see old).clock.now left syncs.until.later may) [
    | inl was ↦ inl (elim (syncs.until.each (see old).clock.now left (omega arith) was) [ inl now ↦ now | inr now ↦ now ])
    | inr opening ↦ inr (era-opening left opening)
  ]
  era-during left mid (inr failed) may = inl (elim (failed.stops.each (see old).clock.now left (omega arith) may) [ inl now ↦ now | inr now ↦ now ])

  module _ (exit : Exit) (Same : Type 0) (stops : RunStops see exit Same start script t old new) where
    -- a crash at any point of the run leaves an era
    pub era-stopped : StopsRecover start (see old).clock → (left : Left) → (see new).clock.may_leave_since (see old).clock.now left → Leaves left
    era-stopped recover left may = is-era left (stops.once recover left may)

    -- the state of the model at the end is an era, if a crash at the end may leave this state
    pub era-ended : StopsRecover start (see old).clock
        → ((s t : ℕ) (left : Left) → s ≤ t → (see new).clock.may_leave_since t left → (see new).clock.may_leave_since s left)
        → (left : Left) → LeftNow (see new).clock left → Leaves left
    era-ended recover earlier left now = era-stopped recover left (earlier (see old).clock.now (see new).clock.now left stops.later now)

    -- a run that began while the machine went on leaves an era, or what a crash at its start might have left
    pub era-went-on : (left : Left) → (see new).clock.may_leave_since (see old).clock.now left → LeftNow (see old).clock left ⊎ Leaves left
    era-went-on left may = by stops.settled
      where
        by : Settles see start script t old new ⊎ NeverOpens see exit Same start t old new → LeftNow (see old).clock left ⊎ Leaves left
        by (inl settles) =
            let first : (see old).clock.now ≤ (see settles.syncs.synced).clock.now = settles.syncs.until.later in
            let later : (see settles.syncs.synced).clock.now ≤ (see settles.opened).clock.now = settles.syncs.since.later in
            elim (settles.behind.each (see old).clock.now left (omega arith) may) [
              | inl was ↦ era-during left settles.opened (inl settles.syncs) was
              | inr leaves ↦ inr (is-era left leaves)
            ]
        by (inr never) = era-during left new never.syncs may
