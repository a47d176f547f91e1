-- Both files are synced before anything else, and what a crash leaves from then on.
use Rattle.std.proofs.Common.{◌≡◌, ◌∙◌, ap, subst, inl, inr, List, Option, None, Some, Result, Ok, Err, IsSomeAnd}
use Rattle.board_core.specs.Clock.{Adds, Clock, LeftNow, Rests}
use Rattle.board_core.specs.Doing.{Seen}
use Rattle.board_core.specs.declared.board.DiskCall.{DiskCall}
use Rattle.board_core.specs.Steps.ClockLemmas.{adds_both, adds_weaker}
use Rattle.board_core.specs.Stop.{Left, Same}
use Rattle.board_core.specs.Told.{Relates, Told}
use Rattle.ras_base.specs.Prefix.{IsPrefixOf}
use Rattle.ras_recover.specs.DiskCalls.{Calls, with_calls}
use Rattle.ras_recover.specs.Opening.{FormatsFirst, OpeningSynced}
use Rattle.ras_recover.specs.Recovering.{KeepsTold, MaySync, RestsHere, SyncsBy, SyncsFirst, both_syncs}
use Rattle.ras_recover.specs.Steps.Looking.{AreSyncs}

-- what the model says once both syncs returned Ok
pub synced_rests : (T E : Type 0) (x : T) (t : Told) (told new : Option Told) (clock : Clock) → told ≡ Some t → RestsHere t.here new clock → Relates (Calls (AreSyncs {T = T} {E = E} (Ok x))) told new
    → Rests (with_calls both_syncs t) new clock
synced_rests T E x t told new clock is rests calls = record {
  is = by new (subst (λ (o : Option Told). Relates (Calls (AreSyncs {T = T} {E = E} (Ok x))) o new) is calls);
  only = λ left now. rests.rests.only left now ∙ rests.same;
}
  where
    by : (new : Option Told) → Relates (Calls (AreSyncs {T = T} {E = E} (Ok x))) (Some t) new → new ≡ Some (with_calls both_syncs t)
    by None never = absurd never
    by (Some u) calls = ap Some (calls.is ∙ ap (λ (made : List DiskCall). with_calls made t) calls.are.done)

-- What was called if a sync failed.
pub synced_at_most : (T E : Type 0) (result : Result T E) (t : Told) (told new : Option Told) → told ≡ Some t → Relates (Calls (AreSyncs result)) told new → IsSomeAnd new (Calls (λ made. IsPrefixOf made both_syncs) t)
synced_at_most T E result t told new is calls = by new (subst (λ (o : Option Told). Relates (Calls (AreSyncs result)) o new) is calls)
  where
    by : (new : Option Told) → Relates (Calls (AreSyncs result)) (Some t) new → IsSomeAnd new (Calls (λ made. IsPrefixOf made both_syncs) t)
    by None never = absurd never
    by (Some u) calls = record { made = calls.made; is = calls.is; are = calls.are.begins }

module _ {X : Type 0} (see : X → Seen) (t : Told) (old : X) where
  on_result : {T E : Type 0} (P : Left → Type 0) (result : Result T E) (new : X) → SyncsFirst see P t old new → SyncsBy see P t result old new
  on_result P (Ok x) new synced = synced
  on_result P (Err why) new synced = inl synced

  -- The files were read after the syncs.
  pub syncs_read : {T E : Type 0} (result : Result T E) (mid new : X) → Rests (with_calls both_syncs t) (see mid).told (see mid).clock
      → KeepsTold (see old).told (see old).clock (see mid).told (see mid).clock
      → KeepsTold (see mid).told (see mid).clock (see new).told (see new).clock → SyncsBy see (Same t.here) t result old new
  syncs_read result mid new rests first second = on_result (Same t.here) result new (record {
    synced = mid;
    rests = rests;
    until = first.stops;
    since = adds_weaker (LeftNow (see mid).clock) (Same t.here) (see mid).clock (see new).clock second.stops rests.only;
  })

  -- An opening without formatting continues as a recovery.
  pub opening_synced : (new : X) → SyncsFirst see (Same t.here) t old new → SyncsFirst see (OpeningSynced t.here) t old new
  opening_synced new s = record {
    synced = s.synced;
    rests = s.rests;
    until = s.until;
    since = adds_weaker (Same t.here) (OpeningSynced t.here) (see s.synced).clock (see new).clock s.since (λ left same. inl same);
  }

  pub opening_may_sync : (new : X) → MaySync see (Same t.here) t old new → MaySync see (OpeningSynced t.here) t old new
  opening_may_sync new (inl s) = inl (opening_synced new s)
  opening_may_sync new (inr failed) = inr failed

  -- file 0 was formatted after the recovery
  pub synced_formats : (mid new : X) → SyncsFirst see (Same t.here) t old mid → Adds (FormatsFirst t.here) (see mid).clock (see new).clock → SyncsFirst see (OpeningSynced t.here) t old new
  synced_formats mid new s formats = record {
    synced = s.synced;
    rests = s.rests;
    until = s.until;
    since =
        adds_both (OpeningSynced t.here) (see s.synced).clock (see mid).clock (see new).clock
        (adds_weaker (Same t.here) (OpeningSynced t.here) (see s.synced).clock (see mid).clock s.since (λ left same. inl same))
        (adds_weaker (FormatsFirst t.here) (OpeningSynced t.here) (see mid).clock (see new).clock formats (λ left f. inr f));
  }
