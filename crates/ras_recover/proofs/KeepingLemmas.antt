-- Calls that don't change the model of files, store and text.
use Rattle.std.proofs.Common.{◌≡◌, ◌∙◌, ℕ, Option, None, Some, Result, Ok, Err, refl, sym, ap, subst, arith, inl, inr}
use Rattle.std.specs.Prelude.{IfSome}
use Rattle.std.specs.Option.{option_map}
use Rattle.board_core.specs.declared.board.FileNo.TheVariants.{Zero, One}
use Rattle.board_core.specs.declared.board.DiskCall.{DiskCall}
use Rattle.board_core.specs.declared.board.DiskCall.TheVariants.{Sync}
use Rattle.board_core.specs.Clock.{Clock, LeftNow, After, Passes, IsSynced, StoreIsLeft}
use Rattle.board_core.specs.Steps.ClockLemmas.{adds_after, adds_both, adds_weaker, adds_none, synced_over, rests_synced}
use Rattle.board_core.specs.Stop.{Left, Same}
use Rattle.board_core.specs.Told.{Told, Steps, Relates, MayList, with_call, file_of}
use Rattle.board_core.specs.Cause.{Faults, disk_call, with_count, FailsAs}
use Rattle.ras_recover.specs.declared.refused.OpenRefused.{OpenRefused}
use Rattle.ras_recover.specs.declared.refused.OpenRefused.TheVariants.{Disk, TooLong, Damaged, NoMemory}
use Rattle.ras_recover.specs.Recovering.{KeepsTold, RestsHere, UnlessDisk}

same_left : (old : Clock) (left : Left) → After old Same left → LeftNow old left
same_left old left after = subst (λ (l : Left). LeftNow old l) (sym after.by) after.was

called : (call : DiskCall) (old new : Option Told) → Steps (with_call call) old new → option_map (λ (t : Told). t.here) new ≡ option_map (λ (t : Told). t.here) old
called call None new steps = ap (λ (o : Option Told). option_map (λ (t : Told). t.here) o) steps
called call (Some t) new steps = ap (λ (o : Option Told). option_map (λ (t : Told). t.here) o) steps

failed : (call : DiskCall) (old new : Option Told) → Relates (MayList call) old new → option_map (λ (t : Told). t.here) new ≡ option_map (λ (t : Told). t.here) old
failed call None new relates = ap (λ (o : Option Told). option_map (λ (t : Told). t.here) o) relates
failed call (Some t) None relates = absurd relates
failed call (Some t) (Some u) (inl same) = ap (λ (v : Told). Some v.here) same
failed call (Some t) (Some u) (inr listed) = ap (λ (v : Told). Some v.here) listed

keeps_by : (told_old : Option Told) (old : Clock) (told_new : Option Told) (new : Clock) → option_map (λ (t : Told). t.here) told_new ≡ option_map (λ (t : Told). t.here) told_old → Passes Same old new → KeepsTold told_old old told_new new
keeps_by told_old old told_new new here passes = record {
  here = here;
  stops = adds_after Same (LeftNow old) old new passes (same_left old);
  ends = λ left now. same_left old left (passes.ends left now);
}

pub keeps_call : (call : DiskCall) (told_old : Option Told) (old : Clock) (told_new : Option Told) (new : Clock) → Steps (with_call call) told_old told_new → Passes Same old new → KeepsTold told_old old told_new new
keeps_call call told_old old told_new new steps passes = keeps_by told_old old told_new new (called call told_old told_new steps) passes

pub keeps_failed : (call : DiskCall) (told_old : Option Told) (old : Clock) (told_new : Option Told) (new : Clock) → Relates (MayList call) told_old told_new → Passes Same old new → KeepsTold told_old old told_new new
keeps_failed call told_old old told_new new relates passes = keeps_by told_old old told_new new (failed call told_old told_new relates) passes

pub keeps_nothing : (told : Option Told) (clock : Clock) → KeepsTold told clock told clock
keeps_nothing told clock = record { here = refl; stops = adds_none (LeftNow clock) clock; ends = λ left now. now }

pub keeps_then : (told_a : Option Told) (a : Clock) (told_b : Option Told) (b : Clock) (told_c : Option Told) (c : Clock) → KeepsTold told_a a told_b b → KeepsTold told_b b told_c c → KeepsTold told_a a told_c c
keeps_then told_a a told_b b told_c c first second = record {
  here = second.here ∙ first.here;
  stops = adds_both (LeftNow a) a b c first.stops (adds_weaker (LeftNow b) (LeftNow a) b c second.stops first.ends);
  ends = λ left now. first.ends left (second.ends left now);
}

-- A property of the model before still holds.
pub still : (P : Left → Type 0) (old new : Option Told) → option_map (λ (t : Told). t.here) new ≡ option_map (λ (t : Told). t.here) old → IfSome old (λ t. P t.here) → IfSome new (λ t. P t.here)
still P old None same holds = tt
still P None (Some u) same holds = absurd cc
still P (Some t) (Some u) same holds = let here : u.here ≡ t.here = cc in subst P (sym here) holds

-- A property of the model after held before.
pub before : (P : Left → Type 0) (old new : Option Told) → option_map (λ (t : Told). t.here) new ≡ option_map (λ (t : Told). t.here) old → IfSome new (λ t. P t.here) → IfSome old (λ t. P t.here)
before P old new same holds = still P new old (sym same) holds

-- A crash still leaves exactly what the model says.
pub rests_still : (here : Left) (told_old : Option Told) (old : Clock) (told_new : Option Told) (new : Clock) → RestsHere here told_old old → KeepsTold told_old old told_new new → RestsHere here told_new new
rests_still here told_old old None new rests keeps = absurd (nothing (keeps.here ∙ ap (λ (o : Option Told). option_map (λ (t : Told). t.here) o) rests.rests.is))
  where
    nothing : ◌≡◌ {A = Option Left} None (Some rests.there.here) → ⊥
    nothing e = cc
rests_still here told_old old (Some u) new rests keeps =
    let told : ◌≡◌ {A = Option Left} (Some u.here) (Some rests.there.here) = keeps.here ∙ ap (λ (o : Option Told). option_map (λ (t : Told). t.here) o) rests.rests.is in
    let same : u.here ≡ rests.there.here = cc in
    record {
      there = u;
      same = same ∙ rests.same;
      rests = record { is = refl; only = λ left now. rests.rests.only left (keeps.ends left now) ∙ sym same };
    }

-- Both files are synced.
pub both_synced : (t : Told) (told mid new : Option Told) (synced last : Clock) → told ≡ Some t → Steps (with_call (Sync Zero)) told mid → IfSome told (λ u. IsSynced Zero (file_of Zero u) synced) → Passes Same synced last
    → Steps (with_call (Sync One)) mid new → IfSome mid (λ u. IsSynced One (file_of One u) last)
    → StoreIsLeft new last → ((u : Told) (left : Left) → new ≡ Some u → LeftNow last left → left.out ≡ u.here.out) → RestsHere t.here new last
both_synced t told mid new synced last is first zero passes second one store out =
    let u = with_call (Sync Zero) t in
    let v = with_call (Sync One) u in
    let mid_is : mid ≡ Some u = first ∙ ap (λ (o : Option Told). option_map (with_call (Sync Zero)) o) is in
    let new_is : new ≡ Some v = second ∙ ap (λ (o : Option Told). option_map (with_call (Sync One)) o) mid_is in
    let zero_synced : IsSynced Zero t.here.file0 synced = subst (λ (o : Option Told). IfSome o (λ w. IsSynced Zero (file_of Zero w) synced)) is zero in
    let one_synced : IsSynced One t.here.file1 last = subst (λ (o : Option Told). IfSome o (λ w. IsSynced One (file_of One w) last)) mid_is one in
    record {
      there = v;
      same = refl;
      rests = rests_synced v new last new_is (synced_over Zero t.here.file0 synced last zero_synced passes) one_synced
          (store v new_is) (λ left now. out v left new_is now);
    }

-- ---- faults

pub unless_disk : {T : Type 0} (result : Result T OpenRefused) (P : Type 0) → P → UnlessDisk result P
unless_disk (Ok x) P holds = holds
unless_disk (Err Disk) P holds = tt
unless_disk (Err TooLong) P holds = holds
unless_disk (Err (Damaged file place)) P holds = holds
unless_disk (Err NoMemory) P holds = holds

pub same_faults : {T E : Type 0} (old new : Faults) (x : T) → FailsAs {E = E} disk_call old new (Ok x) → new ≡ old
same_faults old new x cause = cause.others ∙ ap (λ (n : ℕ). with_count disk_call n old) cause.own.same

pub no_faults : {T E : Type 0} (old new : Faults) (x : T) → new ≡ old → FailsAs {E = E} disk_call old new (Ok x)
no_faults {T} {E} old new x same = subst (λ (f : Faults). FailsAs {E = E} disk_call old f (Ok x)) (sym same) (record { own = record { later = omega arith; failed = tt; same = refl }; others = refl })
