-- What a disk call and a print of a board over a system lead to. A disk call is listed and its file opened or read,
-- and then the system is called.
use Rattle.std.proofs.Common.{◌≡◌, ℕ, List, length, Some, refl, sym, ap, subst, ◌∙◌, inr}
use Rattle.std.specs.Prelude.{Option, None, IfSome, IfOk, Result, Ok, Err, OnOk, OnErr, IsErr, true, false}
use Rattle.std.specs.Option.{option_map}
use Rattle.board_core.specs.Cause.{FailsAs, Faults, HasCause, disk_call, with_count}
use Rattle.board_core.specs.Clock.{Clock, IsSynced, Passes}
use Rattle.board_core.specs.Doing.{ActMade, ActSettles, calls, prints, writes}
use Rattle.board_core.specs.Stop.{InFile, Left, Same, file_in, with_file_in}
use Rattle.board_core.specs.Steps.MomentLemmas.{torn_nothing, torn_same}
use Rattle.board_core.specs.Told.{FailsPrint, FailsWrite, MayList, Relates, Steps, Told, Torn, after_print, after_write, file_of, overlay, with_call, with_file}
use Rattle.board_core.specs.declared.board.DiskCall.{DiskCall}
use Rattle.board_core.specs.declared.board.DiskCall.TheVariants.{Sync, WriteAt}
use Rattle.board_core.specs.declared.board.FileNo.{FileNo}
use Rattle.board_core.specs.declared.board.FileNo.TheVariants.{Zero, One}
use Rattle.board_core.specs.declared.source.Failed.{Failed}
use Rattle.host_system.specs.BoardFile.{SeesSame, HasSettledStore}
use Rattle.host_system.specs.FolderPast.{FolderPast, IfTold}
use Rattle.host_system.specs.Steps.Calls.{PrintsPiece, SeesBegun, SeesPrinted, SeesTorn, SeesWritten, WritesFile}
use Rattle.host_system.specs.Steps.FolderPastLemmas.{passes_then, stands}
use Rattle.host_system.specs.View.{clock_over, seen_now, told_over}
use Rattle.ras_host.specs.BoardState.{BoardState}
use Rattle.ras_host.specs.Steps.Listed.{accesses_noted, disk_calls_noted}
use Rattle.ras_host.specs.Steps.Telling.{clock_of, seen_of, told_of, told_with}
use Rattle.ras_host.proofs.ToldLemmas.{on_any_ok, on_ok, same_stops, store_settled}

-- ---- results

not_ok : false ≡ true → ⊥
not_ok e = cc

on_never : {T E : Type 0} (P : Type 0) (r : Result T E) → IsErr r → OnOk r P
on_never P (Ok x) is = absurd (not_ok is)
on_never P (Err e) is = tt

on_any_err : {T E : Type 0} (P : Type 0) (r : Result T E) → P → OnErr r P
on_any_err P (Ok x) holds = tt
on_any_err P (Err e) holds = holds

-- A counted call ends as the call did.
counted_is : {T : Type 0} (answer result : Result T Failed) → IfOk answer (λ value. result ≡ Ok value) → OnErr answer (IsErr result) → answer ≡ result
counted_is (Ok x) result ok err = sym ok
counted_is (Err e) (Ok y) ok err = absurd (not_ok err)
counted_is (Err e) (Err f) ok err = refl

fails_as : {T U E F : Type 0} (r : Result T E) (e : F) → IsErr r → (old new : Faults) → FailsAs {T = U} disk_call old new (Err e) → FailsAs disk_call old new r
fails_as (Ok x) e is old new cause = absurd (not_ok is)
fails_as (Err f) e is old new cause = record { own = record { later = cause.own.later; failed = cause.own.failed; same = tt }; others = cause.others }

same_then : (R : Left → Left → Type 0) → ((l : Left) → R l l) → (a b c : Clock) → Passes Same a b → Passes R b c → Passes R a c
same_then R still a b c first second = passes_then Same R R a b c (λ x y is. subst (λ (l : Left). R x l) (sym is) (still x)) (λ x y z is by. subst (λ (l : Left). R l z) is by) first second

-- ---- a call is listed, and its file is ready

pub record Begun (call : DiskCall) (old new : BoardState) : Type 0 where
  pub told : Steps (with_call call) (told_of old) (told_of new)
  pub stops : Passes Same (clock_of old) (clock_of new)
  pub same : new.faults ≡ old.faults

pub begun : {T E : Type 0} (call : DiskCall) (x : T) (old new now : BoardState) → now ≡ new → Steps (with_call call) (told_of old) (told_of new) → Passes Same (clock_of old) (clock_of new)
    → FailsAs {T = T} {E = E} disk_call old.faults new.faults (Ok x) → Begun call old now
begun call x old new now is told stops cause =
    subst (Begun call old) (sym is)
    (record { told = told; stops = stops; same = cause.others ∙ ap (λ (n : ℕ). with_count disk_call n old.faults) cause.own.same })

relates_called : (call : DiskCall) (old new : Option Told) → Steps (with_call call) old new → Relates (MayList call) old new
relates_called call None new is = is
relates_called call (Some t) new is = subst (λ (o : Option Told). Relates (MayList call) (Some t) o) (sym is) (inr refl)

-- The board after a call of the system, with this number of failed disk calls.
abbrev pub asked_to : Option FolderPast → ℕ → ℕ → BoardState → BoardState
asked_to past disk count b = record b { past = past; faults = record b.faults { disk = disk }; count = count }

caused : {T E : Type 0} (disk : ℕ) (old now : Faults) (r : Result T E) → now ≡ old → HasCause now.disk disk r → FailsAs disk_call old (record now { disk = disk }) r
caused disk old now r same counts = rw same (record { own = subst (λ (f : Faults). HasCause f.disk disk r) same counts; others = refl })

-- The call's file isn't ready.
pub made_unready : {T U E F : Type 0} (call : DiskCall) (r : Result T E) (e : F) → IsErr r → (old new : BoardState) → Steps (with_call call) (told_of old) (told_of new) → Passes Same (clock_of old) (clock_of new)
    → FailsAs {T = U} disk_call old.faults new.faults (Err e) → ActMade (calls call) r (seen_of old) (seen_of new)
made_unready call r e is old new told stops cause = record {
  told = on_never _ r is;
  failed = on_any_err _ r (relates_called call (told_of old) (told_of new) told);
  stops = stops;
  settles = on_never _ r is;
  cause = fails_as r e is old.faults new.faults cause;
}

-- The system was called, and a board sees the same.
pub made_asked : {T : Type 0} (call : DiskCall) (answer result : Result T Failed) (disk count : ℕ) (a b : BoardState) (past : Option FolderPast) → Begun call a b → past ≡ b.past
    → IfOk answer (λ value. result ≡ Ok value) → OnErr answer (IsErr result) → HasCause b.faults.disk disk answer
    → OnOk answer (ActSettles (calls call) (seen_of a) (seen_of (asked_to past disk count b))) → ActMade (calls call) result (seen_of a) (seen_of (asked_to past disk count b))
made_asked call answer result disk count a b past begun same ok err counts settles =
    let listed : Steps (with_call call) (told_of a) (told_of (asked_to past disk count b)) = ap (λ (o : Option FolderPast). option_map (told_with b) (told_over o)) same ∙ begun.told in
    subst (λ (r : Result _ Failed). ActMade (calls call) r (seen_of a) (seen_of (asked_to past disk count b))) (counted_is answer result ok err) (record {
      told = on_any_ok _ answer listed;
      failed = on_any_err _ answer (relates_called call (told_of a) (told_of (asked_to past disk count b)) listed);
      stops = same_then Same (λ l. refl) (clock_of a) (clock_of b) (clock_over past) begun.stops (same_stops b.past past same);
      settles = settles;
      cause = caused disk a.faults b.faults answer begun.same counts;
    })

-- ---- a sync

same_told : (b : BoardState) (before after : Option FolderPast) → IfTold SeesSame before after → option_map (told_with b) (told_over after) ≡ option_map (told_with b) (told_over before)
same_told b None after sees = ap (λ (o : Option FolderPast). option_map (told_with b) (told_over o)) sees
same_told b (Some p) None sees = absurd sees
same_told b (Some p) (Some q) sees = ap (λ (l : Left). Some (told_with b l)) sees

-- A property of a file's bytes held before the call was listed.
of_file : (file : FileNo) (call : DiskCall) (P : List ℕ → Type 0) (b : BoardState) (before : Option FolderPast) (old : Option Told) → Steps (with_call call) old (option_map (told_with b) (told_over before))
    → IfSome before (λ p. P (file_in file (seen_now p))) → IfSome old (λ t. P (file_of file t))
of_file file call P b before None steps holds = tt
of_file file call P b None (Some t) steps holds = absurd (none_some (with_call call t) steps)
  where
    none_some : (t : Told) → None ≡ Some t → ⊥
    none_some t e = cc
of_file file call P b (Some p) (Some t) steps holds = subst (λ (l : Left). P (file_in file l)) (ap (λ (s : Told). s.here) (some_is (told_with b (seen_now p)) (with_call call t) steps)) holds
  where
    some_is : (s t : Told) → Some s ≡ Some t → s ≡ t
    some_is s t e = cc

-- A property of a file's bytes holds once the call is listed.
pub begun_file : (file : FileNo) (call : DiskCall) (P : List ℕ → Type 0) (b : BoardState) (before : Option FolderPast) (old : Option Told) → Steps (with_call call) old (option_map (told_with b) (told_over before))
    → IfSome old (λ t. P (file_of file t)) → IfSome before (λ p. P (file_in file (seen_now p)))
begun_file file call P b None old steps holds = tt
begun_file file call P b (Some p) None steps holds = absurd (some_none (told_with b (seen_now p)) steps)
  where
    some_none : (t : Told) → Some t ≡ None → ⊥
    some_none t e = cc
begun_file file call P b (Some p) (Some t) steps holds = subst (λ (l : Left). P (file_in file l)) (sym (ap (λ (s : Told). s.here) (some_is (told_with b (seen_now p)) (with_call call t) steps))) holds
  where
    some_is : (s t : Told) → Some s ≡ Some t → s ≡ t
    some_is s t e = cc

pub made_synced : {E : Type 0} (file : FileNo) (answer : Result (Unit {0}) E) (result : Result (Unit {0}) Failed) (disk count : ℕ) (a b : BoardState) (past : Option FolderPast) → Begun (Sync file) a b → IfTold SeesSame b.past past
    → Passes Same (clock_over b.past) (clock_over past) → OnOk answer (IfSome b.past (λ p. IsSynced file (file_in file (seen_now p)) (clock_over past))) → OnOk answer (IfSome past HasSettledStore)
    → IfOk answer (λ value. result ≡ Ok value) → OnErr answer (IsErr result) → HasCause b.faults.disk disk result → ActMade (calls (Sync file)) result (seen_of a) (seen_of (asked_to past disk count b))
made_synced file answer result disk count a b past begun sees stops synced settled ok err counts =
    let listed : Steps (with_call (Sync file)) (told_of a) (told_of (asked_to past disk count b)) = same_told b b.past past sees ∙ begun.told in
    record {
      told = on_any_ok _ result listed;
      failed = on_any_err _ result (relates_called (Sync file) (told_of a) (told_of (asked_to past disk count b)) listed);
      stops = same_then Same (λ l. refl) (clock_of a) (clock_of b) (clock_over past) begun.stops stops;
      settles = settles result (on_ok _ _ answer result ok err synced (λ is. is)) (on_ok _ _ answer result ok err settled (λ is. is));
      cause = caused disk a.faults b.faults result begun.same counts;
    }
  where
    settles : (r : Result (Unit {0}) Failed) → OnOk r (IfSome b.past (λ p. IsSynced file (file_in file (seen_now p)) (clock_over past))) → OnOk r (IfSome past HasSettledStore)
        → OnOk r (ActSettles (calls (Sync file)) (seen_of a) (seen_of (asked_to past disk count b)))
    settles (Ok x) synced settled = (
      of_file file (Sync file) (λ bytes. IsSynced file bytes (clock_over past)) b b.past (told_of a) begun.told synced,
      store_settled past b.kept (disk_calls_noted b.disk_calls) (accesses_noted b.accesses) settled,
    )
    settles (Err e) synced settled = tt

-- ---- a write

abbrev TearsFile : FileNo → ℕ → ℕ → Left → Left → Type 0
TearsFile file place count = InFile file (Torn place count)

then_called : (call : DiskCall) (f g : Told → Told) → ((t : Told) → f (with_call call t) ≡ g t) → (a b c : Option Told) → Steps (with_call call) a b → Steps f b c → Steps g a c
then_called call f g same None b c first second = second ∙ ap (option_map f) first
then_called call f g same (Some t) b c first second = second ∙ (ap (option_map f) first ∙ ap Some (same t))

-- the model with these bytes written, and the write not listed
abbrev overlaid : FileNo → ℕ → List ℕ → Told → Told
overlaid file place bytes t = with_file file (overlay place bytes (file_of file t)) t

same_file : (file : FileNo) (t : Told) → with_file file (file_of file t) t ≡ t
same_file Zero t = refl
same_file One t = refl

-- A write failed and isn't listed.
record FailsToWrite (file : FileNo) (place count : ℕ) (old new : Told) : Type 0 where
  bytes : List ℕ
  torn : Torn place count (file_of file old) bytes
  is : new ≡ with_file file bytes old

nothing_torn : (file : FileNo) (place count : ℕ) (t : Told) → FailsToWrite file place count t t
nothing_torn Zero place count t = record { bytes = t.here.file0; torn = torn_same place count t.here.file0; is = refl }
nothing_torn One place count t = record { bytes = t.here.file1; torn = torn_same place count t.here.file1; is = refl }

then_torn : (file : FileNo) (place count : ℕ) (a b c : Option Told) → Steps (with_call (WriteAt file place count)) a b → Relates (FailsToWrite file place count) b c → Relates (FailsWrite file place count) a c
then_torn file place count None b c first second = subst (λ (o : Option Told). Relates (FailsToWrite file place count) o c) first second
then_torn file place count (Some t) b c first second = by c (subst (λ (o : Option Told). Relates (FailsToWrite file place count) o c) first second)
  where
    by : (c : Option Told) → Relates (FailsToWrite file place count) (Some (with_call (WriteAt file place count) t)) c → Relates (FailsWrite file place count) (Some t) c
    by None fails = fails
    by (Some new) fails = (fails.bytes, fails.torn, inr fails.is)

relates_nothing : (file : FileNo) (place count : ℕ) (o : Option Told) → Relates (FailsToWrite file place count) o o
relates_nothing file place count None = refl
relates_nothing file place count (Some t) = nothing_torn file place count t

-- The write's file isn't ready, or isn't a run's.
pub write_unready : {T U E F : Type 0} (file : FileNo) (place : ℕ) (bytes : List ℕ) (r : Result T E) (e : F) → IsErr r → (old new : BoardState)
    → Steps (with_call (WriteAt file place (length bytes))) (told_of old) (told_of new) → Passes Same (clock_of old) (clock_of new) → FailsAs {T = U} disk_call old.faults new.faults (Err e)
    → ActMade (writes file place bytes) r (seen_of old) (seen_of new)
write_unready file place bytes r e is old new told stops cause = record {
  told = on_never _ r is;
  failed = on_any_err _ r (then_torn file place (length bytes) (told_of old) (told_of new) (told_of new) told (relates_nothing file place (length bytes) (told_of new)));
  stops = same_then (TearsFile file place (length bytes)) (torn_nothing file place (length bytes)) (clock_of old) (clock_of new) (clock_of new) stops
      (stands (TearsFile file place (length bytes)) (clock_of new) (torn_nothing file place (length bytes)));
  settles = on_never _ r is;
  cause = fails_as r e is old.faults new.faults cause;
}

-- A report's file isn't written.
pub made_refused : {E : Type 0} (file : FileNo) (place : ℕ) (bytes : List ℕ) (result : Result (Unit {0}) Failed) (failed : E) (disk count : ℕ) (a b : BoardState) → Begun (WriteAt file place (length bytes)) a b → IsErr result
    → HasCause {T = Unit {0}} b.faults.disk disk (Err failed) → ActMade (writes file place bytes) result (seen_of a) (seen_of (asked_to b.past disk count b))
made_refused file place bytes result failed disk count a b begun is counts = record {
  told = on_never _ result is;
  failed = on_any_err _ result (then_torn file place (length bytes) (told_of a) (told_of b) (told_of b) begun.told (relates_nothing file place (length bytes) (told_of b)));
  stops = same_then (TearsFile file place (length bytes)) (torn_nothing file place (length bytes)) (clock_of a) (clock_of b) (clock_of b) begun.stops
      (stands (TearsFile file place (length bytes)) (clock_of b) (torn_nothing file place (length bytes)));
  settles = on_never _ result is;
  cause = fails_as {U = Unit {0}} result failed is a.faults (record b.faults { disk = disk }) (caused disk a.faults b.faults (Err failed) begun.same counts);
}

told_file : (file : FileNo) (bytes : List ℕ) (b : BoardState) (old new : Left) → new ≡ with_file_in file bytes old → told_with b new ≡ with_file file bytes (told_with b old)
told_file Zero bytes b old new is = ap (told_with b) is
told_file One bytes b old new is = ap (told_with b) is

written_told : (file : FileNo) (place : ℕ) (bytes : List ℕ) (b : BoardState) (before after : Option FolderPast) → IfTold (SeesWritten file place bytes) before after
    → Steps (overlaid file place bytes) (option_map (told_with b) (told_over before)) (option_map (told_with b) (told_over after))
written_told file place bytes b None after sees = ap (λ (o : Option FolderPast). option_map (told_with b) (told_over o)) sees
written_told file place bytes b (Some p) None sees = absurd sees
written_told file place bytes b (Some p) (Some q) sees = ap Some (told_file file (overlay place bytes (file_in file (seen_now p))) b (seen_now p) (seen_now q) sees)

torn_told : (file : FileNo) (place count : ℕ) (b : BoardState) (before after : Option FolderPast) → IfTold (SeesTorn file place count) before after
    → Relates (FailsToWrite file place count) (option_map (told_with b) (told_over before)) (option_map (told_with b) (told_over after))
torn_told file place count b None after sees = ap (λ (o : Option FolderPast). option_map (told_with b) (told_over o)) sees
torn_told file place count b (Some p) None sees = absurd sees
torn_told file place count b (Some p) (Some q) sees = record { bytes = sees.bytes; torn = sees.step; is = told_file file sees.bytes b (seen_now p) (seen_now q) sees.rest }

-- The system was called.
pub made_wrote : (file : FileNo) (place : ℕ) (bytes : List ℕ) (answer result : Result (Unit {0}) Failed) (disk count : ℕ) (a b : BoardState) (past : Option FolderPast) → Begun (WriteAt file place (length bytes)) a b
    → WritesFile file place bytes answer b.past past → IfOk answer (λ value. result ≡ Ok value) → OnErr answer (IsErr result) → HasCause b.faults.disk disk answer
    → ActMade (writes file place bytes) result (seen_of a) (seen_of (asked_to past disk count b))
made_wrote file place bytes answer result disk count a b past begun wrote ok err counts =
    subst (λ (r : Result (Unit {0}) Failed). ActMade (writes file place bytes) r (seen_of a) (seen_of (asked_to past disk count b))) (counted_is answer result ok err) (record {
      told = done answer wrote.told;
      failed = tore answer wrote.failed;
      stops = same_then (TearsFile file place (length bytes)) (torn_nothing file place (length bytes)) (clock_of a) (clock_of b) (clock_over past) begun.stops wrote.stops;
      settles = on_any_ok _ answer tt;
      cause = caused disk a.faults b.faults answer begun.same counts;
    })
  where
    done : (r : Result (Unit {0}) Failed) → OnOk r (IfTold (SeesWritten file place bytes) b.past past) → OnOk r (Steps (after_write file place bytes) (told_of a) (told_of (asked_to past disk count b)))
    done (Ok x) sees =
        then_called (WriteAt file place (length bytes)) (overlaid file place bytes) (after_write file place bytes) (λ t. refl) (told_of a) (told_of b) (told_of (asked_to past disk count b)) begun.told
        (written_told file place bytes b b.past past sees)
    done (Err e) sees = tt

    tore : (r : Result (Unit {0}) Failed) → OnErr r (IfTold (SeesTorn file place (length bytes)) b.past past) → OnErr r (Relates (FailsWrite file place (length bytes)) (told_of a) (told_of (asked_to past disk count b)))
    tore (Ok x) sees = tt
    tore (Err e) sees =
        then_torn file place (length bytes) (told_of a) (told_of b) (told_of (asked_to past disk count b)) begun.told
        (torn_told file place (length bytes) b b.past past sees)

-- ---- a print

printed_told : (piece : List ℕ) (b : BoardState) (before after : Option FolderPast) → IfTold (SeesPrinted piece) before after
    → Steps (after_print piece) (option_map (told_with b) (told_over before)) (option_map (told_with b) (told_over after))
printed_told piece b None after sees = ap (λ (o : Option FolderPast). option_map (told_with b) (told_over o)) sees
printed_told piece b (Some p) None sees = absurd sees
printed_told piece b (Some p) (Some q) sees = ap (λ (l : Left). Some (told_with b l)) sees

begun_told : (piece : List ℕ) (b : BoardState) (before after : Option FolderPast) → IfTold (SeesBegun piece) before after
    → Relates (FailsPrint piece) (option_map (told_with b) (told_over before)) (option_map (told_with b) (told_over after))
begun_told piece b None after sees = ap (λ (o : Option FolderPast). option_map (told_with b) (told_over o)) sees
begun_told piece b (Some p) None sees = absurd sees
begun_told piece b (Some p) (Some q) sees =
    (sees.step.part, sees.step.missing, sees.step.splits, ap (told_with b) (sees.rest ∙ ap (λ (t : List ℕ). record (seen_now p) { out = t }) sees.step.is))

pub made_print : (piece : List ℕ) (answer result : Result (Unit {0}) Failed) (printed count : ℕ) (b : BoardState) (past : Option FolderPast) → PrintsPiece piece answer b.past past
    → IfOk answer (λ value. result ≡ Ok value) → OnErr answer (IsErr result) → HasCause b.faults.prints printed answer
    → ActMade (prints piece) result (seen_of b) (seen_of (record b { past = past; faults = record b.faults { prints = printed }; count = count }))
made_print piece answer result printed count b past print ok err counts =
    subst (λ (r : Result (Unit {0}) Failed). ActMade (prints piece) r (seen_of b) (seen_of (record b { past = past; faults = record b.faults { prints = printed }; count = count }))) (counted_is answer result ok err)
    (record {
      told = done answer print.told;
      failed = broke answer print.failed;
      stops = print.stops;
      settles = print.printed;
      cause = record { own = counts; others = refl };
    })
  where
    done : (r : Result (Unit {0}) Failed) → OnOk r (IfTold (SeesPrinted piece) b.past past) → OnOk r (Steps (after_print piece) (told_of b) (option_map (told_with b) (told_over past)))
    done (Ok x) sees = printed_told piece b b.past past sees
    done (Err e) sees = tt

    broke : (r : Result (Unit {0}) Failed) → OnErr r (IfTold (SeesBegun piece) b.past past) → OnErr r (Relates (FailsPrint piece) (told_of b) (option_map (told_with b) (told_over past)))
    broke (Ok x) sees = tt
    broke (Err e) sees = begun_told piece b b.past past sees
