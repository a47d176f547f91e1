-- The model of a board over a system after a call, by the model before. The board is given here by the system's model,
-- the kept device, and the lists of calls.
use Rattle.std.proofs.Common.{◌≡◌, ℕ, List, [], ◌∷◌, ◌++◌, Some, refl, sym, ap, subst, ◌∙◌, inl, inr}
use Rattle.std.specs.Prelude.{Option, None, IfSome, IsSomeAnd, IfOk, Result, Ok, Err, OnOk, OnErr, IsErr}
use Rattle.std.specs.Option.{option_map}
use Rattle.std.specs.Result.{result_unwrap_or}
use Rattle.board_core.specs.Cause.{FailsAs, device_call, put_failure, with_count}
use Rattle.board_core.specs.Clock.{Passes, StoreIsLeft}
use Rattle.board_core.specs.Doing.{PutMade, Seen as SeenBoard}
use Rattle.board_core.specs.Stop.{Left, InStore, Same, file_in, with_file_in}
use Rattle.board_core.specs.Told.{Told, Relates, Steps, StoreBy, MayListAccess, MayAct, FailsAccess, after_put, device_of, on_device, overlay, register_in, with_access}
use Rattle.board_core.specs.declared.board.Access.{Access}
use Rattle.board_core.specs.declared.board.Access.TheVariants.{Read}
use Rattle.board_core.specs.declared.board.Reg.{Reg}
use Rattle.board_core.specs.declared.board.BoardPut.{BoardPut}
use Rattle.board_core.specs.declared.board.BoardPut.TheVariants.{Refused, Failed}
use Rattle.board_core.specs.declared.board.DiskCall.{DiskCall}
use Rattle.board_core.specs.declared.board.FileNo.{FileNo}
use Rattle.board_core.specs.declared.board.FileNo.TheVariants.{Zero, One}
use Rattle.erst_store.specs.Device.{Device, Volatile, device_with, volatile_of}
use Rattle.erst_store.specs.DeviceLaws.{IsDevice}
use Rattle.erst_store.specs.Store.{Stored}
use Rattle.host_system.specs.BoardFile.{KeepsFile, KeepsOthers, KeepsStore, HasSettledStore}
use Rattle.host_system.specs.Steps.Calls.{SeesBegun, SeesPrinted, WritesFile}
use Rattle.host_system.specs.FolderPast.{FolderPast, IfTold, bytes_named}
use Rattle.host_system.specs.declared.system.FileName.TheVariants.{Store}
use Rattle.host_system.specs.StoreFile.{SparesNoStore}
use Rattle.host_system.specs.View.{HasWholeStore, clock_over, seen_now, told_over}
use Rattle.host_system.specs.Steps.FolderPastLemmas.{stands}
use Rattle.host_system.specs.Steps.LawLemmas.{store_left}
use Rattle.ras_host.specs.JournalFiles.{AreHeld, IsOneSound, IsRead, Moves}
use Rattle.ras_host.specs.Steps.KeptDevice.{BecomesBy, Does, IfRefused, IsFiled, IsHere, IsInStep, IsOver, IsSaved, Keeps, MayTurn, Puts, Settles, Stays, Turned, Turns, after_answer, device_in, volatile_in}
use Rattle.ras_host.specs.Steps.Settled.{IsSettledBy}
use Rattle.ras_host.specs.declared.journal.JournalFiles.{JournalFiles}
use Rattle.ras_host.specs.declared.journal.JournalFiles.TheVariants.{Shut, Open, Unread, Seen}
use Rattle.ras_host.specs.declared.kept.Kept.{Kept}
use Rattle.ras_host.specs.declared.kept.Kept.TheVariants.{Unread as Unused, Here, Lost, Unreadable}
use Rattle.ras_host.proofs.JournalLemmas.{readable_kept}
use Rattle.ras_host.proofs.KeptLemmas.{settles_kept, turns_kept}

abbrev pub telling : Volatile → List DiskCall → List Access → Left → Told
telling v calls accesses here = record { here = here; volatile = v; disk_calls = calls; accesses = accesses }

abbrev pub telling_of : Kept → List DiskCall → List Access → Left → Told
telling_of kept calls accesses here = telling (volatile_in kept here.store) calls accesses here

-- the board's model
abbrev pub tells : Option FolderPast → Kept → List DiskCall → List Access → Option Told
tells past kept calls accesses = option_map (telling_of kept calls accesses) (told_over past)

-- ---- an access is listed

pub listed_access : (access : Access) (kept : Kept) (calls : List DiskCall) (accesses more : List Access) (o : Option Left) → more ≡ accesses ++ access ∷ [] → option_map (telling_of kept calls more) o ≡ option_map (with_access access) (option_map (telling_of kept calls accesses) o)
listed_access access kept calls accesses more None is = refl
listed_access access kept calls accesses more (Some here) is = ap (λ (m : List Access). Some (telling_of kept calls m here)) is

-- ---- the device takes a step

turned : (step : Device → Device) (old new : Kept) (p q : FolderPast) (calls : List DiskCall) (accesses : List Access) → Turns step old new p q → telling_of new calls accesses (seen_now q) ≡ on_device step (telling_of old calls accesses (seen_now p))
turned step old new p q calls accesses is =
    ap (λ (d : Device). telling (volatile_of d) calls accesses (seen_now q)) is.device
    ∙ ap (λ (here : Left). telling (volatile_of (step (device_in old p))) calls accesses here) is.sees

pub turned_told : (step : Device → Device) (before after : Option FolderPast) (old new : Kept) (calls : List DiskCall) (accesses : List Access)
    → IfTold (Turns step old new) before after → Steps (on_device step) (tells before old calls accesses) (tells after new calls accesses)
turned_told step None after old new calls accesses turns = ap (λ (o : Option FolderPast). option_map (telling_of new calls accesses) (told_over o)) turns
turned_told step (Some p) None old new calls accesses turns = absurd turns
turned_told step (Some p) (Some q) old new calls accesses turns = ap Some (turned step old new p q calls accesses turns)

then_listed : (f : Told → Told) (access : Access) (o : Option Told) → option_map (with_access access) (option_map f o) ≡ option_map (λ t. with_access access (f t)) o
then_listed f access None = refl
then_listed f access (Some t) = refl

pub turned_listed : (step : Device → Device) (access : Access) (before after : Option FolderPast) (old new : Kept) (calls : List DiskCall) (accesses more : List Access)
    → IfTold (Turns step old new) before after → more ≡ accesses ++ access ∷ []
    → Steps (λ t. with_access access (on_device step t)) (tells before old calls accesses) (tells after new calls more)
turned_listed step access before after old new calls accesses more turns listed =
    listed_access access new calls accesses more (told_over after) listed
    ∙ (ap (option_map (with_access access)) (turned_told step before after old new calls accesses turns)
    ∙ then_listed (on_device step) access (tells before old calls accesses))

-- The device is unchanged.
pub kept_listed : (access : Access) (before after : Option FolderPast) (old new : Kept) (calls : List DiskCall) (accesses more : List Access)
    → after ≡ before → IfSome before (Keeps old new) → more ≡ accesses ++ access ∷ []
    → Steps (with_access access) (tells before old calls accesses) (tells after new calls more)
kept_listed access before after old new calls accesses more same keeps listed =
    turned_listed (λ d. d) access before after old new calls accesses more (turns_kept old new before after same keeps) listed

unmoved : (o : Option Told) → option_map (on_device (λ d. d)) o ≡ o
unmoved None = refl
unmoved (Some t) = refl

pub kept_told : (before after : Option FolderPast) (old new : Kept) (calls : List DiskCall) (accesses : List Access) → Stays old new before after → tells after new calls accesses ≡ tells before old calls accesses
kept_told before after old new calls accesses stays =
    turned_told (λ d. d) before after old new calls accesses (turns_kept old new before after stays.told stays.keeps) ∙ unmoved (tells before old calls accesses)

-- ---- what is told of a call that failed

pub relates_listed : (access : Access) (old new : Option Told) → Steps (with_access access) old new → Relates (MayListAccess access) old new
relates_listed access None new is = is
relates_listed access (Some t) new is = subst (λ (o : Option Told). Relates (MayListAccess access) (Some t) o) (sym is) (inr refl)

relates_unacted : (access : Access) (step : Device → Device) (t : Told) (new : Option Told) → Steps (with_access access) (Some t) new → Relates (FailsAccess access step) (Some t) new
relates_unacted access step t new is = subst (λ (o : Option Told). Relates (FailsAccess access step) (Some t) o) (sym is) (record { told = t; acted = inl refl; listed = inr refl })

relates_acted : (access : Access) (step : Device → Device) (t : Told) (new : Option Told) → Steps (λ t. with_access access (on_device step t)) (Some t) new → Relates (FailsAccess access step) (Some t) new
relates_acted access step t new is = subst (λ (o : Option Told). Relates (FailsAccess access step) (Some t) o) (sym is) (record { told = on_device step t; acted = inr refl; listed = inr refl })

pub may_turn_listed : (step : Device → Device) (access : Access) (before after : Option FolderPast) (old new : Kept) (calls : List DiskCall) (accesses more : List Access)
    → IfTold (MayTurn step old new) before after → more ≡ accesses ++ access ∷ []
    → Relates (FailsAccess access step) (tells before old calls accesses) (tells after new calls more)
may_turn_listed step access None after old new calls accesses more turns listed = ap (λ (o : Option FolderPast). option_map (telling_of new calls more) (told_over o)) turns
may_turn_listed step access (Some p) None old new calls accesses more turns listed = absurd turns
may_turn_listed step access (Some p) (Some q) old new calls accesses more (inl turns) listed =
    relates_unacted access step (telling_of old calls accesses (seen_now p)) (tells (Some q) new calls more) (turned_listed (λ d. d) access (Some p) (Some q) old new calls accesses more turns listed)
may_turn_listed step access (Some p) (Some q) old new calls accesses more (inr turns) listed =
    relates_acted access step (telling_of old calls accesses (seen_now p)) (tells (Some q) new calls more) (turned_listed step access (Some p) (Some q) old new calls accesses more turns listed)

pub may_turn_told : (step : Device → Device) (before after : Option FolderPast) (old new : Kept) (calls : List DiskCall) (accesses : List Access)
    → IfTold (MayTurn step old new) before after → Relates (MayAct step) (tells before old calls accesses) (tells after new calls accesses)
may_turn_told step None after old new calls accesses turns = ap (λ (o : Option FolderPast). option_map (telling_of new calls accesses) (told_over o)) turns
may_turn_told step (Some p) None old new calls accesses turns = absurd turns
may_turn_told step (Some p) (Some q) old new calls accesses (inl turns) = inl (turned (λ d. d) old new p q calls accesses turns)
may_turn_told step (Some p) (Some q) old new calls accesses (inr turns) = inr (turned step old new p q calls accesses turns)

-- ---- what holds of the device that is told

pub of_device : (P : Device → Type 0) (past : Option FolderPast) (kept : Kept) (calls : List DiskCall) (accesses : List Access) → IfSome past (λ p. P (device_in kept p)) → IfSome (tells past kept calls accesses) (λ t. P (device_of t))
of_device P None kept calls accesses holds = tt
of_device P (Some p) kept calls accesses holds = holds

-- ---- what stops leave

pub same_stops : (before after : Option FolderPast) → after ≡ before → Passes Same (clock_over before) (clock_over after)
same_stops before after same = subst (λ (o : Option FolderPast). Passes Same (clock_over before) (clock_over o)) (sym same) (stands Same (clock_over before) (λ left. refl))

pub store_stops : (step : Device → Device) (before after : Option FolderPast) (old : Kept) (calls : List DiskCall) (accesses : List Access)
    → Passes (InStore (BecomesBy step old before)) (clock_over before) (clock_over after)
    → Passes (InStore (StoreBy step (tells before old calls accesses))) (clock_over before) (clock_over after)
store_stops step None after old calls accesses passes = passes
store_stops step (Some p) after old calls accesses passes = passes

-- ---- the store that a stop leaves

here_is : (kept : Kept) (calls : List DiskCall) (accesses : List Access) (p : FolderPast) (t : Told) → tells (Some p) kept calls accesses ≡ Some t → seen_now p ≡ t.here
here_is kept calls accesses p t is = ap (λ (s : Told). s.here) (some_told (telling_of kept calls accesses (seen_now p)) t is)
  where
    some_told : (s t : Told) → Some s ≡ Some t → s ≡ t
    some_told s t e = cc

none_told : (t : Told) → None ≡ Some t → ⊥
none_told t e = cc

pub store_settled : (past : Option FolderPast) (kept : Kept) (calls : List DiskCall) (accesses : List Access) → IfSome past HasSettledStore → StoreIsLeft (tells past kept calls accesses) (clock_over past)
store_settled None kept calls accesses settled t is = absurd (none_told t is)
store_settled (Some p) kept calls accesses settled t is = λ left now. store_left p left settled now ∙ ap (λ (l : Left). l.store) (here_is kept calls accesses p t is)

-- A crash leaves the same store, if the folder is the same.
store_same : (p : FolderPast) (old new : Kept) (calls : List DiskCall) (accesses more : List Access) → StoreIsLeft (tells (Some p) old calls accesses) (clock_over (Some p)) → StoreIsLeft (tells (Some p) new calls more) (clock_over (Some p))
store_same p old new calls accesses more was t is = λ left now.
    was (telling_of old calls accesses (seen_now p)) refl left now ∙ ap (λ (l : Left). l.store) (here_is new calls more p t is)

pub store_stored : (before after : Option FolderPast) (old new : Kept) (calls : List DiskCall) (accesses more : List Access) → IfTold (Settles old new) before after → IsSaved new
    → StoreIsLeft (tells before old calls accesses) (clock_over before) → StoreIsLeft (tells after new calls more) (clock_over after)
store_stored None after old new calls accesses more settles is was =
    subst (λ (o : Option FolderPast). StoreIsLeft (tells o new calls more) (clock_over o)) (sym settles) (store_settled None new calls more tt)
store_stored (Some p) None old new calls accesses more settles is was = absurd settles
store_stored (Some p) (Some q) old new calls accesses more settles is was = elim (settles is).1 [
  | inl same ↦ subst (λ (x : FolderPast). StoreIsLeft (tells (Some x) new calls more) (clock_over (Some x))) (sym same) (store_same p old new calls accesses more was)
  | inr settled ↦ store_settled (Some q) new calls more settled
]

here_saved : (kept : Kept) (d : Device) → IsHere kept d → IsSaved kept
here_saved (Here saved) d is = tt
here_saved Unused d is = absurd is
here_saved (Lost before after) d is = absurd is
here_saved Unreadable d is = absurd is

pub does_saved : (step : Device → Device) (old new : Kept) → Does step old new → IsSaved new
does_saved step old new does = here_saved new (step does.before) does.after

pub puts_saved : (id : ℕ) (bytes : List ℕ) (result : Result (Unit {0}) BoardPut) (old new : Kept) → Puts id bytes result old new → IsSaved new
puts_saved id bytes result old new puts = here_saved new (after_answer id bytes result puts.before) puts.after

-- A put that succeeded.
pub put_went : (result : Result (Unit {0}) BoardPut) (P Q : Type 0) → OnOk (put_failure result) P → (P → Q) → OnOk result Q
put_went (Ok done) P Q holds so = so holds
put_went (Err e) P Q holds so = tt

-- ---- the journal's files stay as usable as they were

-- A board sees the same of two folders.
pub record SeesFiles (p q : FolderPast) : Type 0 where
  pub zero : (seen_now q).file0 ≡ (seen_now p).file0
  pub one : (seen_now q).file1 ≡ (seen_now p).file1
  pub keeps : (file : FileNo) → KeepsFile file p q

held : (files : JournalFiles) (p q : FolderPast) → SeesFiles p q → AreHeld files p → AreHeld files q
held Shut p q same is = record { zero = (same.keeps Zero).openable is.zero; one = (same.keeps One).openable is.one }
held (Open sound) p q same is = record { zero = λ well. (same.keeps Zero).usable (is.zero well); one = λ well. (same.keeps One).usable (is.one well) }
held Unread p q same is = record { zero = (same.keeps Zero).openable is.zero; one = (same.keeps One).openable is.one }
held (Seen files sound) p q same is = record {
  read = record {
    zero = subst (λ (l : List ℕ). IsRead files.zero l) (sym same.zero) is.read.zero;
    one = subst (λ (l : List ℕ). IsRead files.one l) (sym same.one) is.read.one;
  };
  readable = record {
    zero = λ well. readable_kept p q Zero (same.keeps Zero) (is.readable.zero well);
    one = λ well. readable_kept p q One (same.keeps One) (is.readable.one well);
  };
}

pub held_seen : (files : JournalFiles) (before after : Option FolderPast) → IfTold SeesFiles before after → IfSome before (AreHeld files) → IfSome after (AreHeld files)
held_seen files None after same is = subst (λ (o : Option FolderPast). IfSome o (AreHeld files)) (sym same) tt
held_seen files (Some p) None same is = tt
held_seen files (Some p) (Some q) same is = held files p q same is

turns_files : (step : Device → Device) (old new : Kept) (p q : FolderPast) → Turns step old new p q → SeesFiles p q
turns_files step old new p q turns = record { zero = ap (λ (l : Left). l.file0) turns.sees; one = ap (λ (l : Left). l.file1) turns.sees; keeps = turns.files }

told_files : (P : FolderPast → FolderPast → Type 0) (before after : Option FolderPast) → IfTold P before after → ((p q : FolderPast) → P p q → SeesFiles p q) → IfTold SeesFiles before after
told_files P None after holds so = holds
told_files P (Some p) None holds so = holds
told_files P (Some p) (Some q) holds so = so p q holds

pub held_turned : {T E : Type 0} (files : JournalFiles) (step : Device → Device) (old new : Kept) (result : Result T E) (before after : Option FolderPast) → Turned step old new result before after → IfSome before (AreHeld files) → IfSome after (AreHeld files)
held_turned files step old new (Ok x) before after turned is =
    held_seen files before after (told_files (Turns step old new) before after turned.ok (turns_files step old new)) is
held_turned files step old new (Err e) before after turned is =
    held_seen files before after (told_files (MayTurn step old new) before after turned.err
    (λ p q may. elim may [ inl turns ↦ turns_files (λ d. d) old new p q turns | inr turns ↦ turns_files step old new p q turns ])) is

pub held_same : (files : JournalFiles) (before after : Option FolderPast) → after ≡ before → IfSome before (AreHeld files) → IfSome after (AreHeld files)
held_same files before after same is = subst (λ (o : Option FolderPast). IfSome o (AreHeld files)) (sym same) is

-- ---- while the device isn't lost the store's file is settled

pub settled_turned : (files : JournalFiles) (old new : Kept) (before after : Option FolderPast) → IfTold (Settles old new) before after → IfSome before (IsSettledBy files old) → IfSome after (IsSettledBy files new)
settled_turned files old new None after settles is = subst (λ (o : Option FolderPast). IfSome o (IsSettledBy files new)) (sym settles) tt
settled_turned files old new (Some p) None settles is = tt
settled_turned files old new (Some p) (Some q) settles is = λ sound saved.
    (let now = settles saved in elim now.1 [
      | inl same ↦ subst HasSettledStore (sym same) (is sound now.0)
      | inr settled ↦ settled
    ])

pub settled_same : (files : JournalFiles) (old new : Kept) (before after : Option FolderPast) → after ≡ before → IfSome before (Keeps old new) → IfSome before (IsSettledBy files old) → IfSome after (IsSettledBy files new)
settled_same files old new before after same keeps is = settled_turned files old new before after (settles_kept old new before after same keeps) is

-- A call on the journal's files.
pub settled_moved : (Sees : FolderPast → FolderPast → Type 0) (Step : Left → Left → Type 0) (f g : JournalFiles) (kept : Kept) (before after : Option FolderPast) → Moves Sees Step f g before after
    → IfSome before (IsInStep kept) → IfSome before (IsSettledBy f kept) → IfSome after (IsSettledBy g kept)
settled_moved Sees Step f g kept None after moves in_step is = subst (λ (o : Option FolderPast). IfSome o (IsSettledBy g kept)) (sym moves.store) tt
settled_moved Sees Step f g kept (Some p) None moves in_step is = tt
settled_moved Sees Step f g kept (Some p) (Some q) moves in_step is = λ sound saved. elim (moves.settles sound) [
  | inl was ↦ moves.store.settled (is was saved)
  | inr settles ↦ settles in_step.usable.whole
]

pub settled_now : (files : JournalFiles) (kept : Kept) (told : Option FolderPast) → IfSome told (IsSettledBy files kept) → IsOneSound files → IsSaved kept → IfSome told HasSettledStore
settled_now files kept None is sound saved = tt
settled_now files kept (Some p) is sound saved = is sound saved

-- The device and the folder still agree, if a board sees the same store.
pub in_step_store : (kept : Kept) (p q : FolderPast) → (seen_now q).store ≡ (seen_now p).store → bytes_named Store q ≡ bytes_named Store p → HasWholeStore q → IsInStep kept p → IsInStep kept q
in_step_store kept p q same file whole is = record {
  filed = subst (IsFiled kept) (sym file) is.filed;
  over = subst (λ (s : List Stored). IsOver kept s) (sym same) is.over;
  device = subst (λ (s : List Stored). IsDevice (device_with s (volatile_in kept s))) (sym same) is.device;
  usable = record { whole = whole; bytes = rw file is.usable.bytes };
}

pub in_step_moved : (Step : Left → Left → Type 0) (Sees : FolderPast → FolderPast → Type 0) (f g : JournalFiles) (kept : Kept) (before after : Option FolderPast) → Moves Sees Step f g before after
    → ((p q : FolderPast) → Sees p q → (seen_now q).store ≡ (seen_now p).store) → IfSome before (IsInStep kept) → IfSome after (IsInStep kept)
in_step_moved Step Sees f g kept None after moves store is = subst (λ (o : Option FolderPast). IfSome o (IsInStep kept)) (sym moves.store) tt
in_step_moved Step Sees f g kept (Some p) None moves store is = tt
in_step_moved Step Sees f g kept (Some p) (Some q) moves store is = in_step_store kept p q (store p q moves.sees) moves.store.same (moves.store.whole is.usable.whole) is

-- ---- the folder as the board found it

pub since_then : (P : FolderPast → FolderPast → Type 0) → ((x y z : FolderPast) → P x y → P y z → P x z) → (found before after : Option FolderPast)
    → IfSome found (λ x. IsSomeAnd before (P x)) → IfTold P before after → IfSome found (λ x. IsSomeAnd after (P x))
since_then P trans None before after was now = tt
since_then P trans (Some x) None after was now = absurd was
since_then P trans (Some x) (Some y) None was now = absurd now
since_then P trans (Some x) (Some y) (Some z) was now = trans x y z was now

-- Bytes that aren't a store are unchanged.
spares_then : (x y z : FolderPast) → SparesNoStore x y → SparesNoStore y z → SparesNoStore x z
spares_then x y z first second bytes is none = second bytes (first bytes is none) none

abbrev pub IsSpared : Option FolderPast → Option FolderPast → Type 0
IsSpared found now = IfSome found (λ x. IsSomeAnd now (SparesNoStore x))

pub spared_then : (found before after : Option FolderPast) → IsSpared found before → IfTold SparesNoStore before after → IsSpared found after
spared_then found before after was now = since_then SparesNoStore spares_then found before after was now

store_spares : (before after : Option FolderPast) → IfTold KeepsStore before after → IfTold SparesNoStore before after
store_spares None after keeps = keeps
store_spares (Some x) None keeps = keeps
store_spares (Some x) (Some y) keeps = λ bytes is none. keeps.same ∙ is

pub spared_moved : (Sees : FolderPast → FolderPast → Type 0) (Step : Left → Left → Type 0) (f g : JournalFiles) (found before after : Option FolderPast) → Moves Sees Step f g before after → IsSpared found before → IsSpared found after
spared_moved Sees Step f g found before after moves was = spared_then found before after was (store_spares before after moves.store)

pub spared_same : (found before after : Option FolderPast) → after ≡ before → IsSpared found before → IsSpared found after
spared_same found before after same was = subst (IsSpared found) (sym same) was

others_spare : (file : FileNo) (before after : Option FolderPast) → IfTold (KeepsOthers file) before after → IfTold SparesNoStore before after
others_spare file None after keeps = keeps
others_spare file (Some x) None keeps = keeps
others_spare file (Some x) (Some y) keeps = λ bytes is none. keeps.same ∙ is

pub spared_wrote : (file : FileNo) (found before after : Option FolderPast) → IfTold (KeepsOthers file) before after → IsSpared found before → IsSpared found after
spared_wrote file found before after keeps was = spared_then found before after was (others_spare file before after keeps)

pub spared_begun : (found now : Option FolderPast) → IfSome found (λ past. now ≡ Some past) → IsSpared found now
spared_begun None now is = tt
spared_begun (Some past) now is = subst (λ (o : Option FolderPast). IsSomeAnd o (SparesNoStore past)) (sym is) (λ bytes there none. there)

-- ---- a print

pub record KeepsAll (p q : FolderPast) : Type 0 where
  pub files : SeesFiles p q
  pub same : (seen_now q).store ≡ (seen_now p).store
  pub store : KeepsStore p q

all_kept : (text : List ℕ) (p q : FolderPast) → seen_now q ≡ record (seen_now p) { out = text } → ((file : FileNo) → KeepsOthers file p q) → KeepsAll p q
all_kept text p q sees keeps = record {
  files = record { zero = ap (λ (l : Left). l.file0) sees; one = ap (λ (l : Left). l.file1) sees; keeps = each };
  same = ap (λ (l : Left). l.store) sees;
  store = record { same = (keeps Zero).same; settled = (keeps Zero).settled; whole = (keeps Zero).whole };
}
  where
    each : (file : FileNo) → KeepsFile file p q
    each Zero = (keeps One).other
    each One = (keeps Zero).other

pub printed_keeps : {T E : Type 0} (piece : List ℕ) (result : Result T E) (before after : Option FolderPast) → OnOk result (IfTold (SeesPrinted piece) before after) → OnErr result (IfTold (SeesBegun piece) before after)
    → ((file : FileNo) → IfTold (KeepsOthers file) before after) → IfTold KeepsAll before after
printed_keeps piece result None after ok err keeps = keeps Zero
printed_keeps piece result (Some p) None ok err keeps = keeps Zero
printed_keeps piece (Ok x) (Some p) (Some q) ok err keeps = all_kept ((seen_now p).out ++ piece) p q ok keeps
printed_keeps piece (Err e) (Some p) (Some q) ok err keeps = all_kept err.text p q err.rest keeps

pub held_printed : (files : JournalFiles) (before after : Option FolderPast) → IfTold KeepsAll before after → IfSome before (AreHeld files) → IfSome after (AreHeld files)
held_printed files before after keeps is = held_seen files before after (told_files KeepsAll before after keeps (λ p q k. k.files)) is

pub in_step_printed : (kept : Kept) (before after : Option FolderPast) → IfTold KeepsAll before after → IfSome before (IsInStep kept) → IfSome after (IsInStep kept)
in_step_printed kept None after keeps is = subst (λ (o : Option FolderPast). IfSome o (IsInStep kept)) (sym keeps) tt
in_step_printed kept (Some p) None keeps is = tt
in_step_printed kept (Some p) (Some q) keeps is = in_step_store kept p q keeps.same keeps.store.same (keeps.store.whole is.usable.whole) is

pub settled_printed : (files : JournalFiles) (kept : Kept) (before after : Option FolderPast) → IfTold KeepsAll before after → IfSome before (IsSettledBy files kept) → IfSome after (IsSettledBy files kept)
settled_printed files kept None after keeps is = subst (λ (o : Option FolderPast). IfSome o (IsSettledBy files kept)) (sym keeps) tt
settled_printed files kept (Some p) None keeps is = tt
settled_printed files kept (Some p) (Some q) keeps is = λ sound saved. keeps.store.settled (is sound saved)

-- ---- a write

same_store : (file : FileNo) (bytes : List ℕ) (old new : Left) → new ≡ with_file_in file bytes old → new.store ≡ old.store
same_store Zero bytes old new is = ap (λ (l : Left). l.store) is
same_store One bytes old new is = ap (λ (l : Left). l.store) is

wrote_store : {T E : Type 0} (file : FileNo) (place : ℕ) (bytes : List ℕ) (result : Result T E) (p q : FolderPast) → WritesFile file place bytes result (Some p) (Some q) → (seen_now q).store ≡ (seen_now p).store
wrote_store file place bytes (Ok x) p q w = same_store file (overlay place bytes (file_in file (seen_now p))) (seen_now p) (seen_now q) w.told
wrote_store file place bytes (Err e) p q w = same_store file w.failed.bytes (seen_now p) (seen_now q) w.failed.rest

pub in_step_wrote : {T E : Type 0} (file : FileNo) (place : ℕ) (bytes : List ℕ) (result : Result T E) (kept : Kept) (before after : Option FolderPast) → WritesFile file place bytes result before after
    → IfSome before (IsInStep kept) → IfSome after (IsInStep kept)
in_step_wrote file place bytes result kept None after w is = subst (λ (o : Option FolderPast). IfSome o (IsInStep kept)) (sym w.keeps) tt
in_step_wrote file place bytes result kept (Some p) None w is = tt
in_step_wrote file place bytes result kept (Some p) (Some q) w is = in_step_store kept p q (wrote_store file place bytes result p q w) w.keeps.same (w.keeps.whole is.usable.whole) is

pub settled_wrote : (file : FileNo) (files : JournalFiles) (kept : Kept) (before after : Option FolderPast) → IfTold (KeepsOthers file) before after → IfSome before (IsSettledBy files kept) → IfSome after (IsSettledBy files kept)
settled_wrote file files kept None after keeps is = subst (λ (o : Option FolderPast). IfSome o (IsSettledBy files kept)) (sym keeps) tt
settled_wrote file files kept (Some p) None keeps is = tt
settled_wrote file files kept (Some p) (Some q) keeps is = λ sound saved. keeps.settled (is sound saved)

-- ---- a call however it ended

pub on_any_ok : {T E : Type 0} (P : Type 0) (result : Result T E) → P → OnOk result P
on_any_ok P (Ok x) holds = holds
on_any_ok P (Err e) holds = tt

pub on_ok : {T E F : Type 0} (P Q : Type 0) (answer : Result T E) (result : Result T F) → IfOk answer (λ value. result ≡ Ok value) → OnErr answer (IsErr result) → OnOk answer P → (P → Q) → OnOk result Q
on_ok P Q (Ok x) (Ok y) ok err holds so = so holds
on_ok P Q (Ok x) (Err e) ok err holds so = tt
on_ok P Q (Err e) (Ok y) ok err holds so = absurd cc
on_ok P Q (Err e) (Err f) ok err holds so = tt

pub on_err : {T E F : Type 0} (P Q : Type 0) (answer : Result T E) (result : Result T F) → IfOk answer (λ value. result ≡ Ok value) → OnErr answer (IsErr result) → OnErr answer P → (P → Q) → OnErr result Q
on_err P Q (Ok x) (Ok y) ok err holds so = tt
on_err P Q (Ok x) (Err e) ok err holds so = absurd cc
on_err P Q (Err e) (Ok y) ok err holds so = tt
on_err P Q (Err e) (Err f) ok err holds so = so holds

ok_same : {T F : Type 0} (x y : T) → ◌≡◌ {A = Result T F} (Ok y) (Ok x) → x ≡ y
ok_same x y e = cc

pub if_ok : {T E F : Type 0} (P Q : T → Type 0) (answer : Result T E) (result : Result T F) → IfOk answer (λ value. result ≡ Ok value) → OnErr answer (IsErr result) → IfOk answer P → ((x : T) → P x → Q x) → IfOk result Q
if_ok P Q (Ok x) (Ok y) ok err holds so = subst Q (ok_same x y ok) (so x holds)
if_ok P Q (Ok x) (Err e) ok err holds so = tt
if_ok P Q (Err e) (Ok y) ok err holds so = absurd cc
if_ok P Q (Err e) (Err f) ok err holds so = tt

-- ---- a register is read: what is listed is its number, or 0 if that failed

pub read_told : {E F : Type 0} (reg : Reg) (old new : Option Told) (answer : Result ℕ E) (result : Result ℕ F) (value : ℕ) → IfOk answer (λ n. result ≡ Ok n) → OnErr answer (IsErr result) → value ≡ result_unwrap_or answer 0
    → IfOk result (λ n. IfSome old (λ t. n ≡ register_in reg (device_of t))) → Steps (with_access (Read reg value)) old new
    → OnOk result (Steps (λ t. with_access (Read reg (register_in reg (device_of t))) t) old new)
read_told reg None new (Ok x) (Ok y) value ok err is reads steps = steps
read_told reg (Some t) new (Ok x) (Ok y) value ok err is reads steps = subst (λ (n : ℕ). new ≡ Some (with_access (Read reg n) t)) (is ∙ (ok_same x y ok ∙ reads)) steps
read_told reg old new (Ok x) (Err e) value ok err is reads steps = tt
read_told reg old new (Err e) (Ok y) value ok err is reads steps = absurd cc
read_told reg old new (Err e) (Err f) value ok err is reads steps = tt

pub read_err : {E F : Type 0} (reg : Reg) (old new : Option Told) (answer : Result ℕ E) (result : Result ℕ F) (value : ℕ) → IfOk answer (λ n. result ≡ Ok n) → OnErr answer (IsErr result) → value ≡ result_unwrap_or answer 0
    → Steps (with_access (Read reg value)) old new → OnErr result (Relates (MayListAccess (Read reg 0)) old new)
read_err reg old new (Ok x) (Ok y) value ok err is steps = tt
read_err reg old new (Ok x) (Err e) value ok err is steps = absurd cc
read_err reg old new (Err e) (Ok y) value ok err is steps = tt
read_err reg old new (Err e) (Err f) value ok err is steps = relates_listed (Read reg 0) old new (subst (λ (n : ℕ). Steps (with_access (Read reg n)) old new) is steps)

-- ---- a put, however it ended

pub told_refused : (result : Result (Unit {0}) BoardPut) (before after : Option FolderPast) (old new : Kept) (calls : List DiskCall) (accesses : List Access) → IfRefused result (Stays old new before after)
    → IfRefused result (tells after new calls accesses ≡ tells before old calls accesses)
told_refused (Ok done) before after old new calls accesses is = tt
told_refused (Err (Refused cause)) before after old new calls accesses is = kept_told before after old new calls accesses is
told_refused (Err Failed) before after old new calls accesses is = tt

pub stops_refused : (result : Result (Unit {0}) BoardPut) (before after : Option FolderPast) (old new : Kept) → IfRefused result (Stays old new before after) → IfRefused result (Passes Same (clock_over before) (clock_over after))
stops_refused (Ok done) before after old new is = tt
stops_refused (Err (Refused cause)) before after old new is = same_stops before after is.told
stops_refused (Err Failed) before after old new is = tt

pub put_made : (id : ℕ) (bytes : List ℕ) (result : Result (Unit {0}) BoardPut) (old new : SeenBoard) → OnOk result (Steps (on_device (after_put id bytes)) old.told new.told)
    → OnErr result (Relates (MayAct (after_put id bytes)) old.told new.told) → IfRefused result (new.told ≡ old.told)
    → Passes (InStore (StoreBy (after_put id bytes) old.told)) old.clock new.clock → IfRefused result (Passes Same old.clock new.clock)
    → OnOk result (StoreIsLeft old.told old.clock → StoreIsLeft new.told new.clock) → FailsAs device_call old.faults new.faults (put_failure result)
    → PutMade id bytes result old new
put_made id bytes (Ok done) old new told failed same stops still settles cause = record { told = told; failed = tt; stops = stops; settles = settles; cause = cause }
put_made id bytes (Err (Refused why)) old new told failed same stops still settles cause =
    record { told = same; stops = still; faults = cause.others ∙ ap (λ (n : ℕ). with_count device_call n old.faults) cause.own.same }
put_made id bytes (Err Failed) old new told failed same stops still settles cause = record { told = tt; failed = failed; stops = stops; settles = tt; cause = cause }

-- The kept device is a device.
pub device_kept : (kept : Kept) (told : Option FolderPast) → IfSome told (IsInStep kept) → IfSome told (λ p. IsDevice (device_in kept p))
device_kept kept None is = tt
device_kept kept (Some p) is = is.device
