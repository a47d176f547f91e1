-- The kept device and the folder agree, however a call on the device ended.
use Rattle.std.proofs.Common.{◌≡◌, ℕ, List, [], Some, refl, sym, ap, subst, ◌∙◌, inl, inr}
use Rattle.std.specs.Prelude.{◌⊎◌, ◌≢◌, Bool, true, false, ◌&&◌, nat_eq, if◌then◌else◌, Option, None, IfSome, Result, Ok, Err, IsErr, OnOk, OnErr}
use Rattle.std.specs.Bool.{Decides}
use Rattle.std.specs.Cmp.{unsigned_Decides}
use Rattle.std.specs.Cmp.Lexicographic.{pointwise, pointwise_decides, bytes_decides}
use Rattle.std.specs.Result.{is_err, result_or, result_unwrap_or}
use Rattle.std.proofs.lemmas.Result.{on_ok_weaker, on_err_weaker}
use Rattle.board_core.specs.Clock.{Passes}
use Rattle.board_core.specs.Stop.{Left, InStore, Becomes}
use Rattle.board_core.specs.declared.board.FileNo.{FileNo}
use Rattle.board_core.specs.declared.board.FileNo.TheVariants.{Zero}
use Rattle.board_core.specs.Told.{after_put, after_reg_write, unless_refused}
use Rattle.board_core.specs.declared.board.Reg.{Reg}
use Rattle.board_core.specs.declared.board.Reg.TheVariants.{Action}
use Rattle.erst_store.specs.Device.{Device, Volatile, act, device_with, volatile_of, with_put}
use Rattle.erst_store.specs.DeviceLaws.{IsDevice, MayChange}
use Rattle.erst_store.specs.Steps.ActionLemmas.{kept}
use Rattle.erst_store.specs.Store.{Stored, IsStore, refusal_of}
use Rattle.erst_store.specs.declared.store.PutRefused.{PutRefused}
use Rattle.erst_store.specs.StoreFile.{store_bytes}
use Rattle.erst_store.specs.StoreReading.{file_at}
use Rattle.erst_store.specs.declared.reading.StoreRefused.{StoreRefused}
use Rattle.host_system.specs.BoardFile.{KeepsFile, HasSettledStore, with_store}
use Rattle.host_system.specs.FolderPast.{FolderPast, IfTold, bytes_named}
use Rattle.host_system.specs.StoreFile.{HasReplaced, KeepsUsable, Replaces, SparesNoStore}
use Rattle.host_system.specs.View.{HasUsableStore, HasWholeStore, IsFileOf, clock_over, seen_now, store_in}
use Rattle.host_system.specs.Steps.FolderPastLemmas.{stands}
use Rattle.host_system.specs.declared.system.FileName.TheVariants.{Store}
use Rattle.ras_host.specs.Steps.KeptDevice.{Acts, BecomesBy, IsChange, IsInStep, IsSaved, IsUsed, Keeps, KeepsOrLoses, MayTurn, Settles, StaysOrLoses, Turned, Turns, device_in, is_same_record, is_same_store, volatile_in}
use Rattle.ras_host.specs.Steps.Written.{Writes}
use Rattle.ras_host.specs.declared.kept.Change.{Change}
use Rattle.ras_host.specs.Steps.Failures.{put_answer}
use Rattle.ras_host.specs.declared.faults.CallFailed.{CallFailed}
use Rattle.ras_host.specs.declared.faults.PutFailed.TheVariants.{Call}
use Rattle.ras_host.specs.declared.kept.Kept.{Kept}
use Rattle.ras_host.specs.declared.kept.Kept.TheVariants.{Unread, Here, Lost, Unreadable}
use Rattle.ras_host.specs.declared.saved.Saved.{Saved}

pub whole_in : (kept : Kept) (told : Option FolderPast) → IfSome told (IsInStep kept) → IfSome told HasWholeStore
whole_in kept None is = tt
whole_in kept (Some p) is = is.usable.whole

pub on_any_err : {T E : Type 0} (P : Type 0) (result : Result T E) → P → OnErr result P
on_any_err P (Ok x) holds = tt
on_any_err P (Err e) holds = holds

-- ---- a call that leaves the folder as it is

still : (Step : Left → Left → Type 0) → ((left : Left) → Step left left) → (before after : Option FolderPast) → after ≡ before → Passes Step (clock_over before) (clock_over after)
still Step stays before after same = subst (λ (o : Option FolderPast). Passes Step (clock_over before) (clock_over o)) (sym same) (stands Step (clock_over before) stays)

pub store_stays : (step : Device → Device) (old : Kept) (told : Option FolderPast) (left : Left) → InStore (BecomesBy step old told) left left
store_stays step old None left = record { store = left.store; step = tt; rest = refl }
store_stays step old (Some p) left = record { store = left.store; step = inl refl; rest = refl }

pub stops_still : (step : Device → Device) (old : Kept) (before after : Option FolderPast) → after ≡ before → Passes (InStore (BecomesBy step old before)) (clock_over before) (clock_over after)
stops_still step old before after same = still (InStore (BecomesBy step old before)) (store_stays step old before) before after same

same_file : (file : FileNo) (p : FolderPast) → KeepsFile file p p
same_file file p = record { named = λ is. is; held = λ is. is; usable = λ is. is; openable = λ is. is }

pub turns_kept : (old new : Kept) (before after : Option FolderPast) → after ≡ before → IfSome before (Keeps old new) → IfTold (Turns (λ d. d) old new) before after
turns_kept old new None after same keeps = same
turns_kept old new (Some p) after same keeps =
    subst (λ (o : Option FolderPast). IfTold (Turns (λ d. d) old new) (Some p) o) (sym same) (record { device = keeps.device; sees = refl; files = λ file. same_file file p })

-- An action that doesn't change the store.
pub action_stays : {T E : Type 0} (action : ℕ) (d new : Device) (result : Result T E) → ¬ MayChange action d → OnOk result (new ≡ act action d) → OnErr result (new ≡ d) → new.store ≡ d.store
action_stays action d new (Ok x) other ok err = ap (λ (a : Device). a.store) ok ∙ kept action d other
action_stays action d new (Err e) other ok err = ap (λ (a : Device). a.store) err

pub action_acts : {T E F : Type 0} (action : ℕ) (d : Device) (saved : Saved) (new : Kept) (result : Result T E) (f : F) → ¬ MayChange action d → OnOk result (saved.device ≡ act action d) → new ≡ Here saved → IsDevice saved.device
    → OnOk (result_or result (Err f)) (Acts (act action) d new)
action_acts action d saved new (Ok x) f other ok is device = record { saved = saved; kept = is; after = ok; store = kept action d other; device = device }
action_acts action d saved new (Err e) f other ok is device = tt

-- ---- a call that didn't touch the store's file

pub spares_same : (before after : Option FolderPast) → after ≡ before → IfTold SparesNoStore before after
spares_same None after same = same
spares_same (Some p) after same = subst (λ (o : Option FolderPast). IfTold SparesNoStore (Some p) o) (sym same) (λ bytes is none. is)

pub settles_kept : (old new : Kept) (before after : Option FolderPast) → after ≡ before → IfSome before (Keeps old new) → IfTold (Settles old new) before after
settles_kept old new None after same keeps = same
settles_kept old new (Some p) after same keeps =
    subst (λ (o : Option FolderPast). IfTold (Settles old new) (Some p) o) (sym same) (λ is. (keeps.saved is, inl refl))

may_turn : (step : Device → Device) (old new : Kept) (before after : Option FolderPast) → IfTold (Turns (λ d. d) old new) before after → IfTold (MayTurn step old new) before after
may_turn step old new None after turns = turns
may_turn step old new (Some p) None turns = turns
may_turn step old new (Some p) (Some q) turns = inl turns

pub turned_kept : {T E : Type 0} (step : Device → Device) (old new : Kept) (e : E) (before after : Option FolderPast) → after ≡ before → IfSome before (Keeps old new) → IfSome after (IsInStep new)
    → Turned {T = T} step old new (Err e) before after
turned_kept step old new e before after same keeps is = record {
  ok = tt;
  err = may_turn step old new before after (turns_kept old new before after same keeps);
  stops = stops_still step old before after same;
  in_step = is;
  saved = settles_kept old new before after same keeps;
  spares = spares_same before after same;
}

used_saved : (old : Kept) (d : Device) → IsUsed old d → IsSaved old
used_saved Unread d used = tt
used_saved (Here saved) d used = tt
used_saved (Lost before after) d used = absurd used
used_saved Unreadable d used = absurd used

-- The device that was taken out is the device that was kept.
taken_is : (saved : Saved) (old : Kept) (p : FolderPast) → saved.device ≡ device_in old p → device_in (Here saved) p ≡ device_in old p
taken_is saved old p is = ap (λ (s : List Stored). device_with s (volatile_of saved.device)) (sym (ap (λ (d : Device). d.store) is)) ∙ is

pub keeps_taken : (saved : Saved) (old new : Kept) (told : Option FolderPast) → IfSome told (λ p. saved.device ≡ device_in old p) → IsUsed old saved.device → IfSome told (Keeps (Here saved) new) → IfSome told (Keeps old new)
keeps_taken saved old new None is used keeps = tt
keeps_taken saved old new (Some p) is used keeps = record { device = keeps.device ∙ taken_is saved old p is; saved = λ now. used_saved old saved.device used }

pub turns_taken : (step : Device → Device) (saved : Saved) (old new : Kept) (p q : FolderPast) → saved.device ≡ device_in old p → Turns step (Here saved) new p q → Turns step old new p q
turns_taken step saved old new p q is turns =
    let same : device_in (Here saved) p ≡ device_in old p = taken_is saved old p is in
    record { device = turns.device ∙ ap step same; sees = turns.sees ∙ ap (λ (d : Device). with_store (step d).store (seen_now p)) same; files = turns.files }

pub turned_taken : {T E : Type 0} (step : Device → Device) (saved : Saved) (old new : Kept) (result : Result T E) (before after : Option FolderPast) → IfSome before (λ p. saved.device ≡ device_in old p) → IsUsed old saved.device
    → Turned step (Here saved) new result before after → Turned step old new result before after
turned_taken step saved old new result None after is used turned =
    record { ok = turned.ok; err = turned.err; stops = turned.stops; in_step = turned.in_step; saved = turned.saved; spares = turned.spares }
turned_taken step saved old new result (Some p) None is used turned =
    record { ok = turned.ok; err = turned.err; stops = absurd turned.saved; in_step = turned.in_step; saved = turned.saved; spares = turned.spares }
turned_taken step saved old new result (Some p) (Some q) is used turned = record {
  ok = on_ok_weaker result (turns_taken step saved old new p q is) turned.ok;
  err = on_err_weaker result (λ may. elim may [ inl turns ↦ inl (turns_taken (λ d. d) saved old new p q is turns) | inr turns ↦ inr (turns_taken step saved old new p q is turns) ]) turned.err;
  stops = subst (λ (d : Device). Passes (InStore (Becomes (step d).store)) (clock_over (Some p)) (clock_over (Some q))) (taken_is saved old p is) turned.stops;
  in_step = turned.in_step;
  saved = λ now. (used_saved old saved.device used, (turned.saved now).1);
  spares = turned.spares;
}

-- An action changes the device in this way.
pub turned_action : {T E : Type 0} (reg : Reg) (value : ℕ) (saved : Saved) (old new : Kept) (result : Result T E) (told before after : Option FolderPast) → reg ≡ Action → before ≡ told → IfSome told (λ p. saved.device ≡ device_in old p) → IsUsed old saved.device
    → Turned (act value) (Here saved) new result before after → Turned (after_reg_write reg value) old new result told after
turned_action {T = T} {E = E} reg value saved old new result told before after action same taken used turned =
    subst (λ (r : Reg). Turned {T = T} {E = E} (after_reg_write r value) old new result told after) (sym action)
    (turned_taken (act value) saved old new result told after taken used
    (subst (λ (o : Option FolderPast). Turned {T = T} {E = E} (act value) (Here saved) new result o after) same turned))

-- A step that left the store unchanged.
in_step_acts : (saved : Saved) (store : List Stored) (p : FolderPast) → HasUsableStore p → IsFileOf saved.device.store (bytes_named Store p) → saved.device.store ≡ (seen_now p).store → IsDevice saved.device → IsInStep (Here saved) p
in_step_acts saved store p usable filed over kept =
    record { filed = filed; over = over; device = subst (λ (s : List Stored). IsDevice (device_with s (volatile_of saved.device))) over kept; usable = usable }

acts_turns : (step : Device → Device) (saved : Saved) (old : Kept) (p : FolderPast) → saved.device ≡ step (device_in old p) → (step (device_in old p)).store ≡ (seen_now p).store → Turns step old (Here saved) p p
acts_turns step saved old p is store =
    let over : saved.device.store ≡ (seen_now p).store = ap (λ (d : Device). d.store) is ∙ store in
    record {
      device = ap (λ (s : List Stored). device_with s (volatile_of saved.device)) (sym over) ∙ is;
      sees = ap (λ (s : List Stored). with_store s (seen_now p)) (sym store);
      files = λ file. same_file file p;
    }

-- What is known of a call that did a step that left the store unchanged.
record DidStep (step : Device → Device) (old new : Kept) (before after : Option FolderPast) : Type 0 where
  turns : IfTold (Turns step old new) before after
  in_step : IfSome after (IsInStep new)
  saved : IfTold (Settles old new) before after

-- The store's file has the store of the device that was taken out.
abbrev pub FiledAs : Device → Option FolderPast → Type 0
FiledAs was told = IfSome told (λ p. IsFileOf was.store (bytes_named Store p))

did_step : (step : Device → Device) (was : Device) (old new : Kept) (before after : Option FolderPast) → IfSome before (IsInStep old) → FiledAs was before → IfSome before (λ p. was ≡ device_in old p) → IsUsed old was → after ≡ before → Acts step was new → DidStep step old new before after
did_step step was old new None after in_step filed taken used same acts =
    record { turns = same; in_step = subst (λ (o : Option FolderPast). IfSome o (IsInStep new)) (sym same) tt; saved = same }
did_step step was old new (Some p) after in_step filed taken used same acts =
    let is : acts.saved.device ≡ step (device_in old p) = acts.after ∙ ap step taken in
    let store : (step (device_in old p)).store ≡ (seen_now p).store = ap (λ (d : Device). (step d).store) (sym taken) ∙ (acts.store ∙ ap (λ (d : Device). d.store) taken) in
    subst (λ (k : Kept). DidStep step old k (Some p) after) (sym acts.kept)
    (subst (λ (o : Option FolderPast). DidStep step old (Here acts.saved) (Some p) o) (sym same) (record {
      turns = acts_turns step acts.saved old p is store;
      in_step = in_step_acts acts.saved (seen_now p).store p in_step.usable
          (subst (λ (s : List Stored). IsFileOf s (bytes_named Store p)) (sym (ap (λ (d : Device). d.store) acts.after ∙ acts.store)) filed) (ap (λ (d : Device). d.store) is ∙ store) acts.device;
      saved = λ now. (used_saved old was used, inl refl);
    }))

pub acts_ok : {T E : Type 0} (step : Device → Device) (was : Device) (old new : Kept) (x : T) (before after : Option FolderPast) → IfSome before (IsInStep old) → FiledAs was before → IfSome before (λ p. was ≡ device_in old p) → IsUsed old was → after ≡ before
    → Acts step was new → Turned {E = E} step old new (Ok x) before after
acts_ok step was old new x before after in_step filed taken used same acts =
    let did = did_step step was old new before after in_step filed taken used same acts in
    record { ok = did.turns; err = tt; stops = stops_still step old before after same; in_step = did.in_step; saved = did.saved; spares = spares_same before after same }

pub acts_any : {T E : Type 0} (step : Device → Device) (was : Device) (old new : Kept) (result : Result T E) (before after : Option FolderPast) → IfSome before (IsInStep old) → FiledAs was before → IfSome before (λ p. was ≡ device_in old p) → IsUsed old was → after ≡ before
    → OnOk result (Acts step was new) → OnErr result (Acts (λ d. d) was new) → Turned step old new result before after
acts_any step was old new (Ok x) before after in_step filed taken used same ok err = acts_ok step was old new x before after in_step filed taken used same ok
acts_any step was old new (Err e) before after in_step filed taken used same ok err =
    let did = did_step (λ d. d) was old new before after in_step filed taken used same err in
    record { ok = tt; err = may_turn step old new before after did.turns; stops = stops_still step old before after same; in_step = did.in_step; saved = did.saved; spares = spares_same before after same }

-- ---- the store's file is written

-- The bytes of a store's file are read as the store.
pub bytes_again : ((records : List Stored) → IsStore records → file_at (store_bytes records) ≡ Ok records) → (bytes : List ℕ) (store : List Stored) → IsStore store → bytes ≡ store_bytes store → store_in (Some bytes) ≡ store
bytes_again again bytes store kept is =
    ap (λ (b : List ℕ). result_unwrap_or (file_at b) []) is ∙ ap (λ (r : Result (List Stored) StoreRefused). result_unwrap_or r []) (again store kept)

-- The file has this store once the write succeeded.
record Wrote {T E : Type 0} (store : List Stored) (result : Result T E) (p : FolderPast) (after : Option FolderPast) : Type 0 where
  ok : OnOk result (IfTold (λ x y. seen_now y ≡ with_store store (seen_now x)) (Some p) after)
  err : OnErr result (IfTold (λ x y. (seen_now y ≡ seen_now x) ⊎ (seen_now y ≡ with_store store (seen_now x))) (Some p) after)
  files : (file : FileNo) → IfTold (KeepsFile file) (Some p) after
  usable : IfSome after HasUsableStore
  filed : OnOk result (IfSome after (λ q. IsFileOf store (bytes_named Store q)))
  stops : Passes (InStore (Becomes store)) (clock_over (Some p)) (clock_over after)
  saved : OnOk result (IfTold (λ x y. (y ≡ x) ⊎ HasSettledStore y) (Some p) after)

had_ok : {T E : Type 0} (result : Result T E) → OnErr result ⊥ → (P Q : Type 0) → P → OnOk result P × OnErr result Q
had_ok (Ok x) ok P Q holds = (holds, tt)
had_ok (Err e) ok P Q holds = absurd ok

replaced_sees : {T E : Type 0} (bytes : List ℕ) (result : Result T E) (p : FolderPast) (after : Option FolderPast) → OnOk result (IfTold (HasReplaced bytes) (Some p) after) → OnOk result (IfTold (λ x y. seen_now y ≡ with_store (store_in (Some bytes)) (seen_now x)) (Some p) after)
replaced_sees bytes result p None is = is
replaced_sees bytes result p (Some q) is = on_ok_weaker result (λ r. r.seen) is

replaced_settles : {T E : Type 0} (bytes : List ℕ) (result : Result T E) (p : FolderPast) (after : Option FolderPast) → OnOk result (IfTold (HasReplaced bytes) (Some p) after) → OnOk result (IfTold (λ x y. (y ≡ x) ⊎ HasSettledStore y) (Some p) after)
replaced_settles bytes result p None is = is
replaced_settles bytes result p (Some q) is = on_ok_weaker result (λ r. inr r.settled) is

replaced_usable : (p : FolderPast) (after : Option FolderPast) → HasUsableStore p → IfTold KeepsUsable (Some p) after → IfSome after HasUsableStore
replaced_usable p None usable keeps = tt
replaced_usable p (Some q) usable keeps = keeps usable

replaced_filed : {T E : Type 0} (bytes : List ℕ) (result : Result T E) (p : FolderPast) (after : Option FolderPast) → bytes ≡ store_bytes (store_in (Some bytes)) → OnOk result (IfTold (HasReplaced bytes) (Some p) after)
    → OnOk result (IfSome after (λ q. IsFileOf (store_in (Some bytes)) (bytes_named Store q)))
replaced_filed bytes (Err e) p after own is = tt
replaced_filed bytes (Ok x) p None own is = tt
replaced_filed bytes (Ok x) p (Some q) own is = subst (IsFileOf (store_in (Some bytes))) (sym is.file) own

wrote : {T E : Type 0} (had bytes : List ℕ) (result : Result T E) (p : FolderPast) (after : Option FolderPast) → store_in (Some had) ≡ (seen_now p).store → HasUsableStore p
    → IsFileOf (store_in (Some had)) (bytes_named Store p) → bytes ≡ store_bytes (store_in (Some bytes)) → Writes had bytes result (Some p) after → Wrote (store_in (Some bytes)) result p after
wrote {T = T} {E = E} had bytes result p after was usable filed own (inl had_them) =
    let store : store_in (Some bytes) ≡ (seen_now p).store = ap (λ (b : List ℕ). store_in (Some b)) had_them.same ∙ was in
    let seen : seen_now p ≡ with_store (store_in (Some bytes)) (seen_now p) = ap (λ (s : List Stored). with_store s (seen_now p)) (sym store) in
    subst (λ (o : Option FolderPast). Wrote {T = T} {E = E} (store_in (Some bytes)) result p o) (sym had_them.told) (record {
      ok = (had_ok result had_them.ok (seen_now p ≡ with_store (store_in (Some bytes)) (seen_now p)) ⊥ seen).0;
      err = (had_ok result had_them.ok (Unit {0}) ((seen_now p ≡ seen_now p) ⊎ (seen_now p ≡ with_store (store_in (Some bytes)) (seen_now p))) tt).1;
      files = λ file. same_file file p;
      usable = usable;
      filed = (had_ok result had_them.ok (IsFileOf (store_in (Some bytes)) (bytes_named Store p)) ⊥
          (subst (λ (b : List ℕ). IsFileOf (store_in (Some b)) (bytes_named Store p)) (sym had_them.same) filed)).0;
      stops = stands (InStore (Becomes (store_in (Some bytes)))) (clock_over (Some p)) (λ left. record { store = left.store; step = inl refl; rest = refl });
      saved = (had_ok result had_them.ok ((p ≡ p) ⊎ HasSettledStore p) ⊥ (inl refl)).0;
    })
wrote had bytes result p after was usable filed own (inr replaces) = record {
  ok = replaced_sees bytes result p after replaces.ok;
  err = replaces.err;
  files = replaces.files;
  usable = replaced_usable p after usable replaces.usable;
  filed = replaced_filed bytes result p after own replaces.ok;
  stops = replaces.stops;
  saved = replaced_settles bytes result p after replaces.ok;
}

-- ---- the device is saved, or that failed

same_record_decides : (a b : Stored) → Decides (is_same_record a b) (a ≡ b)
same_record_decides a b = (
  (λ is. (let both = and_both (nat_eq a.id b.id) (pointwise nat_eq a.bytes b.bytes) is in
      ap (λ (n : ℕ). record { id = n; bytes = a.bytes }) ((unsigned_Decides a.id b.id).0 both.0) ∙ ap (λ (l : List ℕ). record { id = b.id; bytes = l }) ((bytes_decides a.bytes b.bytes).0 both.1))),
  (λ is. and_is (nat_eq a.id b.id) (pointwise nat_eq a.bytes b.bytes) ((unsigned_Decides a.id b.id).1 (ap (λ (r : Stored). r.id) is)) ((bytes_decides a.bytes b.bytes).1 (ap (λ (r : Stored). r.bytes) is))),
)
  where
    and_both : (x y : Bool) → (x && y) ≡ true → (x ≡ true) × (y ≡ true)
    and_both true true is = (refl, refl)
    and_both true false is = absurd cc
    and_both false y is = absurd cc

    and_is : (x y : Bool) → x ≡ true → y ≡ true → (x && y) ≡ true
    and_is true true one two = refl
    and_is true false one two = absurd cc
    and_is false y one two = absurd cc

-- The model of a lost device has the store that the file has.
lost_is : (before after : Device) (store : List Stored) → ((store ≡ after.store) × (volatile_in (Lost before after) store ≡ volatile_of after)) ⊎ ((store ≢ after.store) × (volatile_in (Lost before after) store ≡ volatile_of before))
lost_is before after store = by (is_same_store store after.store) refl
  where
    by : (b : Bool) → is_same_store store after.store ≡ b → ((store ≡ after.store) × (volatile_in (Lost before after) store ≡ volatile_of after)) ⊎ ((store ≢ after.store) × (volatile_in (Lost before after) store ≡ volatile_of before))
    by true is = inl ((pointwise_decides same_record_decides store after.store).0 is, ap (λ (b : Bool). if b then volatile_of after else volatile_of before) is)
    by false is = inr (not_same, ap (λ (b : Bool). if b then volatile_of after else volatile_of before) is)
      where
        not_true : false ≡ true → ⊥
        not_true e = cc

        not_same : store ≢ after.store
        not_same e = not_true (sym is ∙ (pointwise_decides same_record_decides store after.store).1 e)

-- A lost device has done this step, or no step.
record LostAs (step : Device → Device) (old : Kept) (before made : Device) (p q : FolderPast) : Type 0 where
  turns : MayTurn step old (Lost before made) p q
  device : IsDevice (device_in (Lost before made) q)

lost_as : (step : Device → Device) (saved : Saved) (before made : Device) (p q : FolderPast) → IsInStep (Here saved) p → before ≡ record saved.device { store = [] } → made ≡ step (device_in (Here saved) p) → IsDevice made
    → ((seen_now q ≡ seen_now p) ⊎ (seen_now q ≡ with_store made.store (seen_now p))) → ((file : FileNo) → KeepsFile file p q) → LostAs step (Here saved) before made p q
lost_as step saved before made p q is was same kept sees files = elim (lost_is before made (seen_now q).store) [
  | inl acted ↦
      (let seen : seen_now q ≡ with_store made.store (seen_now p) = elim sees [
        | inl still ↦ still ∙ ap (λ (s : List Stored). with_store s (seen_now p)) (sym (ap (λ (l : Left). l.store) still) ∙ acted.0)
        | inr new ↦ new
      ] in
      let device : device_in (Lost before made) q ≡ made = ap (λ (v : Volatile). device_with (seen_now q).store v) acted.1 ∙ ap (λ (s : List Stored). device_with s (volatile_of made)) acted.0 in
      record {
        turns = inr (record { device = device ∙ same; sees = seen ∙ ap (λ (d : Device). with_store d.store (seen_now p)) same; files = files });
        device = subst IsDevice (sym device) kept;
      })
  | inr not_acted ↦
      (let still : seen_now q ≡ seen_now p = elim sees [ inl still ↦ still | inr new ↦ absurd (not_acted.0 (ap (λ (l : Left). l.store) new)) ] in
      let device : device_in (Lost before made) q ≡ device_in (Here saved) p =
      ap (λ (v : Volatile). device_with (seen_now q).store v) not_acted.1
      ∙ (ap (λ (d : Device). device_with (seen_now q).store (volatile_of d)) was
      ∙ ap (λ (l : Left). device_with l.store (volatile_of saved.device)) still) in
      record {
        turns = inl (record { device = device; sees = still; files = files });
        device = subst IsDevice (sym device) is.device;
      })
]

-- A file that isn't a store doesn't belong to a device.
spared_here : (saved : Saved) (p q : FolderPast) → IsInStep (Here saved) p → SparesNoStore p q
spared_here saved p q is bytes there none =
    absurd (none saved.device.store (subst IsStore (sym is.over) is.device.store) (subst (IsFileOf saved.device.store) there is.filed))

-- A call that lost the device.
pub turned_lost : {T E : Type 0} (step : Device → Device) (saved : Saved) (before made : Device) (new : Kept) (e : E) (p : FolderPast) (after : Option FolderPast) → IsInStep (Here saved) p → before ≡ record saved.device { store = [] }
    → made ≡ step saved.device → IsDevice made → new ≡ Lost before made → IfTold (λ x y. (seen_now y ≡ seen_now x) ⊎ (seen_now y ≡ with_store made.store (seen_now x))) (Some p) after
    → ((file : FileNo) → IfTold (KeepsFile file) (Some p) after) → IfSome after HasUsableStore → Passes (InStore (Becomes made.store)) (clock_over (Some p)) (clock_over after) → Turned {T = T} step (Here saved) new (Err e) (Some p) after
turned_lost step saved before made new e p None is was same kept lost sees files usable stops = absurd sees
turned_lost {T = T} {E = E} step saved before made new e p (Some q) is was same kept lost sees files usable stops =
    let taken : saved.device ≡ device_in (Here saved) p = ap (λ (s : List Stored). device_with s (volatile_of saved.device)) is.over in
    let made_is : made ≡ step (device_in (Here saved) p) = same ∙ ap step taken in
    let ends = lost_as step saved before made p q is was made_is kept sees files in
    subst (λ (k : Kept). Turned {T = T} {E = E} step (Here saved) k (Err e) (Some p) (Some q)) (sym lost) (record {
      ok = tt;
      err = ends.turns;
      stops = subst (λ (d : Device). Passes (InStore (Becomes d.store)) (clock_over (Some p)) (clock_over (Some q))) made_is stops;
      in_step = record { filed = tt; over = tt; device = ends.device; usable = usable };
      saved = λ never. absurd never;
      spares = spared_here saved p q is;
    })

-- A call that kept the device.
turned_put_back : {T E : Type 0} (step : Device → Device) (saved made : Saved) (new : Kept) (x : T) (p : FolderPast) (after : Option FolderPast) → IsInStep (Here saved) p → made.device ≡ step saved.device → IsDevice made.device → new ≡ Here made
    → IfTold (λ x y. seen_now y ≡ with_store made.device.store (seen_now x)) (Some p) after → ((file : FileNo) → IfTold (KeepsFile file) (Some p) after) → IfSome after HasUsableStore → FiledAs made.device after
    → Passes (InStore (Becomes made.device.store)) (clock_over (Some p)) (clock_over after) → IfTold (λ x y. (y ≡ x) ⊎ HasSettledStore y) (Some p) after → Turned {E = E} step (Here saved) new (Ok x) (Some p) after
turned_put_back step saved made new x p None is same kept here sees files usable filed stops settled = absurd sees
turned_put_back {T = T} {E = E} step saved made new x p (Some q) is same kept here sees files usable filed stops settled =
    let taken : saved.device ≡ device_in (Here saved) p = ap (λ (s : List Stored). device_with s (volatile_of saved.device)) is.over in
    let made_is : made.device ≡ step (device_in (Here saved) p) = same ∙ ap step taken in
    let over : made.device.store ≡ (seen_now q).store = sym (ap (λ (l : Left). l.store) sees) in
    subst (λ (k : Kept). Turned {T = T} {E = E} step (Here saved) k (Ok x) (Some p) (Some q)) (sym here) (record {
      ok = record {
        device = ap (λ (s : List Stored). device_with s (volatile_of made.device)) (sym over) ∙ made_is;
        sees = sees ∙ ap (λ (d : Device). with_store d.store (seen_now p)) made_is;
        files = files;
      };
      err = tt;
      stops = subst (λ (d : Device). Passes (InStore (Becomes d.store)) (clock_over (Some p)) (clock_over (Some q))) made_is stops;
      in_step = record { filed = filed; over = over; device = subst (λ (s : List Stored). IsDevice (device_with s (volatile_of made.device))) over kept; usable = usable };
      saved = λ now. (tt, settled);
      spares = spared_here saved p q is;
    })

-- The system isn't modelled.
turned_untold : {T E : Type 0} (step : Device → Device) (old new : Kept) (result : Result T E) (after : Option FolderPast) → after ≡ None → Turned step old new result None after
turned_untold step old new result after same = record {
  ok = any_ok result;
  err = any_err result;
  stops = stops_still step old None after same;
  in_step = subst (λ (o : Option FolderPast). IfSome o (IsInStep new)) (sym same) tt;
  saved = same;
  spares = same;
}
  where
    any_ok : {T E : Type 0} (result : Result T E) → OnOk result (after ≡ None)
    any_ok (Ok x) = same
    any_ok (Err e) = tt

    any_err : {T E : Type 0} (result : Result T E) → OnErr result (after ≡ None)
    any_err (Ok x) = tt
    any_err (Err e) = same

writes_untold : {T E : Type 0} (had bytes : List ℕ) (result : Result T E) (after : Option FolderPast) → Writes had bytes result None after → after ≡ None
writes_untold had bytes result after (inl had_them) = had_them.told
writes_untold had bytes result after (inr replaces) = replaces.files Zero

-- The device was changed, and its store was to be written to the file.
pub turned_wrote : {T E : Type 0} (step : Device → Device) (saved made : Saved) (had : List ℕ) (before : Device) (new : Kept) (result : Result T E) (told after : Option FolderPast) → ((records : List Stored) → IsStore records → file_at (store_bytes records) ≡ Ok records)
    → IfSome told (IsInStep (Here saved)) → before ≡ record saved.device { store = [] } → made.device ≡ step saved.device → IsDevice made.device → KeepsOrLoses result before made new
    → had ≡ saved.file → Writes had made.file result told after → Turned step (Here saved) new result told after
turned_wrote step saved made had before new result None after again is was same kept keeps held writes = turned_untold step (Here saved) new result after (writes_untold had made.file result after writes)
turned_wrote {T = T} {E = E} step saved made had before new result (Some p) after again is was same kept keeps held writes =
    let store : IsStore saved.device.store = subst IsStore (sym is.over) is.device.store in
    let had_store : store_in (Some had) ≡ saved.device.store = bytes_again again had saved.device.store store (held ∙ saved.same) in
    let w : Wrote {T = T} {E = E} made.device.store result p after =
    subst (λ (s : List Stored). Wrote {T = T} {E = E} s result p after) (bytes_again again made.file made.device.store kept.store made.same)
    (wrote had made.file result p after (had_store ∙ is.over) is.usable
    (subst (λ (s : List Stored). IsFileOf s (bytes_named Store p)) (sym had_store) is.filed)
    (made.same ∙ ap store_bytes (sym (bytes_again again made.file made.device.store kept.store made.same))) writes) in
    by result keeps w
  where
    by : (result : Result T E) → KeepsOrLoses result before made new → Wrote {T = T} {E = E} made.device.store result p after → Turned step (Here saved) new result (Some p) after
    by (Ok x) keeps w = turned_put_back step saved made new x p after is same kept keeps w.ok w.files w.usable w.filed w.stops w.saved
    by (Err e) keeps w = turned_lost step saved before made.device new e p after is was same kept keeps w.err w.files w.usable w.stops

-- The device was changed, and its store wasn't written to the file.
pub turned_unwritten : {T E : Type 0} (step : Device → Device) (saved : Saved) (before made : Device) (new : Kept) (e : E) (told after : Option FolderPast) → after ≡ told → IfSome told (IsInStep (Here saved)) → before ≡ record saved.device { store = [] }
    → made ≡ step saved.device → IsDevice made → new ≡ Lost before made → Turned {T = T} step (Here saved) new (Err e) told after
turned_unwritten step saved before made new e None after same is was made_is kept lost = turned_untold step (Here saved) new (Err e) after same
turned_unwritten {T = T} {E = E} step saved before made new e (Some p) after same is was made_is kept lost =
    subst (λ (o : Option FolderPast). Turned {T = T} {E = E} step (Here saved) new (Err e) (Some p) o) (sym same)
    (turned_lost step saved before made new e p (Some p) is was made_is kept lost (inl refl) (λ file. same_file file p) is.usable
    (stands (InStore (Becomes made.store)) (clock_over (Some p)) (λ left. record { store = left.store; step = inl refl; rest = refl })))

-- A change was to be written to the file.
pub turned_saved : {T E : Type 0} (change : Change) (new : Kept) (result : Result T E) (told after : Option FolderPast) → ((records : List Stored) → IsStore records → file_at (store_bytes records) ≡ Ok records)
    → KeepsOrLoses result change.before change.made new → ((had : List ℕ) → (change.differs ≡ false → change.made.file ≡ had) → Writes had change.made.file result told after)
    → (step : Device → Device) (saved : Saved) → IsChange step saved change → IfSome told (IsInStep (Here saved)) → Turned step (Here saved) new result told after
turned_saved change new result told after again keeps writes step saved is in_step =
    turned_wrote step saved change.made saved.file change.before new result told after again in_step is.before is.made is.device keeps refl (writes saved.file is.same)

-- The file was replaced, or that failed.
pub replaces_ok : {T E F : Type 0} (bytes : List ℕ) (result : Result T E) (x : T) (old new : Option FolderPast) → is_err result ≡ false → Replaces bytes result old new → Replaces {E = F} bytes (Ok x) old new
replaces_ok bytes (Ok y) x old new is r = record { usable = r.usable; files = r.files; ok = r.ok; err = tt; stops = r.stops }
replaces_ok bytes (Err e) x old new is r = absurd cc

pub replaces_err : {T U E F : Type 0} (bytes : List ℕ) (result : Result T E) (e : F) (old new : Option FolderPast) → is_err result ≡ true → Replaces bytes result old new → Replaces {T = U} bytes (Err e) old new
replaces_err bytes (Ok y) e old new is r = absurd cc
replaces_err bytes (Err f) e old new is r = record { usable = r.usable; files = r.files; ok = tt; err = r.err; stops = r.stops }

pub replaces_same : {T E : Type 0} (bytes same : List ℕ) (result : Result T E) (old new : Option FolderPast) → bytes ≡ same → Replaces bytes result old new → Replaces same result old new
replaces_same bytes same result old new is r = subst (λ (b : List ℕ). Replaces b result old new) is r

-- The device that was taken out is put back.
pub put_back_stays : (step : Device → Device) (saved back : Saved) (new : Kept) → new ≡ Here back → IsDevice back.device → back.device ≡ saved.device → StaysOrLoses step saved new
put_back_stays step saved back new here device same = inl (record { saved = back; kept = here; after = same; store = refl; device = device })

-- No change was made, or it was lost.
device_here : (saved : Saved) (told : Option FolderPast) → IfSome told (IsInStep (Here saved)) → IfSome told (λ p. saved.device ≡ device_in (Here saved) p)
device_here saved None is = tt
device_here saved (Some p) is = ap (λ (s : List Stored). device_with s (volatile_of saved.device)) is.over

filed_here : (saved : Saved) (told : Option FolderPast) → IfSome told (IsInStep (Here saved)) → FiledAs saved.device told
filed_here saved None is = tt
filed_here saved (Some p) is = is.filed

pub turned_failed : {T E : Type 0} (step : Device → Device) (saved : Saved) (new : Kept) (e : E) (told after : Option FolderPast) → after ≡ told → IfSome told (IsInStep (Here saved)) → StaysOrLoses step saved new
    → Turned {T = T} step (Here saved) new (Err e) told after
turned_failed {T = T} {E = E} step saved new e told after same is (inl acts) =
    acts_any {T = T} {E = E} step saved.device (Here saved) new (Err e) told after is (filed_here saved told is) (device_here saved told is) refl same tt acts
turned_failed step saved new e told after same is (inr lost) =
    turned_unwritten step saved lost.before lost.made new e told after same is lost.was lost.same lost.device lost.lost

pub turned_ended : {T E : Type 0} (step : Device → Device) (saved : Saved) (new : Kept) (result : Result T E) (told after : Option FolderPast) → IsErr result → after ≡ told → IfSome told (IsInStep (Here saved)) → StaysOrLoses step saved new
    → Turned step (Here saved) new result told after
turned_ended step saved new (Ok x) told after failed same is ends = absurd (not_err failed)
  where
    not_err : false ≡ true → ⊥
    not_err e = cc
turned_ended {T = T} step saved new (Err e) told after failed same is ends = turned_failed {T = T} step saved new e told after same is ends

-- The device that was taken out and the folder agree.
pub in_step_taken : (saved : Saved) (old : Kept) (told : Option FolderPast) → IfSome told (IsInStep old) → FiledAs saved.device told → IfSome told (λ p. saved.device ≡ device_in old p) → IfSome told (IsInStep (Here saved))
in_step_taken saved old None is filed taken = tt
in_step_taken saved old (Some p) is filed taken = record {
  filed = filed;
  over = ap (λ (d : Device). d.store) taken;
  device = subst IsDevice (sym (taken_is saved old p taken)) is.device;
  usable = is.usable;
}

pub turned_or : {T E F : Type 0} (step : Device → Device) (old new : Kept) (result : Result T E) (f : F) (before after : Option FolderPast) → Turned step old new result before after → Turned step old new (result_or result (Err f)) before after
turned_or step old new (Ok x) f before after turned = record { ok = turned.ok; err = tt; stops = turned.stops; in_step = turned.in_step; saved = turned.saved; spares = turned.spares }
turned_or step old new (Err e) f before after turned = record { ok = tt; err = turned.err; stops = turned.stops; in_step = turned.in_step; saved = turned.saved; spares = turned.spares }

-- A put whose store was written to the file, or wasn't because a call of the system failed.
pub turned_put : {E : Type 0} (step : Device → Device) (old new : Kept) (result : Result (Unit {0}) E) (why : CallFailed) (before after : Option FolderPast) → Turned step old new result before after
    → Turned step old new (put_answer (result_or result (Err (Call why)))) before after
turned_put step old new (Ok x) why before after turned = record { ok = turned.ok; err = tt; stops = turned.stops; in_step = turned.in_step; saved = turned.saved; spares = turned.spares }
turned_put step old new (Err e) why before after turned = record { ok = tt; err = turned.err; stops = turned.stops; in_step = turned.in_step; saved = turned.saved; spares = turned.spares }

pub put_is : (id : ℕ) (bytes : List ℕ) (d made : Device) → made ≡ with_put id bytes d → refusal_of id bytes d.store ≡ None → made ≡ after_put id bytes d
put_is id bytes d made is free = is ∙ ap (λ (r : Option PutRefused). unless_refused r (with_put id bytes d) d) (sym free)
