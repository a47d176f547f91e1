-- What acts list, and what they leave unchanged.
use Rattle.std.proofs.Common.{◌≡◌, ◌∙◌, ◌⊎◌, ℕ, List, [], ◌∷◌, ◌++◌, length, Some, refl, sym, ap, inl, inr, append_assoc, append-nil}
use Rattle.ras_base.specs.Prefix.{IsPrefixOf}
use Rattle.board_core.specs.declared.board.Access.{Access}
use Rattle.board_core.specs.declared.board.DiskCall.{DiskCall}
use Rattle.board_core.specs.declared.board.DiskCall.TheVariants.{WriteAt, Sync}
use Rattle.board_core.specs.declared.board.FileNo.{FileNo}
use Rattle.board_core.specs.declared.board.FileNo.TheVariants.{Zero, One}
use Rattle.board_core.specs.Cause.{Kind}
use Rattle.board_core.specs.Device.{KeepsDevice}
use Rattle.board_core.specs.Stop.{Left}
use Rattle.board_core.specs.Told.{Told, MayList, after_write, after_write_through, device_of, with_call, with_file}
use Rattle.board_core.specs.Doing.{Act, AreOffDevice, AreOnDisk, DeviceCall, FailsAct, FailsActs, FailsDevice, IsOffDevice, IsOnDisk, Moment, Tears, accesses_by, accesses_of, after_act, after_acts, after_device, calls, calls_of, device, disk_calls_by, prints, put, range_read, range_write, reg_read, reg_write, through, writes}

-- ---- the disk calls that are listed

calls_by_act : (act : Act) (t : Told) → (after_act act t).disk_calls ≡ t.disk_calls ++ disk_calls_by act
calls_by_act (through file place bytes) t = append_assoc t.disk_calls (WriteAt file place (length bytes) ∷ []) (Sync file ∷ [])
calls_by_act (writes file place bytes) t = refl
calls_by_act (prints bytes) t = sym (append-nil t.disk_calls)
calls_by_act (calls call) t = refl
calls_by_act (device (reg_read reg)) t = sym (append-nil t.disk_calls)
calls_by_act (device (reg_write reg value)) t = sym (append-nil t.disk_calls)
calls_by_act (device (range_read place count)) t = sym (append-nil t.disk_calls)
calls_by_act (device (range_write place bytes)) t = sym (append-nil t.disk_calls)
calls_by_act (device (put id bytes)) t = sym (append-nil t.disk_calls)

pub calls_by_acts : (acts : List Act) (t : Told) → (after_acts acts t).disk_calls ≡ t.disk_calls ++ calls_of acts
calls_by_acts [] t = sym (append-nil t.disk_calls)
calls_by_acts (act ∷ acts) t =
    calls_by_acts acts (after_act act t)
    ∙ (ap (λ (l : List DiskCall). l ++ calls_of acts) (calls_by_act act t) ∙ append_assoc t.disk_calls (disk_calls_by act) (calls_of acts))

-- If an act failed, a beginning of the disk calls is listed.
pub record ListsBeginning (whole : List DiskCall) (old new : Told) : Type 0 where
  pub made : List DiskCall
  pub listed : new.disk_calls ≡ old.disk_calls ++ made
  pub begins : IsPrefixOf made whole

none_listed : (whole : List DiskCall) (old new : Told) → new.disk_calls ≡ old.disk_calls → ListsBeginning whole old new
none_listed whole old new is = record { made = []; listed = is ∙ sym (append-nil old.disk_calls); begins = (whole, refl) }

calls_by_failed : (act : Act) (old new : Told) → FailsAct act old new → ListsBeginning (disk_calls_by act) old new
calls_by_failed (through file place bytes) old new (inl (torn, is_torn, inl is)) = none_listed _ old new (ap (λ (t : Told). t.disk_calls) is)
calls_by_failed (through file place bytes) old new (inl (torn, is_torn, inr is)) = record { made = WriteAt file place (length bytes) ∷ []; listed = ap (λ (t : Told). t.disk_calls) is; begins = (Sync file ∷ [], refl) }
calls_by_failed (through file place bytes) old new (inr (inl is)) = record { made = WriteAt file place (length bytes) ∷ []; listed = ap (λ (t : Told). t.disk_calls) is; begins = (Sync file ∷ [], refl) }
calls_by_failed (through file place bytes) old new (inr (inr is)) = record {
  made = WriteAt file place (length bytes) ∷ Sync file ∷ [];
  listed = ap (λ (t : Told). t.disk_calls) is ∙ append_assoc old.disk_calls (WriteAt file place (length bytes) ∷ []) (Sync file ∷ []);
  begins = ([], refl);
}
calls_by_failed (writes file place bytes) old new (torn, is_torn, inl is) = none_listed _ old new (ap (λ (t : Told). t.disk_calls) is)
calls_by_failed (writes file place bytes) old new (torn, is_torn, inr is) = record { made = WriteAt file place (length bytes) ∷ []; listed = ap (λ (t : Told). t.disk_calls) is; begins = ([], refl) }
calls_by_failed (prints bytes) old new fails = none_listed _ old new (ap (λ (t : Told). t.disk_calls) fails.3)
calls_by_failed (calls call) old new (inl is) = none_listed _ old new (ap (λ (t : Told). t.disk_calls) is)
calls_by_failed (calls call) old new (inr is) = record { made = call ∷ []; listed = ap (λ (t : Told). t.disk_calls) is; begins = ([], refl) }
calls_by_failed (device call) old new fails = none_listed _ old new (of_device call fails)
  where
    access : {f : Told} (x y : Told) → (y ≡ x) ⊎ (y ≡ f) → f.disk_calls ≡ x.disk_calls → y.disk_calls ≡ x.disk_calls
    access x y (inl is) same = ap (λ (t : Told). t.disk_calls) is
    access x y (inr is) same = ap (λ (t : Told). t.disk_calls) is ∙ same

    of_device : (call : DeviceCall) → FailsDevice call old new → new.disk_calls ≡ old.disk_calls
    of_device (reg_read reg) f = access old new f refl
    of_device (reg_write reg value) f = access f.told new f.listed refl ∙ access old f.told f.acted refl
    of_device (range_read place count) f = access old new f refl
    of_device (range_write place bytes) f = access f.told new f.listed refl ∙ access old f.told f.acted refl
    of_device (put id bytes) f = access old new f refl

pub calls_by_fails : (kind : Kind) (acts : List Act) (old new : Told) → FailsActs kind acts old new → ListsBeginning (calls_of acts) old new
calls_by_fails kind [] old new never = absurd never
calls_by_fails kind (act ∷ acts) old new (inl now) =
    let one = calls_by_failed act old new now.1 in
    record { made = one.made; listed = one.listed; begins = (one.begins.0 ++ calls_of acts, sym (append_assoc one.made one.begins.0 (calls_of acts)) ∙ ap (λ (l : List DiskCall). l ++ calls_of acts) one.begins.1) }
calls_by_fails kind (act ∷ acts) old new (inr later) =
    let rest = calls_by_fails kind acts (after_act act old) new later in
    record {
      made = disk_calls_by act ++ rest.made;
      listed = rest.listed ∙ (ap (λ (l : List DiskCall). l ++ rest.made) (calls_by_act act old) ∙ append_assoc old.disk_calls (disk_calls_by act) rest.made);
      begins = (rest.begins.0, append_assoc (disk_calls_by act) rest.made rest.begins.0 ∙ ap (λ (l : List DiskCall). disk_calls_by act ++ l) rest.begins.1);
    }

-- ---- the accesses that are listed

pub accesses_by_acts : (acts : List Act) (t : Told) → (after_acts acts t).accesses ≡ t.accesses ++ accesses_of acts t
accesses_by_acts [] t = sym (append-nil t.accesses)
accesses_by_acts (through Zero place bytes ∷ acts) t = accesses_by_acts acts (after_write_through Zero place bytes t)
accesses_by_acts (through One place bytes ∷ acts) t = accesses_by_acts acts (after_write_through One place bytes t)
accesses_by_acts (writes Zero place bytes ∷ acts) t = accesses_by_acts acts (after_write Zero place bytes t)
accesses_by_acts (writes One place bytes ∷ acts) t = accesses_by_acts acts (after_write One place bytes t)
accesses_by_acts (prints bytes ∷ acts) t = accesses_by_acts acts (after_act (prints bytes) t)
accesses_by_acts (calls call ∷ acts) t = accesses_by_acts acts (with_call call t)
accesses_by_acts (device call ∷ acts) t =
    accesses_by_acts acts (after_device call t)
    ∙ (ap (λ (l : List Access). l ++ accesses_of acts (after_device call t)) (one call) ∙ append_assoc t.accesses (accesses_by call (device_of t)) (accesses_of acts (after_device call t)))
  where
    one : (call : DeviceCall) → (after_device call t).accesses ≡ t.accesses ++ accesses_by call (device_of t)
    one (reg_read reg) = refl
    one (reg_write reg value) = refl
    one (range_read place count) = refl
    one (range_write place bytes) = refl
    one (put id bytes) = sym (append-nil t.accesses)

-- ---- acts that are none of the device's

pub device_kept : (t : Told) → KeepsDevice t t
device_kept t = record { store = refl; volatile = refl; accesses = refl }

device_then : (a b c : Told) → KeepsDevice a b → KeepsDevice b c → KeepsDevice a c
device_then a b c one two = record { store = two.store ∙ one.store; volatile = two.volatile ∙ one.volatile; accesses = two.accesses ∙ one.accesses }

listed_device : (call : DiskCall) (u v : Told) → MayList call u v → KeepsDevice u v
listed_device call u v (inl is) = rw is (device_kept u)
listed_device call u v (inr is) = rw is (record { store = refl; volatile = refl; accesses = refl })

file_device : (file : FileNo) (bytes : List ℕ) (t : Told) → KeepsDevice t (with_file file bytes t)
file_device Zero bytes t = record { store = refl; volatile = refl; accesses = refl }
file_device One bytes t = record { store = refl; volatile = refl; accesses = refl }

write_device : (file : FileNo) (place : ℕ) (bytes : List ℕ) (t : Told) → KeepsDevice t (after_write file place bytes t)
write_device Zero place bytes t = record { store = refl; volatile = refl; accesses = refl }
write_device One place bytes t = record { store = refl; volatile = refl; accesses = refl }

act_device : (act : Act) → IsOffDevice act → (t : Told) → KeepsDevice t (after_act act t)
act_device (through Zero place bytes) off t = record { store = refl; volatile = refl; accesses = refl }
act_device (through One place bytes) off t = record { store = refl; volatile = refl; accesses = refl }
act_device (writes file place bytes) off t = write_device file place bytes t
act_device (prints bytes) off t = record { store = refl; volatile = refl; accesses = refl }
act_device (calls call) off t = record { store = refl; volatile = refl; accesses = refl }
act_device (device call) off t = absurd off

pub acts_device : (acts : List Act) → AreOffDevice acts → (t : Told) → KeepsDevice t (after_acts acts t)
acts_device [] off t = device_kept t
acts_device (act ∷ acts) off t = device_then t (after_act act t) (after_acts acts (after_act act t)) (act_device act off.0 t) (acts_device acts off.1 (after_act act t))

failed_device : (act : Act) → IsOffDevice act → (u v : Told) → FailsAct act u v → KeepsDevice u v
failed_device (through file place bytes) off u v (inl fails) = device_then u (with_file file fails.0 u) v (file_device file fails.0 u) (listed_device (WriteAt file place (length bytes)) (with_file file fails.0 u) v fails.2)
failed_device (through file place bytes) off u v (inr listed) = device_then u (after_write file place bytes u) v (write_device file place bytes u) (listed_device (Sync file) (after_write file place bytes u) v listed)
failed_device (writes file place bytes) off u v fails = device_then u (with_file file fails.0 u) v (file_device file fails.0 u) (listed_device (WriteAt file place (length bytes)) (with_file file fails.0 u) v fails.2)
failed_device (prints bytes) off u v fails = rw fails.3 (record { store = refl; volatile = refl; accesses = refl })
failed_device (calls call) off u v listed = listed_device call u v listed
failed_device (device call) off u v fails = absurd off

pub fails_device : (kind : Kind) (acts : List Act) → AreOffDevice acts → (u v : Told) → FailsActs kind acts u v → KeepsDevice u v
fails_device kind [] off u v never = absurd never
fails_device kind (act ∷ acts) off u v (inl now) = failed_device act off.0 u v now.1
fails_device kind (act ∷ acts) off u v (inr later) = device_then u (after_act act u) v (act_device act off.0 u) (fails_device kind acts off.1 (after_act act u) v later)

torn_device : (act : Act) → IsOffDevice act → (t : Told) (left : Left) → Tears act (Some t) t.here left → left.store ≡ t.here.store
torn_device (through Zero place bytes) off t left torn = ap (λ (l : Left). l.store) torn.rest
torn_device (through One place bytes) off t left torn = ap (λ (l : Left). l.store) torn.rest
torn_device (writes Zero place bytes) off t left torn = ap (λ (l : Left). l.store) torn.rest
torn_device (writes One place bytes) off t left torn = ap (λ (l : Left). l.store) torn.rest
torn_device (prints bytes) off t left torn = ap (λ (l : Left). l.store) torn.rest
torn_device (calls call) off t left is = ap (λ (l : Left). l.store) is
torn_device (device call) off t left torn = absurd off

-- A crash meanwhile leaves the model's store.
pub moment_store : (acts : List Act) → AreOffDevice acts → (t : Told) (left : Left) → Moment acts t left → left.store ≡ t.here.store
moment_store [] off t left never = absurd never
moment_store (act ∷ acts) off t left (inl torn) = torn_device act off.0 t left torn
moment_store (act ∷ acts) off t left (inr later) = moment_store acts off.1 (after_act act t) left later ∙ (act_device act off.0 t).store

-- ---- acts of the disk

disk_off : (act : Act) → IsOnDisk act → IsOffDevice act
disk_off (through file place bytes) on = tt
disk_off (writes file place bytes) on = tt
disk_off (prints bytes) on = absurd on
disk_off (calls call) on = tt
disk_off (device call) on = absurd on

pub on_disk_off : (acts : List Act) → AreOnDisk acts → AreOffDevice acts
on_disk_off [] on = tt
on_disk_off (act ∷ acts) on = (disk_off act on.0, on_disk_off acts on.1)

torn_out : (act : Act) → IsOnDisk act → (t : Told) (left : Left) → Tears act (Some t) t.here left → left.out ≡ t.here.out
torn_out (through Zero place bytes) on t left torn = ap (λ (l : Left). l.out) torn.rest
torn_out (through One place bytes) on t left torn = ap (λ (l : Left). l.out) torn.rest
torn_out (writes Zero place bytes) on t left torn = ap (λ (l : Left). l.out) torn.rest
torn_out (writes One place bytes) on t left torn = ap (λ (l : Left). l.out) torn.rest
torn_out (prints bytes) on t left torn = absurd on
torn_out (calls call) on t left is = ap (λ (l : Left). l.out) is
torn_out (device call) on t left torn = absurd on

act_out : (act : Act) → IsOnDisk act → (t : Told) → (after_act act t).here.out ≡ t.here.out
act_out (through Zero place bytes) on t = refl
act_out (through One place bytes) on t = refl
act_out (writes Zero place bytes) on t = refl
act_out (writes One place bytes) on t = refl
act_out (prints bytes) on t = absurd on
act_out (calls call) on t = refl
act_out (device call) on t = absurd on

pub acts_out : (acts : List Act) → AreOnDisk acts → (t : Told) → (after_acts acts t).here.out ≡ t.here.out
acts_out [] on t = refl
acts_out (act ∷ acts) on t = acts_out acts on.1 (after_act act t) ∙ act_out act on.0 t

-- A crash meanwhile leaves the model's text.
pub moment_out : (acts : List Act) → AreOnDisk acts → (t : Told) (left : Left) → Moment acts t left → left.out ≡ t.here.out
moment_out [] on t left never = absurd never
moment_out (act ∷ acts) on t left (inl torn) = torn_out act on.0 t left torn
moment_out (act ∷ acts) on t left (inr later) = moment_out acts on.1 (after_act act t) left later ∙ act_out act on.0 t
