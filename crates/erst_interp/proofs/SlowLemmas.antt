-- No action and no call of the board changes how slow the device is.
use Rattle.std.proofs.Common.{◌≡◌, ℕ, ◌-◌, ◌+◌, Bool, true, false, Option, Some, None, nat_lt, refl, sym, subst, if◌then◌else◌}
use Rattle.std.proofs.Common.{inl, inr}
use Rattle.std.specs.Prelude.{nat_eq, length, List, slice_get}
use Rattle.erst_store.specs.Steps.ActionLemmas.{effect_does}
use Rattle.erst_store.specs.declared.device.Command.{Command}
use Rattle.erst_store.specs.declared.device.Command.TheVariants.{Write, Read, Clear, Dummy}
use Rattle.erst_store.specs.declared.device.CommandStatus.TheVariants.{NotEnoughSpace, NotFound, StoreEmpty, Success}
use Rattle.erst_store.specs.declared.store.PutRefused.{PutRefused}
use Rattle.erst_store.specs.Store.{ids, holds, refusal_of, without, bytes_under, with_record}
use Rattle.erst_store.specs.Actions.{range_length}
use Rattle.erst_store.specs.Device.{Device, effects, act, after_check, after_id, after_write_command, after_read, after_read_of, after_clear, after_command, is_write_refused, id_at, record_at, range_with_record, with_put}
use Rattle.board_core.specs.declared.board.Reg.{Reg}
use Rattle.board_core.specs.declared.board.Reg.TheVariants.{Action, Value}
use Rattle.board_core.specs.declared.board.Access.{Access}
use Rattle.board_core.specs.declared.board.Access.TheVariants.{Read, RangeRead, RangeWrite, Write as Writes}
use Rattle.board_core.specs.Doing.{DeviceCall, FailsDevice, after_device, put, reg_read, reg_write, range_read, range_write}
use Rattle.board_core.specs.Told.{Told, Relates, Steps, device_of, after_put, after_range_write, after_reg_write, unless_refused, MayAct, MayListAccess}
use Rattle.erst_interp.specs.Run.{KeepsButDevice}

abbrev IsAsSlow : Device → Device → Type 0
IsAsSlow d e = e.slow ≡ d.slow

choice : (b : Bool) (d one other : Device) → IsAsSlow d one → IsAsSlow d other → IsAsSlow d (if b then one else other)
choice true d one other first second = first
choice false d one other first second = second

written : (d : Device) → IsAsSlow d (after_write_command d)
written d = choice (is_write_refused d) d (record d { status = NotEnoughSpace }) (record d { store = with_record (id_at d.range d.offset) (record_at d.range d.offset) d.store; cursor = 0; status = Success }) refl refl

read_of : (d : Device) (found : Option (List ℕ)) → IsAsSlow d (after_read_of d found)
read_of d None = refl
read_of d (Some bytes) = choice (nat_lt range_length (d.offset + length bytes)) d (record d { status = NotEnoughSpace }) (record d { range = range_with_record d.range d.offset bytes; status = Success }) refl refl

read_is : (d : Device) → IsAsSlow d (after_read d)
read_is d = choice (nat_eq (length d.store) 0) d (record d { status = StoreEmpty }) (after_read_of d (bytes_under d.id d.store)) refl (read_of d (bytes_under d.id d.store))

cleared : (d : Device) → IsAsSlow d (after_clear d)
cleared d = choice (nat_eq (length d.store) 0) d (record d { status = StoreEmpty })
    (if holds d.id d.store then record d { store = without d.id d.store; cursor = 0; status = Success } else record d { status = NotFound }) refl
    (choice (holds d.id d.store) d (record d { store = without d.id d.store; cursor = 0; status = Success }) (record d { status = NotFound }) refl refl)

carried : (command : Option Command) (d : Device) → IsAsSlow d (after_command command d)
carried (Some Write) d = written d
carried (Some Read) d = read_is d
carried (Some Clear) d = cleared d
carried (Some Dummy) d = refl
carried None d = refl

checked : (d : Device) → IsAsSlow d (after_check d)
checked d = choice (nat_lt 0 d.busy) d (record d { value = 1; busy = d.busy - 1 }) (record d { value = 0 }) refl refl

listed : (d : Device) (next : Option ℕ) → IsAsSlow d (after_id d next)
listed d (Some id) = refl
listed d None = refl

pub act-slow : (action : ℕ) (d : Device) → (act action d).slow ≡ d.slow
unfolding act
act-slow action d = effect_does (IsAsSlow d) effects action d refl (same, (same, (same, (same, (same, ((λ _. carried d.command d), ((λ _. checked d), (same, ((λ _. listed d (slice_get (ids d.store) d.cursor)), (same, (same, (same, (same, (same, (same, tt)))))))))))))))
  where
    same : {b : Bool} → b ≡ true → d.slow ≡ d.slow
    same is = refl

pub register-slow : (reg : Reg) (value : ℕ) (d : Device) → (after_reg_write reg value d).slow ≡ d.slow
register-slow Action value d = act-slow value d
register-slow Value value d = refl

-- ---- a call of the device, whether or not it fails

put-slow : (refusal : Option PutRefused) (id : ℕ) (bytes : List ℕ) (d : Device) → IsAsSlow d (unless_refused refusal (with_put id bytes d) d)
unfolding with_put
put-slow None id bytes d = refl
put-slow (Some cause) id bytes d = refl

keeps : (call : DeviceCall) (t : Told) → KeepsButDevice t (after_device call t)
keeps (reg_read reg) t = record { here = refl; disk_calls = refl; slow = refl }
keeps (reg_write reg value) t = record { here = refl; disk_calls = refl; slow = register-slow reg value (device_of t) }
keeps (range_read place count) t = record { here = refl; disk_calls = refl; slow = refl }
keeps (range_write place bytes) t = record { here = refl; disk_calls = refl; slow = refl }
keeps (put id bytes) t = record { here = refl; disk_calls = refl; slow = put-slow (refusal_of id bytes (device_of t).store) id bytes (device_of t) }

-- The access is listed or isn't.
may_list : (access : Access) (t u v : Told) → KeepsButDevice t u → MayListAccess access u v → KeepsButDevice t v
may_list access t u v kept (inl same) = subst (λ (w : Told). KeepsButDevice t w) (sym same) kept
may_list access t u v kept (inr more) = subst (λ (w : Told). KeepsButDevice t w) (sym more) (record { here = kept.here; disk_calls = kept.disk_calls; slow = kept.slow })

-- The device has acted or hasn't.
may_act : (step : Device → Device) (t u : Told) → IsAsSlow (device_of t) (step (device_of t)) → MayAct step t u → KeepsButDevice t u
may_act step t u slow (inl same) = subst (λ (w : Told). KeepsButDevice t w) (sym same) (record { here = refl; disk_calls = refl; slow = refl })
may_act step t u slow (inr did) = subst (λ (w : Told). KeepsButDevice t w) (sym did) (record { here = refl; disk_calls = refl; slow = slow })

fails : (call : DeviceCall) (t u : Told) → FailsDevice call t u → KeepsButDevice t u
fails (reg_read reg) t u is = may_list (Read reg 0) t t u (record { here = refl; disk_calls = refl; slow = refl }) is
fails (reg_write reg value) t u is = may_list (Writes reg value) t is.told u (may_act (after_reg_write reg value) t is.told (register-slow reg value (device_of t)) is.acted) is.listed
fails (range_read place count) t u is = may_list (RangeRead place count) t t u (record { here = refl; disk_calls = refl; slow = refl }) is
fails (range_write place bytes) t u is = may_list (RangeWrite place (length bytes)) t is.told u (may_act (after_range_write place bytes) t is.told refl is.acted) is.listed
fails (put id bytes) t u is = may_act (after_put id bytes) t u (put-slow (refusal_of id bytes (device_of t).store) id bytes (device_of t)) is

pub call_keeps : (call : DeviceCall) (old new : Option Told) → Steps (λ t. after_device call t) old new → Relates KeepsButDevice old new
call_keeps call None new is = is
call_keeps call (Some t) new is = subst (λ (o : Option Told). Relates KeepsButDevice (Some t) o) (sym is) (keeps call t)

pub call_fails_keeps : (call : DeviceCall) (old new : Option Told) → Relates (FailsDevice call) old new → Relates KeepsButDevice old new
call_fails_keeps call None new is = is
call_fails_keeps call (Some t) None is = absurd is
call_fails_keeps call (Some t) (Some u) is = fails call t u is
