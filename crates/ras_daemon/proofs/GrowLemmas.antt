-- Acts only append to the text, also if one of them fails.
use Rattle.std.proofs.Common.{◌≡◌, ℕ, List, [], ◌∷◌, ◌++◌, length, Option, None, Some, IsSomeAnd, refl, ap, sym, ◌∙◌, subst, append_assoc, append-nil, inl, inr}
use Rattle.std.specs.Option.{option_map}
use Rattle.board_core.specs.Cause.{Kind}
use Rattle.board_core.specs.declared.board.FileNo.TheVariants.{Zero, One}
use Rattle.board_core.specs.declared.board.Access.{Access}
use Rattle.board_core.specs.declared.board.Access.TheVariants.{Read, Write, RangeRead, RangeWrite}
use Rattle.board_core.specs.Doing.{Act, DeviceCall, FailsAct, FailsActs, FailsDevice, Seen, after_act, after_acts, after_device, calls, device, prints, put, range_read, range_write, reg_read, reg_write, through, writes}
use Rattle.board_core.specs.Stop.{Left}
use Rattle.board_core.specs.Told.{FailsAccess, MayAct, MayListAccess, Relates, Told, after_put, after_range_write, after_reg_write, on_device, with_access}
use Rattle.erst_store.specs.Device.{Device}
use Rattle.ras_exit.specs.Acts.{DoesBy}
use Rattle.ras_exit.specs.Endings.{CallEnding, answered, faulted}

pub record Grows (old now : Told) : Type 0 where
  pub part : List ℕ
  pub is : now.here.out ≡ old.here.out ++ part

same : (old now : Told) → now.here.out ≡ old.here.out → Grows old now
same old now is = record { part = []; is = is ∙ sym (append-nil old.here.out) }

grows_then : (a b c : Told) → Grows a b → Grows b c → Grows a c
grows_then a b c one two = record { part = one.part ++ two.part; is = two.is ∙ ap (λ out. out ++ two.part) one.is ∙ append_assoc a.here.out one.part two.part }

device_out : (call : DeviceCall) (t : Told) → (after_device call t).here.out ≡ t.here.out
device_out (reg_read reg) t = refl
device_out (reg_write reg value) t = refl
device_out (range_read place count) t = refl
device_out (range_write place bytes) t = refl
device_out (put id bytes) t = refl

act_grows : (act : Act) (t : Told) → Grows t (after_act act t)
act_grows (through Zero place bytes) t = same t (after_act (through Zero place bytes) t) refl
act_grows (through One place bytes) t = same t (after_act (through One place bytes) t) refl
act_grows (writes Zero place bytes) t = same t (after_act (writes Zero place bytes) t) refl
act_grows (writes One place bytes) t = same t (after_act (writes One place bytes) t) refl
act_grows (prints bytes) t = record { part = bytes; is = refl }
act_grows (calls call) t = same t (after_act (calls call) t) refl
act_grows (device call) t = same t (after_device call t) (device_out call t)

pub acts_grow : (acts : List Act) (t : Told) → Grows t (after_acts acts t)
acts_grow [] t = same t t refl
acts_grow (act ∷ acts) t = grows_then t (after_act act t) (after_acts acts (after_act act t)) (act_grows act t) (acts_grow acts (after_act act t))

out_is : (now there : Told) → now ≡ there → now.here.out ≡ there.here.out
out_is now there is = ap (λ (t : Told). t.here.out) is

may_list_out : (access : Access) (old now : Told) → MayListAccess access old now → now.here.out ≡ old.here.out
may_list_out access old now (inl is) = out_is now old is
may_list_out access old now (inr is) = out_is now (with_access access old) is

may_act_out : (step : Device → Device) (old now : Told) → MayAct step old now → now.here.out ≡ old.here.out
may_act_out step old now (inl is) = out_is now old is
may_act_out step old now (inr is) = out_is now (on_device step old) is

access_out : (access : Access) (step : Device → Device) (old now : Told) → FailsAccess access step old now → now.here.out ≡ old.here.out
access_out access step old now fails = may_list_out access fails.told now fails.listed ∙ may_act_out step old fails.told fails.acted

failed_out : (call : DeviceCall) (old now : Told) → FailsDevice call old now → now.here.out ≡ old.here.out
failed_out (reg_read reg) old now fails = may_list_out (Read reg 0) old now fails
failed_out (reg_write reg value) old now fails = access_out (Write reg value) (after_reg_write reg value) old now fails
failed_out (range_read place count) old now fails = may_list_out (RangeRead place count) old now fails
failed_out (range_write place bytes) old now fails = access_out (RangeWrite place (length bytes)) (after_range_write place bytes) old now fails
failed_out (put id bytes) old now fails = may_act_out (after_put id bytes) old now fails

failed_grows : (act : Act) (old now : Told) → FailsAct act old now → Grows old now
failed_grows (through Zero place bytes) old now (inl (torn, is_torn, inl is)) = same old now (ap (λ (t : Told). t.here.out) is)
failed_grows (through Zero place bytes) old now (inl (torn, is_torn, inr is)) = same old now (ap (λ (t : Told). t.here.out) is)
failed_grows (through Zero place bytes) old now (inr (inl is)) = same old now (ap (λ (t : Told). t.here.out) is)
failed_grows (through Zero place bytes) old now (inr (inr is)) = same old now (ap (λ (t : Told). t.here.out) is)
failed_grows (through One place bytes) old now (inl (torn, is_torn, inl is)) = same old now (ap (λ (t : Told). t.here.out) is)
failed_grows (through One place bytes) old now (inl (torn, is_torn, inr is)) = same old now (ap (λ (t : Told). t.here.out) is)
failed_grows (through One place bytes) old now (inr (inl is)) = same old now (ap (λ (t : Told). t.here.out) is)
failed_grows (through One place bytes) old now (inr (inr is)) = same old now (ap (λ (t : Told). t.here.out) is)
failed_grows (writes Zero place bytes) old now (torn, is_torn, inl is) = same old now (ap (λ (t : Told). t.here.out) is)
failed_grows (writes Zero place bytes) old now (torn, is_torn, inr is) = same old now (ap (λ (t : Told). t.here.out) is)
failed_grows (writes One place bytes) old now (torn, is_torn, inl is) = same old now (ap (λ (t : Told). t.here.out) is)
failed_grows (writes One place bytes) old now (torn, is_torn, inr is) = same old now (ap (λ (t : Told). t.here.out) is)
failed_grows (prints bytes) old now (part, rest, splits, is) = record { part = part; is = ap (λ (t : Told). t.here.out) is }
failed_grows (calls call) old now (inl is) = same old now (ap (λ (t : Told). t.here.out) is)
failed_grows (calls call) old now (inr is) = same old now (ap (λ (t : Told). t.here.out) is)
failed_grows (device call) old now fails = same old now (failed_out call old now fails)

fails_grow : (kind : Kind) (acts : List Act) (old now : Told) → FailsActs kind acts old now → Grows old now
fails_grow kind [] old now never = absurd never
fails_grow kind (act ∷ acts) old now (inl failed) = failed_grows act old now failed.1
fails_grow kind (act ∷ acts) old now (inr later) = grows_then old (after_act act old) now (act_grows act old) (fails_grow kind acts (after_act act old) now later)

-- a part of a run only appends to the text, however it ends
pub part_grows : {X : Type 0} (see : X → Seen) (acts : List Act) (ending : CallEnding) (t : Told) (a b : X) → (see a).told ≡ Some t → DoesBy see acts ending a b → IsSomeAnd (see b).told (Grows t)
part_grows see acts answered t a b is does = rw (does.told ∙ ap (option_map (after_acts acts)) is) (acts_grow acts t)
part_grows see acts (faulted kind) t a b is does = by (see b).told (subst (λ (o : Option Told). Relates (FailsActs kind acts) o (see b).told) is does.told)
  where
    by : (o : Option Told) → Relates (FailsActs kind acts) (Some t) o → IsSomeAnd o (Grows t)
    by None fails = absurd fails
    by (Some now) fails = fails_grow kind acts t now fails
part_grows see acts ending t a b is some = rw (some.does.told ∙ ap (option_map (after_acts some.done)) is) (same t (after_acts some.done t) (ap (λ (l : Left). l.out) (some.still t is).here))
