-- What device calls leave unchanged, and the clears of a poll.
use Rattle.std.proofs.Common.{◌≡◌, ◌∙◌, ℕ, Bool, true, false, ◌&&◌, not, nat_eq, List, [], ◌∷◌, length, Some, refl, sym, ap, subst, inl, inr, arith}
use Rattle.std.proofs.lemmas.Bool.Decides.{nat_tests}
use Rattle.erst_store.specs.DeviceLaws.{IsDevice}
use Rattle.erst_store.specs.Store.{Stored}
use Rattle.board_core.specs.Doing.{DeviceCall, Moment, Tears, after_device, calls_of, device, put, range_read, range_write, reg_read, reg_write}
use Rattle.board_core.specs.Stop.{InStore, Left}
use Rattle.board_core.specs.Told.{Told, device_of}
use Rattle.erst_interp.specs.declared.entries.InstructionEntry.{InstructionEntry}
use Rattle.erst_interp.specs.Admission.{IsAdmittedTable}
use Rattle.erst_interp.specs.Run.{acts_of}
use Rattle.erst_driver.specs.Operations.{clear_calls, is_free_in_time}
use Rattle.ras_events.specs.Stores.{unreadable}
use Rattle.ras_records.specs.Each.{after_calls, each_calls}
use Rattle.ras_records.specs.Polls.{LacksFirst, is_busy_for_reads, readable_ids}
use Rattle.ras_records.proofs.ClearingLemmas.{calls_keep, clears_here, clears_moment}
use Rattle.ras_records.proofs.FirstLemmas.{none_readable}

-- ---- calls of the device

-- Device calls are no disk calls.
pub device_calls_none : (made : List DeviceCall) → calls_of (acts_of made) ≡ []
device_calls_none [] = refl
device_calls_none (call ∷ made) = device_calls_none made

-- A crash during a device call leaves everything but the store unchanged.
same_leaves : (here left : Left) → left ≡ here → left ≡ record here { store = left.store }
same_leaves here left same = same ∙ ap (λ (s : List Stored). record here { store = s }) (sym (ap (λ (l : Left). l.store) same))

torn_leaves : (Step : List Stored → List Stored → Type 0) (here left : Left) → InStore Step here left → left ≡ record here { store = left.store }
torn_leaves Step here left by = by.rest ∙ ap (λ (s : List Stored). record here { store = s }) (sym (ap (λ (l : Left). l.store) by.rest))

call_leaves : (call : DeviceCall) (t : Told) (left : Left) → Tears (device call) (Some t) t.here left → left ≡ record t.here { store = left.store }
call_leaves (reg_read reg) t left same = same_leaves t.here left same
call_leaves (reg_write reg value) t left torn = torn_leaves _ t.here left torn
call_leaves (range_read place count) t left same = same_leaves t.here left same
call_leaves (range_write place bytes) t left same = same_leaves t.here left same
call_leaves (put id bytes) t left torn = torn_leaves _ t.here left torn

pub calls_leave : (made : List DeviceCall) (t : Told) (left : Left) → Moment (acts_of made) t left → left ≡ record t.here { store = left.store }
calls_leave [] t left never = absurd never
calls_leave (call ∷ made) t left (inl torn) = call_leaves call t left torn
calls_leave (call ∷ made) t left (inr later) =
    calls_leave made (after_device call t) left later ∙ ap (λ (l : Left). record l { store = left.store }) (calls_keep (call ∷ []) t).here

-- ---- the clears of an accepted poll

-- A poll over a device that is too slow is accepted only if the store has no record.
not_both : (free some : Bool) → (not free && not some) ≡ false → free ≡ false → some ≡ true
not_both free true is slow = refl
not_both true false is slow = absurd cc
not_both false false is slow = absurd cc

none_stored : (rs : List Stored) → nat_eq (length rs) 0 ≡ true → rs ≡ []
none_stored [] is = refl
none_stored (r ∷ rs) is = absurd (grind (arith, nat_tests))

module _ (lists : List (List InstructionEntry)) (admitted : IsAdmittedTable lists) (v : Told) (device : IsDevice (device_of v)) (ids : List ℕ) (are : readable_ids v.here.store ≡ ids)
    (in_time : is_busy_for_reads v.volatile.slow v.here.store ≡ false) where
  abbrev clears : List ℕ → List DeviceCall
  clears which = each_calls (clear_calls lists) which v

  none_there : is_free_in_time v.volatile.slow ≡ false → v.here.store ≡ []
  none_there slow = none_stored v.here.store (not_both (is_free_in_time v.volatile.slow) (nat_eq (length v.here.store) 0) in_time slow)

  none_named : is_free_in_time v.volatile.slow ≡ false → ids ≡ []
  none_named slow = sym are ∙ ap (λ (rs : List Stored). readable_ids rs) (none_there slow)

  pub cleared_here : (after_calls (clears ids) v).here ≡ record v.here { store = unreadable v.here.store }
  cleared_here = by (is_free_in_time v.volatile.slow) refl
    where
      by : (free : Bool) → is_free_in_time v.volatile.slow ≡ free → (after_calls (clears ids) v).here ≡ record v.here { store = unreadable v.here.store }
      by true free = clears_here lists admitted ids v device free are
      by false slow =
          subst (λ (which : List ℕ). (after_calls (clears which) v).here ≡ record v.here { store = unreadable v.here.store }) (sym (none_named slow))
          (ap (λ (rs : List Stored). record v.here { store = rs }) (sym (none_readable v.here.store (are ∙ none_named slow))))

  pub cleared_moment : (left : Left) → Moment (acts_of (clears ids)) v left → InStore LacksFirst v.here left
  cleared_moment left moment = by (is_free_in_time v.volatile.slow) refl
    where
      by : (free : Bool) → is_free_in_time v.volatile.slow ≡ free → InStore LacksFirst v.here left
      by true free = clears_moment lists admitted ids v device free are left moment
      by false slow = absurd (subst (λ (which : List ℕ). Moment (acts_of (clears which)) v left) (none_named slow) moment)
