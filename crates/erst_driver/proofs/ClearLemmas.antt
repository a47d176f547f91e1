-- What the actions of a clear lead to.
use Rattle.std.proofs.Common.{◌≡◌, ◌∙◌, ℕ, Bool, true, false, nat_eq, List, [], ◌∷◌, length, Option, Some, None, refl, sym, ap, subst, inl, inr, arith, if◌then◌else◌}
use Rattle.std.proofs.lemmas.Bool.Decides.{nat_tests}
use Rattle.std.specs.Prelude.{◌⊎◌, IfSome}
use Rattle.erst_store.specs.declared.device.Command.TheVariants.{Clear}
use Rattle.erst_store.specs.declared.device.CommandStatus.{CommandStatus}
use Rattle.erst_store.specs.declared.device.CommandStatus.TheVariants.{Success, StoreEmpty, NotFound}
use Rattle.erst_store.specs.Actions.{execute_operation, set_record_identifier}
use Rattle.erst_store.specs.Store.{Stored, holds, without}
use Rattle.erst_store.specs.Steps.StoreLemmas.{without-absent}
use Rattle.erst_store.specs.Device.{Device, act, busy_device}
use Rattle.erst_store.specs.DeviceLaws.{IsDevice}
use Rattle.board_core.specs.Told.{Told, device_of}
use Rattle.erst_driver.specs.Operations.{actions_of, clear_steps, after_steps}
use Rattle.erst_driver.specs.Answers.{Clears, found_status, answer_of, answer_on_found}
use Rattle.erst_driver.specs.Steps.Operating.{StoreIn, ComesThrough}
use Rattle.erst_driver.proofs.OperationLemmas.{Carries, through_operation, store_after, answer_is}

without-empty : (id : ℕ) (rs : List Stored) → nat_eq (length rs) 0 ≡ true → rs ≡ without id rs
without-empty id [] is = refl
without-empty id (r ∷ rs) is = absurd (grind (arith, nat_tests, is))

-- the device before EXECUTE_OPERATION, and what the command does to it
abbrev begun : ℕ → Device → Device
begun id d = record d { command = Some Clear; value = id; id = id; action = set_record_identifier }

abbrev cleared : Bool → Bool → Device → Device
cleared empty held d =
    if empty then record d { status = StoreEmpty }
    else (if held then record d { store = without d.id d.store; cursor = 0; status = Success } else record d { status = NotFound })

abbrev carried : Bool → Bool → ℕ → Device → Device
carried empty held id d = record (busy_device (cleared empty held (begun id d))) { action = execute_operation }

record Cleared (id : ℕ) (d e : Device) (status : CommandStatus) : Type 0 where
  busy : e.busy ≡ d.slow
  status_is : e.status ≡ status
  store : e.store ≡ without id d.store

by_cases : (id : ℕ) (d : Device) (b c : Bool) → nat_eq (length d.store) 0 ≡ b → holds id d.store ≡ c
    → Cleared id d (carried b c id d) (if b then StoreEmpty else (if c then Success else NotFound))
by_cases id d true c empty held = record { busy = refl; status_is = refl; store = without-empty id d.store empty }
by_cases id d false true empty held = record { busy = refl; status_is = refl; store = refl }
by_cases id d false false empty held = record { busy = refl; status_is = refl; store = without-absent id d.store held }

is_carried : (id : ℕ) (d : Device) → after_steps (clear_steps id) d ≡ carried (nat_eq (length d.store) 0) (holds id d.store) id d
unfolding act after_steps
is_carried id d = refl

through_clear : (id : ℕ) (d : Device) (mid : List Stored) → ComesThrough (clear_steps id) d mid → (mid ≡ d.store) ⊎ (mid ≡ (after_steps (clear_steps id) d).store)
unfolding act after_steps ComesThrough
through_clear id d mid is =
    elim is [
      | inl here ↦ inl here
      | inr later ↦ elim later [ inl here ↦ inl here | inr later ↦ elim later [ inl here ↦ inl here | inr last ↦ inr last ] ]
    ]

pub clear_carries : (id : ℕ) (d : Device) → Carries (clear_steps id) d (found_status id d.store) (without id d.store)
clear_carries id d =
    let cases : Cleared id d (carried (nat_eq (length d.store) 0) (holds id d.store) id d) (found_status id d.store) = by_cases id d _ _ refl refl in
    let all : Cleared id d (after_steps (clear_steps id) d) (found_status id d.store) =
    subst (λ (e : Device). Cleared id d e (found_status id d.store)) (sym (is_carried id d)) cases in
    record {
      busy = all.busy;
      status_is = all.status_is;
      store_is = all.store;
      through = λ mid is. elim (through_clear id d mid is) [ inl here ↦ inl here | inr there ↦ inr (there ∙ all.store) ];
    }

-- ---- what is said of a clear

pub clear_answers : (id : ℕ) (d : Device) → answer_of (clear_steps id) d ≡ answer_on_found id d
clear_answers id d = answer_is (clear_steps id) d (found_status id d.store) (without id d.store) (clear_carries id d)

pub clear_store : (id : ℕ) (d : Device) → (after_steps (actions_of (clear_steps id) d) d).store ≡ without id d.store
clear_store id d = store_after (clear_steps id) d (found_status id d.store) (without id d.store) (clear_carries id d)

pub clear_stops : (id : ℕ) (told : Option Told) (old new : List Stored) → IfSome told (λ t. IsDevice (device_of t)) → ((t : Told) → told ≡ Some t → old ≡ t.here.store)
    → StoreIn (actions_of (clear_steps id)) told old new → Clears id told old new
clear_stops id None old new device law is = tt
clear_stops id (Some t) old new device law is = elim (is device) [
  | inl same ↦ inl same
  | inr through ↦
      elim (through_operation (clear_steps id) (device_of t) (found_status id t.here.store) (without id t.here.store) (clear_carries id (device_of t)) new through) [
        | inl before ↦ inl (before ∙ sym (law t refl))
        | inr after ↦ inr (after ∙ ap (without id) (sym (law t refl)))
      ]
]
