-- The clauses of `System` for a call of a system in memory.
use Rattle.std.proofs.Common.{◌≡◌, ℕ, [], List, take, drop, refl, ap, sym, subst, append-nil, inl, inr}
use Rattle.std.specs.Prelude.{Option, None, Some, Result, Ok, Err, OnErr, ◌⊎◌}
use Rattle.std.proofs.lemmas.List.{take-append-drop}
use Rattle.board_core.specs.declared.source.Failed.{Failed}
use Rattle.board_core.specs.MemSource.{next_count}
use Rattle.host_system.specs.declared.kernel.Refusal.{Refusal}
use Rattle.host_system.specs.Folder.{printed}
use Rattle.host_system.specs.FolderPast.{FolderPast, MayPrint, changed_by}
use Rattle.mem_system.specs.MemKernel.{Serves}
use Rattle.mem_system.specs.SystemCall.{SystemCall, to_find, to_open, to_make, to_lock, to_read, to_read_at, to_write_at, to_sync, to_sync_read, to_remove, to_rename, to_sync_names, to_print, Answer, failed, answer_in, change_by, with_any, did_or_failed}
use Rattle.mem_system.specs.MemSystem.{MemState, Work, nothing, everything, part, other, bytes_printed, answer_by, change_made, chosen_next, counted, failed_change, faulted_if, with_work, Performs}

-- A call succeeded as the folder says, or it failed.
abbrev Went : SystemCall → Answer → MemState → MemState → Type 0
Went call answer old new =
    ((answer ≡ answer_in call old.past) × (new ≡ counted (with_work (change_by call) old)))
    ⊎ ((answer ≡ failed) × ((work : Work) × ((new.past ≡ with_any (failed_change call work) old.past) × (new.faults ≡ next_count old.faults))))

went_by : (call : SystemCall) (choice : Option Work) (answer : Answer) (old new : MemState) → answer ≡ answer_by call choice old.past → new ≡ faulted_if choice (counted (with_work (change_made call choice) old)) → Went call answer old new
went_by call None answer old new says goes = inl (says, goes)
went_by call (Some work) answer old new says goes = inr (says, (work, (ap (λ (s : MemState). s.past) goes, ap (λ (s : MemState). s.faults) goes)))

went : (call : SystemCall) (answer : Answer) (old new : MemState) → Performs call answer old new → Went call answer old new
went call answer old new performs = elim performs.does [
  | inl done ↦ went_by call (chosen_next old) answer old new done.0 done.1
  | inr starved ↦ inr (starved.0, (nothing, (ap (λ (s : MemState). s.past) starved.1, ap (λ (s : MemState). s.faults) starved.1)))
]

never_failed : (call : SystemCall) (past : FolderPast) → failed ≡ answer_in call past → ⊥
never_failed (to_find name) past is = cc
never_failed (to_open name) past is = cc
never_failed (to_make name) past is = cc
never_failed (to_lock name) past is = cc
never_failed (to_read name most) past is = cc
never_failed (to_read_at name place count) past is = cc
never_failed (to_write_at name place bytes) past is = cc
never_failed (to_sync name) past is = cc
never_failed (to_sync_read file) past is = cc
never_failed (to_remove name) past is = cc
never_failed to_rename past is = cc
never_failed to_sync_names past is = cc
never_failed (to_print bytes) past is = cc

-- The past after a call that failed.
past_failed : (call : SystemCall) (old new : MemState) (Is : FolderPast → Type 0) → ((work : Work) → Is (with_any (failed_change call work) old.past)) → Performs call failed old new → Is new.past
past_failed call old new Is each performs = elim (went call failed old new performs) [
  | inl done ↦ absurd (never_failed call old.past done.0)
  | inr fails ↦ subst Is (sym fails.1.1.0) (each fails.1.0)
]

-- The model after a call that failed.
pub failed_told : (call : SystemCall) (result : Result (Unit {0}) Failed) (old new : MemState) (Is : FolderPast → Type 0) → ((work : Work) → Is (with_any (failed_change call work) old.past)) → Performs call (did_or_failed result) old new → OnErr result (Is new.past)
failed_told call (Ok d) old new Is each performs = tt
failed_told call (Err e) old new Is each performs = past_failed call old new Is each performs

-- The model after a failed call of a kernel in memory.
pub refused_told : (call : SystemCall) (result : Result (Unit {0}) Refusal) (old new : MemState) (Is : FolderPast → Type 0) → ((work : Work) → Is (with_any (failed_change call work) old.past)) → Serves call result old new → OnErr result (Is new.past)
refused_told call (Ok d) old new Is each serves = tt
refused_told call (Err why) old new Is each serves = past_failed call old new Is each serves.1

-- The part of a print that was printed.
pub may_print : (bytes : List ℕ) (work : Work) (old : FolderPast) → MayPrint bytes old (changed_by (printed (bytes_printed work bytes)) old)
may_print bytes nothing old = ([], bytes, refl, refl)
may_print bytes everything old = (bytes, [], append-nil bytes, refl)
may_print bytes (part most) old = (take most bytes, drop most bytes, take-append-drop most bytes, refl)
may_print bytes (other others) old = ([], bytes, refl, refl)
