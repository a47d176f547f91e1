-- When a call may fail: only if the count of its kind of fault rose.
use Rattle.std.specs.Prelude.{◌≡◌, ℕ, ◌+◌, ◌-◌, ◌^◌, ◌≤◌, min, Result, Ok, Err, OnOk, OnErr}
use Rattle.board_core.specs.declared.board.BoardPut.{BoardPut}
use Rattle.board_core.specs.declared.board.BoardPut.TheVariants.{Refused, Failed}

-- A count is greater by exactly one than it was before: one call failed, and no other. A count doesn't rise above 2^64
-- - 1.
abbrev pub Rose : ℕ → ℕ → Type 0
Rose before now = now ≡ min (before + 1) (2 ^ 64 - 1)

-- A count rose by one if the call failed, and is unchanged if it didn't.
pub record HasCause {T E : Type 0} (before now : ℕ) (result : Result T E) : Type 0 where
  pub later : before ≤ now
  pub failed : OnErr result (Rose before now)
  pub same : OnOk result (now ≡ before)

-- How many calls of a board have failed: disk calls; register, range and put calls; prints.
pub record Faults : Type 0 where
  pub disk : ℕ
  pub registers : ℕ
  pub prints : ℕ

-- the three kinds of fault
pub data Kind : Type 0 where
  disk_call : Kind
  device_call : Kind
  print_call : Kind

abbrev pub count_of : Kind → Faults → ℕ
count_of disk_call faults = faults.disk
count_of device_call faults = faults.registers
count_of print_call faults = faults.prints

abbrev pub with_count : Kind → ℕ → Faults → Faults
with_count disk_call n faults = record faults { disk = n }
with_count device_call n faults = record faults { registers = n }
with_count print_call n faults = record faults { prints = n }

-- The count of the call's kind rose if and only if the call failed, and the two other counts are unchanged.
pub record FailsAs {T E : Type 0} (kind : Kind) (old new : Faults) (result : Result T E) : Type 0 where
  pub own : HasCause (count_of kind old) (count_of kind new) result
  pub others : new ≡ with_count kind (count_of kind new) old

-- A put that the store refuses counts as a call that succeeded.
abbrev pub put_failure : {T : Type 0} → Result T BoardPut → Result (Unit {0}) BoardPut
put_failure (Ok done) = Ok tt
put_failure (Err (Refused cause)) = Ok tt
put_failure (Err Failed) = Err Failed
