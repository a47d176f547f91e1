-- The state of a system in memory: what it began with and what was done, noted as numbers and bytes; which of its
-- calls fail; and how often its calls have failed.
use Rattle.std.specs.Prelude.{◌≡◌, ℕ, zero, suc, ◌≤◌, ◌⊎◌, nat_eq, if◌then◌else◌, List, [], ◌∷◌, ◌++◌, length, take, Option, None, Some, Vec}
use Rattle.std.specs.Option.{option_map}
use Rattle.std.specs.declared.alloc.Global.{Global}
use Rattle.board_core.specs.declared.board.FileNo.TheVariants.{Zero, One}
use Rattle.board_core.specs.MemSource.{next_count}
use Rattle.mem_system.specs.declared.left_folder.LeftFolder.{LeftFolder}
use Rattle.mem_system.specs.declared.mem_system.Effect.{Effect}
use Rattle.mem_system.specs.declared.mem_system.Effect.TheVariants.{Nothing, All, Part}
use Rattle.mem_system.specs.SystemCall.{SystemCall, to_make, to_write_at, to_sync, to_sync_read, to_remove, to_rename, to_print, Answer, failed, answer_in, change_by, with_any}
use Rattle.host_system.specs.declared.system.FileName.{FileName}
use Rattle.host_system.specs.declared.system.FileName.TheVariants.{Journal, Store, New}
use Rattle.host_system.specs.Folder.{FolderChange, wrote, synced, made, opens, locks, loses, removed, renamed, synced_names, printed, Stopped}
use Rattle.host_system.specs.FolderPast.{FolderPast, changed_by}

-- the bytes of a file that may be missing
abbrev pub items_in : Option (Vec ℕ Global) → Option (List ℕ)
items_in bytes = option_map (λ v. v.items) bytes

-- the files of a crash image, as the specification has them
abbrev pub as_stopped : LeftFolder → Stopped
as_stopped left = record {
  zero = items_in left.zero;
  one = items_in left.one;
  store = items_in left.store;
  new = items_in left.fresh;
  out = left.out.items;
}

abbrev pub nothing_there : Stopped
nothing_there = record { zero = None; one = None; store = None; new = None; out = [] }

-- What a failing call has done: nothing, everything, this many bytes only, or a write of these bytes instead of those
-- asked for.
pub data Work : Type 0 where
  nothing : Work
  everything : Work
  part : ℕ → Work
  other : List ℕ → Work

abbrev pub work_of : Effect → Work
work_of Nothing = nothing
work_of All = everything
work_of (Part most) = part most

-- A call that was chosen to fail, by its number, and what it has done then.
pub record Choice : Type 0 where
  pub call : ℕ
  pub work : Work

-- What was done to the folder; the calls that were chosen to fail; how many calls were made, in how many of them
-- memory ran out, and how many failed.
pub record MemState : Type 0 where
  pub past : FolderPast
  pub fails : List Choice
  pub made : ℕ
  pub starved : ℕ
  pub faults : ℕ

abbrev pub with_change : FolderChange → MemState → MemState
with_change change s = record s { past = changed_by change s.past }

abbrev pub choosing : ℕ → Work → MemState → MemState
choosing call work s = record s { fails = s.fails ++ record { call = call; work = work } ∷ [] }

abbrev pub with_work : Option FolderChange → MemState → MemState
with_work change s = record s { past = with_any change s.past }

-- a system that begins over these files, with nothing printed, no choices and no faults
abbrev pub begun_over : Stopped → MemState
begun_over start = record { past = record { first = record start { out = [] }; changes = [] }; fails = []; made = 0; starved = 0; faults = 0 }

-- ---- a call

-- what was chosen for the call with this number, the first choice if there are several
abbrev pub chosen_at : ℕ → List Choice → Option Work
chosen_at call [] = None
chosen_at call (choice ∷ fails) = if nat_eq choice.call call then Some choice.work else chosen_at call fails

-- what was chosen for the next call
abbrev pub chosen_next : MemState → Option Work
chosen_next s = chosen_at (next_count s.made) s.fails

-- a change that is made in full or not at all
abbrev pub if_everything : Work → FolderChange → Option FolderChange
if_everything everything change = Some change
if_everything work change = None

-- the bytes that arrive of a write, if any
abbrev pub bytes_written : Work → List ℕ → Option (List ℕ)
bytes_written nothing bytes = None
bytes_written everything bytes = Some bytes
bytes_written (part most) bytes = Some (take most bytes)
bytes_written (other others) bytes = Some (take (length bytes) others)

-- the bytes that are printed
abbrev pub bytes_printed : Work → List ℕ → List ℕ
bytes_printed everything bytes = bytes
bytes_printed (part most) bytes = take most bytes
bytes_printed work bytes = []

-- The change of a call that fails. A failing sync of a file loses the file, whatever was chosen.
abbrev pub failed_change : SystemCall → Work → Option FolderChange
failed_change (to_make name) work = if_everything work (made name)
failed_change (to_write_at name place bytes) work = option_map (wrote name place (length bytes)) (bytes_written work bytes)
failed_change (to_sync name) work = Some (loses name)
failed_change (to_sync_read file) work = Some (loses (Journal file))
failed_change (to_remove name) work = if_everything work (removed name)
failed_change to_rename work = if_everything work renamed
failed_change (to_print bytes) work = Some (printed (bytes_printed work bytes))
failed_change call work = None

-- the change of a call, by what was chosen for it
abbrev pub change_made : SystemCall → Option Work → Option FolderChange
change_made call None = change_by call
change_made call (Some work) = failed_change call work

abbrev pub counted : MemState → MemState
counted s = record s { made = next_count s.made }

abbrev pub faulted : MemState → MemState
faulted s = record s { faults = next_count s.faults }

-- Memory ran out in a call.
abbrev pub starving : MemState → MemState
starving s = record (faulted s) { starved = next_count s.starved }

abbrev pub faulted_if : {T : Type 0} → Option T → MemState → MemState
faulted_if None s = s
faulted_if (Some work) s = faulted s

-- The result of a call: the folder's, or `failed` if the call was chosen.
abbrev pub answer_by : SystemCall → Option Work → FolderPast → Answer
answer_by call None past = answer_in call past
answer_by call (Some work) past = failed

abbrev pub answer_of : SystemCall → MemState → Answer
answer_of call s = answer_by call (chosen_next s) s.past

-- the state after a call for which there was memory
abbrev pub after_call : SystemCall → MemState → MemState
after_call call s = faulted_if (chosen_next s) (counted (with_work (change_made call (chosen_next s)) s))

-- the state after a call for which memory ran out: it failed and has done nothing
abbrev pub starved_by : SystemCall → MemState → MemState
starved_by call s = starving (counted (with_work (failed_change call nothing) s))

-- A call was made, and had this result.
pub record Performs (call : SystemCall) (answer : Answer) (old new : MemState) : Type 0 where
  -- There was memory for it, so it failed if and only if it was chosen to, or it failed and `starved` rose.
  pub does : ((answer ≡ answer_of call old) × (new ≡ after_call call old)) ⊎ ((answer ≡ failed) × (new ≡ starved_by call old))
  -- The count of faults, which doesn't rise above 2^64 - 1, never falls.
  pub later : old.faults ≤ new.faults

-- ---- what was done, as numbers and bytes

-- the item of a list with this index, or `last` if the list has no such item
abbrev pub nth_or : {T : Type 0} → T → ℕ → List T → T
nth_or last n [] = last
nth_or last zero (x ∷ xs) = x
nth_or last (suc n) (x ∷ xs) = nth_or last n xs

-- the name with a number
abbrev pub name_numbered : ℕ → FileName
name_numbered n = nth_or New n (Journal Zero ∷ Journal One ∷ Store ∷ [])

-- the change with a number, a name, an offset, a count and bytes
abbrev pub change_numbered : ℕ → FileName → ℕ → ℕ → List ℕ → FolderChange
change_numbered n name place count bytes =
    nth_or (printed bytes) n (wrote name place count bytes ∷ synced name ∷ made name ∷ opens name ∷ locks name ∷ loses name ∷ removed name ∷ renamed ∷ synced_names ∷ [])

abbrev pub change_noted : List ℕ → List ℕ → FolderChange
change_noted (n ∷ name ∷ place ∷ count ∷ []) bytes = change_numbered n (name_numbered name) place count bytes
change_noted numbers bytes = printed bytes

abbrev pub changes_noted : List (List ℕ × List ℕ) → List FolderChange
changes_noted [] = []
changes_noted (call ∷ calls) = change_noted call.0 call.1 ∷ changes_noted calls

-- what was done to a folder that began with these files
abbrev pub past_noted : Stopped → List (List ℕ × List ℕ) → FolderPast
past_noted first calls = record { first = first; changes = changes_noted calls }
