-- The disk model: what a crash may leave of files, record store and printed text, by the calls that were made.
use Rattle.std.specs.Prelude.{◌≡◌, ℕ, zero, suc, ◌+◌, ◌<◌, ◌≤◌, ◌⊎◌, max, List, [], ◌∷◌, ◌++◌, length, slice_index}
use Rattle.erst_store.specs.Store.{Stored}
use Rattle.board_core.specs.declared.board.FileNo.{FileNo}
use Rattle.board_core.specs.declared.board.FileNo.TheVariants.{Zero, One}
use Rattle.board_core.specs.Clock.{Clock}
use Rattle.board_core.specs.Stop.{Left, Begins, Becomes}

-- a range of a file: the offset of its first byte, and how many bytes it has
pub record Range : Type 0 where
  pub place : ℕ
  pub count : ℕ

-- An offset is in none of these ranges.
abbrev pub IsOutside : List Range → ℕ → Type 0
IsOutside [] place = Unit {0}
IsOutside (range ∷ ranges) place = ((place < range.place) ⊎ (range.place + range.count ≤ place)) × IsOutside ranges place

-- the length that writes of these ranges give a file of this length
abbrev pub greatest_length : ℕ → List Range → ℕ
greatest_length size [] = size
greatest_length size (range ∷ ranges) = greatest_length (max size (range.place + range.count)) ranges

-- a file on the disk: its bytes as of its last sync, and the ranges that were written since
pub record DiskFile : Type 0 where
  pub synced : List ℕ
  pub written : List Range

-- a file whose bytes are all on the disk
abbrev pub settled_file : List ℕ → DiskFile
settled_file bytes = record { synced = bytes; written = [] }

-- What a crash may leave of a file: any bytes in written ranges and past the old end, all other bytes unchanged, and a
-- length between the old one and the new one.
pub record MayLeaveFile (file : DiskFile) (bytes : List ℕ) : Type 0 where
  pub stays : (k : ℕ) → k < length file.synced → IsOutside file.written k → slice_index bytes k ≡ slice_index file.synced k
  pub no_shorter : length file.synced ≤ length bytes
  pub no_longer : length bytes ≤ greatest_length (length file.synced) file.written

-- both files on the disk, the record store, and what earlier prints appended
pub record Disk : Type 0 where
  pub zero : DiskFile
  pub one : DiskFile
  pub store : List Stored
  pub out : List ℕ

-- A call as the disk sees it. A write has its file, offset and length, whether it succeeded or not. A sync that
-- succeeded has the file's bytes as a read then returns them. A call of the device has the store that it would make
-- and the store after it, which are equal if the call succeeded. A print has its piece and the part of it that was
-- appended, which is all of it if the print succeeded. Any other call has nothing.
pub data Call : Type 0 where
  writes : FileNo → ℕ → ℕ → Call
  syncs : FileNo → List ℕ → Call
  stores : List Stored → List Stored → Call
  prints : List ℕ → List ℕ → Call
  rests : Call

-- what a call prints, and the store that it would make
abbrev pub piece_of : Call → List ℕ
piece_of (prints piece part) = piece
piece_of call = []

-- The store that a call would make. Only a call of the device changes the store.
abbrev pub store_made : Call → List Stored → List Stored
store_made (stores made store) old = made
store_made call old = old

-- What a crash may leave during this call, or between calls if it is `rests`: each file as the disk may leave it; the
-- store as before the call or as after it, never between; and the text that earlier prints appended, followed by a
-- beginning of the piece.
pub record MayLeave (disk : Disk) (call : Call) (left : Left) : Type 0 where
  pub zero : MayLeaveFile disk.zero left.file0
  pub one : MayLeaveFile disk.one left.file1
  pub store : Becomes (store_made call disk.store) disk.store left.store
  pub out : Begins (piece_of call) disk.out left.out

abbrev pub disk_file : FileNo → Disk → DiskFile
disk_file Zero disk = disk.zero
disk_file One disk = disk.one

abbrev pub with_disk_file : FileNo → DiskFile → Disk → Disk
with_disk_file Zero file disk = record disk { zero = file }
with_disk_file One file disk = record disk { one = file }

-- a file with one more range that was written
abbrev pub with_range : ℕ → ℕ → DiskFile → DiskFile
with_range place count file = record file { written = file.written ++ record { place = place; count = count } ∷ [] }

-- the disk after a call
abbrev pub after : Call → Disk → Disk
after (writes file place count) disk = with_disk_file file (with_range place count (disk_file file disk)) disk
after (syncs file bytes) disk = with_disk_file file (settled_file bytes) disk
after (stores made store) disk = record disk { store = store }
after (prints piece part) disk = record disk { out = disk.out ++ part }
after rests disk = disk

abbrev pub after_all : List Call → Disk → Disk
after_all [] disk = disk
after_all (call ∷ calls) disk = after_all calls (after call disk)

-- What a crash may leave once the first n of these calls are made: before a later call, during it, or after the last.
abbrev pub MayLeaveSince : Disk → List Call → ℕ → Left → Type 0
MayLeaveSince disk [] zero left = MayLeave disk rests left
MayLeaveSince disk [] (suc t) left = ⊥
MayLeaveSince disk (call ∷ calls) zero left = MayLeave disk call left ⊎ MayLeaveSince (after call disk) calls zero left
MayLeaveSince disk (call ∷ calls) (suc t) left = MayLeaveSince (after call disk) calls t left

-- the clock of these calls: their number, and what a crash may leave
abbrev pub disk_clock : Disk → List Call → Clock
disk_clock disk calls = record { now = length calls; may_leave_since = MayLeaveSince disk calls }
