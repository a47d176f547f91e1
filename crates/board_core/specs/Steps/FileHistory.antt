-- What became of one file by the changes of a board in memory.
use Rattle.std.specs.Prelude.{◌≡◌, ℕ, List, [], ◌∷◌, length}
use Rattle.std.specs.List.{flat_map}
use Rattle.board_core.specs.declared.board.FileNo.{FileNo}
use Rattle.board_core.specs.declared.board.FileNo.TheVariants.{Zero, One}
use Rattle.board_core.specs.declared.history.MemChange.{MemChange}
use Rattle.board_core.specs.declared.history.MemChange.TheVariants.{Wrote, Synced}
use Rattle.board_core.specs.DiskModel.{settled_file, Range, DiskFile, with_range}
use Rattle.board_core.specs.Told.{overlay}

-- the file's bytes after a change
abbrev pub bytes_after : FileNo → MemChange → List ℕ → List ℕ
bytes_after Zero (Wrote Zero place new) bytes = overlay place new.items bytes
bytes_after One (Wrote One place new) bytes = overlay place new.items bytes
bytes_after file change bytes = bytes

abbrev pub bytes_after_all : FileNo → List MemChange → List ℕ → List ℕ
bytes_after_all file [] bytes = bytes
bytes_after_all file (change ∷ changes) bytes = bytes_after_all file changes (bytes_after file change bytes)

-- what the disk has of the file after a change, if the file has these bytes before it
abbrev pub disk_after : FileNo → MemChange → List ℕ → DiskFile → DiskFile
disk_after Zero (Wrote Zero place new) bytes file = with_range place (length new.items) file
disk_after One (Wrote One place new) bytes file = with_range place (length new.items) file
disk_after Zero (Synced Zero) bytes file = settled_file bytes
disk_after One (Synced One) bytes file = settled_file bytes
disk_after number change bytes file = file

abbrev pub disk_after_all : FileNo → List MemChange → List ℕ → DiskFile → DiskFile
disk_after_all number [] bytes file = file
disk_after_all number (change ∷ changes) bytes file = disk_after_all number changes (bytes_after number change bytes) (disk_after number change bytes file)

-- the ranges that a change wrote
abbrev pub range_of : FileNo → MemChange → List Range
range_of Zero (Wrote Zero place new) = record { place = place; count = length new.items } ∷ []
range_of One (Wrote One place new) = record { place = place; count = length new.items } ∷ []
range_of file change = []

abbrev pub ranges_of : FileNo → List MemChange → List Range
ranges_of file changes = flat_map (range_of file) changes

-- The first of these changes lead to the last sync of the file, and the rest come after it.
abbrev pub ArePartedAtSync : FileNo → List MemChange → List MemChange → List MemChange → Type 0
ArePartedAtSync number first rest all = (bytes : List ℕ)
    → disk_after_all number all bytes (settled_file bytes) ≡ record { synced = bytes_after_all number first bytes; written = ranges_of number rest }
