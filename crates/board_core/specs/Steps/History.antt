-- What the fields of a board in memory mean.
use Rattle.std.specs.Prelude.{◌≡◌, ℕ, List, map, Option, None, Some, Vec}
use Rattle.std.specs.declared.alloc.Global.{Global}
use Rattle.erst_store.specs.Device.{Device, volatile_of}
use Rattle.board_core.specs.declared.board.DiskCall.TheVariants.{Sync}
use Rattle.board_core.specs.declared.history.MemChange.{MemChange}
use Rattle.board_core.specs.declared.history.MemChange.TheVariants.{Wrote, Synced, WroteRegister, WroteRange, Put, Printed}
use Rattle.board_core.specs.declared.history.MemFile.{MemFile}
use Rattle.board_core.specs.Doing.{Act, writes, prints, calls, device, reg_write, range_write, put}
use Rattle.board_core.specs.Told.{Told}

abbrev pub act_of : MemChange → Act
act_of (Wrote file place bytes) = writes file place bytes.items
act_of (Synced file) = calls (Sync file)
act_of (WroteRegister reg value) = device (reg_write reg value)
act_of (WroteRange place bytes) = device (range_write place bytes.items)
act_of (Put id bytes) = device (put id bytes.items)
act_of (Printed piece) = prints piece.items

abbrev pub acts_of : List MemChange → List Act
acts_of events = map act_of events

-- The model has these files, this device and this text.
abbrev pub Has : Told → List ℕ → List ℕ → Device → List ℕ → Type 0
Has t file0 file1 d out =
    (t.here ≡ record { file0 = file0; file1 = file1; store = d.store; out = out }) × (t.volatile ≡ volatile_of d)

-- the first bytes of a file: recorded once something was written, and before that its present bytes
abbrev pub began_with : Option (Vec ℕ Global) → List ℕ → List ℕ
began_with None bytes = bytes
began_with (Some first) bytes = first.items

abbrev pub first_bytes : MemFile → List ℕ
first_bytes file = began_with file.first file.bytes.items
