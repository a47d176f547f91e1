-- Which journal files are known to be long.
use Rattle.std.specs.Prelude.{◌≡◌, ◌<◌, Bool, true, false, length, Option, IfSome}
use Rattle.board_core.specs.declared.board.FileNo.TheVariants.{Zero, One}
use Rattle.host_system.specs.declared.kernel.TheConstants.{INLINE_LENGTH}
use Rattle.host_system.specs.declared.system.FileName.{FileName}
use Rattle.host_system.specs.declared.system.FileName.TheVariants.{Journal, Store, New}
use Rattle.host_system.specs.FolderPast.{FolderPast, file_bytes}
use Rattle.ras_host.specs.declared.long_files.LongFiles.{LongFiles}

-- Whether a name's file is known to be longer than `INLINE_LENGTH`.
abbrev pub known_long : FileName → LongFiles → Bool
known_long (Journal Zero) long = long.zero
known_long (Journal One) long = long.one
known_long Store long = false
known_long New long = false

-- The long files, after it became known or unknown whether this name's file is long.
abbrev pub with_known : FileName → Bool → LongFiles → LongFiles
with_known (Journal Zero) known long = record long { zero = known }
with_known (Journal One) known long = record long { one = known }
with_known Store known long = long
with_known New known long = long

abbrev pub IsLong : FileName → FolderPast → Type 0
IsLong name past = INLINE_LENGTH < length (file_bytes name past)

-- If the file was found to be long, it is long.
abbrev pub IsFoundLong : FileName → Option FolderPast → Bool → Type 0
IsFoundLong name told found = found ≡ true → IfSome told (IsLong name)

-- Each file that is known to be long is long.
abbrev pub AreLong : LongFiles → FolderPast → Type 0
AreLong long past = (name : FileName) → known_long name long ≡ true → IsLong name past
