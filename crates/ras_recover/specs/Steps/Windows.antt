-- The window: the piece of a journal file that is in memory while the file is read.
use Rattle.std.specs.Prelude.{◌≡◌, ℕ, ◌+◌, ◌≤◌, ◌<◌, ◌⊎◌, min, List, length, take, drop, Option, None, Some, Result, Ok, Err, IfSome, true, false}
use Rattle.board_core.specs.Cause.{disk_call}
use Rattle.board_core.specs.Doing.{Ended, broke, ended_by, gave_up}
use Rattle.board_core.specs.Told.{Told, file_of}
use Rattle.ras_journal.specs.declared.limits.TheConstants.{LONGEST_FILE}
use Rattle.ras_journal.specs.Fields.{field, number_of, is_open_of, version_of}
use Rattle.ras_journal.specs.File.{FileFront, has_open_gate, first_front}
use Rattle.entry_format.specs.declared.version.Version.{Version}
use Rattle.ras_recover.specs.declared.place.ReadRefused.{ReadRefused}
use Rattle.ras_recover.specs.declared.place.ReadRefused.TheVariants.{Disk, Damaged, NoMemory}
use Rattle.ras_recover.specs.declared.window.SizedFile.{SizedFile}
use Rattle.ras_recover.specs.declared.window.Window.{Window}

-- the offset after the window
abbrev pub end_of : Window → ℕ
end_of window = window.start + length window.bytes.items

-- An offset lies in the window or at its end, and the window within the file, which isn't too long.
pub record Spans (file : SizedFile) (place : ℕ) (window : Window) : Type 0 where
  pub from : window.start ≤ place
  pub upto : place ≤ end_of window
  pub within : end_of window ≤ file.size
  pub short : file.size ≤ LONGEST_FILE

-- The window contains the bytes that a file of these bytes has there.
pub record IsWindowOf (file : SizedFile) (window : Window) (bytes : List ℕ) : Type 0 where
  pub size : file.size ≡ length bytes
  pub held : window.bytes.items ≡ take (length window.bytes.items) (drop window.start bytes)

-- If the board is modelled, the window contains the bytes of the board's file.
abbrev pub Sees : SizedFile → Option Told → Window → Type 0
Sees file told window = IfSome told (λ t. IsWindowOf file window (file_of file.no t))

-- A window spans an offset of a file, and contains the file's bytes.
pub record Covers (file : SizedFile) (place : ℕ) (told : Option Told) (window : Window) : Type 0 where
  pub spans : Spans file place window
  pub sees : Sees file told window

-- This view of what the file contains is returned, or the offset of the damage, unless a disk call failed or memory
-- ran out.
abbrev pub IsAnswer : {T A : Type 0} → (T → A) → Result T ReadRefused → Result A ℕ → Type 0
IsAnswer view (Ok x) read = read ≡ Ok (view x)
IsAnswer view (Err (Damaged place)) read = read ≡ Err place
IsAnswer view (Err Disk) read = Unit {0}
IsAnswer view (Err NoMemory) read = Unit {0}

-- A disk call failed or memory ran out.
abbrev pub IsNoDamage : ReadRefused → Type 0
IsNoDamage Disk = Unit {0}
IsNoDamage (Damaged place) = ⊥
IsNoDamage NoMemory = Unit {0}

-- The file is valid, and this is its front up to its first gate; or it isn't valid.
abbrev pub IsBegun : Option ℕ → List ℕ → Option FileFront → Type 0
IsBegun taken bytes None = has_open_gate bytes ≡ false
IsBegun taken bytes (Some front) = (has_open_gate bytes ≡ true) × (first_front taken bytes ≡ Ok front)

-- The file is valid, and damaged here before its first gate.
abbrev pub IsBroken : Option ℕ → List ℕ → ReadRefused → Type 0
IsBroken taken bytes Disk = Unit {0}
IsBroken taken bytes (Damaged place) = (has_open_gate bytes ≡ true) × (first_front taken bytes ≡ Err place)
IsBroken taken bytes NoMemory = Unit {0}

-- A failed disk call is a fault; before any other refusal no call failed.
abbrev pub read_refused_end : ReadRefused → Ended
read_refused_end Disk = broke disk_call
read_refused_end (Damaged place) = gave_up
read_refused_end NoMemory = gave_up

-- how reading a file ended
abbrev pub read_end : {T : Type 0} → Result T ReadRefused → Ended
read_end result = ended_by read_refused_end result

-- ---- how many bytes suffice

-- The window has a whole field of n bytes, or the file's end cuts the field.
abbrev pub IsHeld : ℕ → ℕ → List ℕ → Type 0
IsHeld count held bytes = (count ≤ held) ⊎ (length bytes < count)

-- This many bytes after a gate suffice for its link.
pub record LinkHeld (held : ℕ) (bytes : List ℕ) : Type 0 where
  pub gate : min 5 (length bytes) ≤ held
  pub payload : (count : ℕ) → field is_open_of 0 1 bytes ≡ Ok true → field (number_of 4) 1 4 bytes ≡ Ok count → IsHeld (5 + count) held bytes

-- This many of a file's bytes suffice for its checkpoint.
pub record FrontHeld (held : ℕ) (bytes : List ℕ) : Type 0 where
  pub fields : min 25 (length bytes) ≤ held
  pub checkpoint : (count : ℕ) (version : Version) → has_open_gate bytes ≡ true → field version_of 1 8 bytes ≡ Ok version → field (number_of 8) 17 8 bytes ≡ Ok count → IsHeld (25 + count) held bytes
