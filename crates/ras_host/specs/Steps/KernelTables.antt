-- Tables for the kernel under the process: the names' numbers, and the errors.
use Rattle.std.specs.Prelude.{ℕ, List, codes, Option, None, Result, Ok, Err}
use Rattle.std.specs.declared.io.ErrorKind.{ErrorKind}
use Rattle.std.specs.declared.io.ErrorKind.TheVariants as kinds
use Rattle.board_core.specs.declared.board.FileNo.TheVariants.{Zero, One}
use Rattle.host_system.specs.declared.kernel.FoundFile.{FoundFile}
use Rattle.host_system.specs.declared.kernel.Place.{Place}
use Rattle.host_system.specs.declared.kernel.Place.TheVariants.{Name, Left, Output, Process}
use Rattle.host_system.specs.declared.kernel.Refusal.{Refusal}
use Rattle.host_system.specs.declared.kernel.Refusal.TheVariants.{Exists, NotPermitted, Unsupported, Interrupted, Other}
use Rattle.host_system.specs.declared.system.FileName.{FileName}
use Rattle.host_system.specs.declared.system.FileName.TheVariants.{Journal, Store, New}

-- the index of the file that is kept as this name's
abbrev pub name_number : FileName → ℕ
name_number (Journal Zero) = 0
name_number (Journal One) = 1
name_number Store = 2
name_number New = 3

abbrev pub name_text : FileName → List ℕ
name_text (Journal Zero) = codes "rasd.0"
name_text (Journal One) = codes "rasd.1"
name_text Store = codes "rasd.store"
name_text New = codes "rasd.new"

abbrev pub place_text : Place → List ℕ
place_text (Name name) = name_text name
place_text Left = codes "rasd.left"
place_text Output = codes "/proc/self/fd/1"
place_text Process = codes "/proc/self"

-- The library's error kinds that clauses distinguish; every other kind is `Other`.
abbrev pub refusal_of : ErrorKind → Refusal
refusal_of kinds.AlreadyExists = Exists
refusal_of kinds.PermissionDenied = NotPermitted
refusal_of kinds.InvalidInput = Unsupported
refusal_of kinds.Interrupted = Interrupted
refusal_of kind = Other

-- what an error of looking up a name means
abbrev pub nothing_found : ErrorKind → Result (Option FoundFile) Refusal
nothing_found kinds.NotFound = Ok None
nothing_found kind = Err (refusal_of kind)
