-- What a system in memory stores of an earlier moment.
use Rattle.std.specs.Prelude.{◌≡◌, ℕ, List}
use Rattle.mem_system.specs.declared.mem_files.MemFiles.{MemFiles}
use Rattle.mem_system.specs.declared.mem_system.Kept.{Kept}
use Rattle.mem_system.specs.declared.mem_system.Kept.TheVariants.{Nothing, Folder as AFolder, NoMemory}
use Rattle.host_system.specs.Folder.{Stopped, MayLeaveFolder, settled_folder}
use Rattle.host_system.specs.FolderPast.{FolderPast, MayLeaveFolderSince}
use Rattle.mem_system.specs.Steps.MemFiles.{Uses, held_in, AreHeld}

-- These files and this output are stored, if anything is.
abbrev pub IsCopied : MemFiles → List ℕ → Kept → Type 0
IsCopied files out Nothing = Unit {0}
IsCopied files out (AFolder kept text) = (uses : Uses) → held_in kept text.items uses ≡ held_in files out uses
IsCopied files out NoMemory = Unit {0}

-- What a crash leaves of the stored files, a crash at some moment of the past left.
abbrev pub IsOfPast : FolderPast → Kept → Type 0
IsOfPast past Nothing = Unit {0}
IsOfPast past (AFolder kept text) = (uses : Uses) (left : Stopped) → MayLeaveFolder (held_in kept text.items uses) left → MayLeaveFolderSince (settled_folder past.first) past.changes 0 left
IsOfPast past NoMemory = Unit {0}

pub record Holds (past : FolderPast) (files : MemFiles) (out : List ℕ) (kept : Kept) : Type 0 where
  pub held : AreHeld past files out
  pub before : IsOfPast past kept
