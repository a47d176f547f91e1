-- Why a call is refused although no call of the kernel failed.
use Rattle.std.specs.Prelude.{◌≡◌, ◌≢◌, ℕ, ◌≤◌, ◌⊎◌, Option, None, Some, IfSome}
use Rattle.host_system.specs.declared.kernel.FileKind.TheVariants.{Regular}
use Rattle.host_system.specs.declared.kernel.FoundFile.{FoundFile}

-- Both files exist, and are one file.
abbrev pub AreOneFile : Option FoundFile → Option FoundFile → Type 0
AreOneFile (Some one) (Some other) = (one.device ≡ other.device) × (one.inode ≡ other.inode)
AreOneFile one other = ⊥

-- An open file isn't the file that was found by its name, or isn't a regular file.
abbrev pub Moved : Option FoundFile → FoundFile → Type 0
Moved found held = (held.kind ≢ Regular) ⊎ (AreOneFile found (Some held) → ⊥)

-- A name refers to the file that was locked, and the file isn't shorter than this.
pub record IsStill (found : Option FoundFile) (locked : FoundFile) (place : ℕ) : Type 0 where
  pub same : AreOneFile found (Some locked)
  pub long : IfSome found (λ f. place ≤ f.length)

-- The process's user owns a file.
abbrev pub IsOwnedBy : FoundFile → Option FoundFile → Type 0
IsOwnedBy file None = ⊥
IsOwnedBy file (Some process) = file.user ≡ process.user
