-- Why a call of a board over a system failed: a call of the system failed, this time or before, or the board had its
-- own reason.
use Rattle.std.specs.Prelude.{◌≡◌, ℕ, ◌+◌, ◌-◌, ◌^◌, ◌<◌, ◌⊎◌, IsTrue, Result, OnErr, OnOk}
use Rattle.board_core.specs.Cause.{Faults, HasCause}
use Rattle.ras_host.specs.Steps.Failures.{system_failure}
use Rattle.ras_host.specs.declared.faults.CallFailed.{CallFailed}
use Rattle.ras_host.specs.declared.journal.JournalFiles.{JournalFiles}
use Rattle.ras_host.specs.declared.journal.JournalFiles.TheVariants.{Shut, Open, Unread, Seen}
use Rattle.ras_host.specs.declared.kept.Kept.{Kept}
use Rattle.ras_host.specs.declared.kept.Kept.TheVariants.{Lost}

-- The files are a report's.
abbrev pub AreReports : JournalFiles → Type 0
AreReports Shut = ⊥
AreReports (Open sound) = ⊥
AreReports Unread = Unit {0}
AreReports (Seen files sound) = Unit {0}

-- Both files were opened or read.
abbrev pub AreUsed : JournalFiles → Type 0
AreUsed Shut = ⊥
AreUsed (Open sound) = Unit {0}
AreUsed Unread = ⊥
AreUsed (Seen files sound) = Unit {0}

-- If a file of a run isn't sound, a call of the system failed.
abbrev pub AreBlamed : JournalFiles → ℕ → Type 0
AreBlamed (Open sound) count = (IsTrue sound.zero × IsTrue sound.one) ⊎ (0 < count)
AreBlamed files count = Unit {0}

-- Both files are sound, if they were opened or read.
abbrev pub AreAllSound : JournalFiles → Type 0
AreAllSound Shut = Unit {0}
AreAllSound (Open sound) = IsTrue sound.zero × IsTrue sound.one
AreAllSound Unread = Unit {0}
AreAllSound (Seen files sound) = IsTrue sound.zero × IsTrue sound.one

-- A run's call on its files fails only if a call of the system failed, this time or before. A run's files stay a
-- run's, and a report's a report's. They stay sound unless the call fails.
pub record FilesCause {T : Type 0} (old new : JournalFiles) (before now : ℕ) (result : Result T CallFailed) : Type 0 where
  pub counts : HasCause before now (system_failure result)
  pub cause : OnErr result (AreReports new ⊎ (0 < now))
  pub stays : AreReports old → AreReports new
  pub comes : AreReports new → AreReports old
  pub sound : OnOk result (AreAllSound old → AreAllSound new)

-- A change of the device may not have reached the store's file.
abbrev pub IsLost : Kept → Type 0
IsLost (Lost before after) = Unit {0}
IsLost kept = ⊥

-- This many calls of a board failed. If they are fewer than 2^64 - 1, they are the failed calls of its system and the
-- refusals.
abbrev pub AreCounted : ℕ → ℕ → ℕ → Type 0
AreCounted failed count refused = failed < 2 ^ 64 - 1 → count + refused ≡ failed

-- How many calls of a board have failed, by how many calls of its system have failed and how many calls the board
-- refused. No call had failed when the board was new.
pub record AreCaused (how : ℕ) (files : JournalFiles) (kept : Kept) (faults : Faults) (count refused : ℕ) : Type 0 where
  -- In each failed call of the board, one call of the system failed, or the board refused the call.
  pub each : AreCounted (faults.disk + (faults.registers + faults.prints)) count refused
  pub blamed : AreBlamed files count
  pub run : how ≡ 1 → AreReports files → ⊥
  pub report : how ≡ 0 → AreReports files
  -- If a file isn't sound, a disk call failed.
  pub sound : faults.disk ≡ 0 → AreAllSound files
  -- A run's disk call fails only if a call of the system failed, or a call of the device before.
  pub disk : how ≡ 1 → (faults.disk ≡ 0) ⊎ (0 < count + faults.registers)
  -- A print fails only if the system's print failed.
  pub print : (faults.prints ≡ 0) ⊎ (0 < count)
  pub lost : IsLost kept → 0 < faults.registers
