-- How a board leaves the folder that it found, after any calls.
use Rattle.std.specs.Prelude.{◌≡◌, ℕ, Option, IfSome, IsSomeAnd}
use Rattle.host_system.specs.BoardFile.{AreOpenable}
use Rattle.host_system.specs.FolderPast.{FolderPast, GoesOnBy, PrintsOrSyncs}
use Rattle.host_system.specs.StoreFile.{SparesNoStore}
use Rattle.host_system.specs.View.{HasUsableStore}

-- How a board leaves the folder after this number of failed disk calls. It is a run's board if `how` is 1, otherwise a
-- report's.
pub record FolderLeft (how disk_faults : ℕ) (found now : Option FolderPast) : Type 0 where
  -- If no disk call failed, no sync of a journal file failed.
  pub synced : disk_faults ≡ 0 → IfSome now AreOpenable
  -- The record store's file is durable and its bytes are below 256.
  pub store : IfSome now HasUsableStore
  -- If this file wasn't a store, its bytes are unchanged.
  pub spares : IfSome found (λ past. IsSomeAnd now (SparesNoStore past))
  -- A report only printed and synced.
  pub reading : how ≡ 0 → IfSome found (λ past. IsSomeAnd now (GoesOnBy PrintsOrSyncs past))
