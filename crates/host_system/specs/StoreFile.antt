-- What replacing the record store's file does.
use Rattle.std.specs.Prelude.{◌≡◌, ℕ, ◌⊎◌, List, Option, Some, Result, OnOk, OnErr}
use Rattle.board_core.specs.Clock.{Passes}
use Rattle.board_core.specs.Stop.{InStore, Becomes}
use Rattle.board_core.specs.declared.board.FileNo.{FileNo}
use Rattle.erst_store.specs.StoreFile.{IsNoStoreFile}
use Rattle.host_system.specs.BoardFile.{KeepsFile, SeesSame, HasSettledStore, with_store}
use Rattle.host_system.specs.FolderPast.{FolderPast, IfTold, bytes_named}
use Rattle.host_system.specs.View.{HasUsableStore, clock_over, seen_now, store_in}
use Rattle.host_system.specs.declared.system.FileName.TheVariants.{Store}

-- A board sees the store of these bytes, and everything else unchanged.
abbrev pub SeesStore : List ℕ → FolderPast → FolderPast → Type 0
SeesStore bytes old new = seen_now new ≡ with_store (store_in (Some bytes)) (seen_now old)

-- The store's file has these bytes, and is durable. A board sees their store.
pub record HasReplaced (bytes : List ℕ) (old new : FolderPast) : Type 0 where
  pub file : bytes_named Store new ≡ Some bytes
  pub seen : SeesStore bytes old new
  pub settled : HasSettledStore new

-- A store file whose bytes aren't a store isn't changed.
abbrev pub SparesNoStore : FolderPast → FolderPast → Type 0
SparesNoStore old new = (bytes : List ℕ) → bytes_named Store old ≡ Some bytes → IsNoStoreFile bytes → bytes_named Store new ≡ Some bytes

-- If the store's file was usable, it still is.
abbrev pub KeepsUsable : FolderPast → FolderPast → Type 0
KeepsUsable old new = HasUsableStore old → HasUsableStore new

-- The store's file was replaced by a file of these bytes, or that failed.
pub record Replaces {T E : Type 0} (bytes : List ℕ) (result : Result T E) (old new : Option FolderPast) : Type 0 where
  -- If the store's file was usable, it still is.
  pub usable : IfTold KeepsUsable old new
  -- The journal's files are as usable as they were.
  pub files : (file : FileNo) → IfTold (KeepsFile file) old new
  -- On `Ok` the file is the new one, and is durable.
  pub ok : OnOk result (IfTold (HasReplaced bytes) old new)
  -- On `Err` the file is the old one or the new one. It isn't known which of them the disk has.
  pub err : OnErr result (IfTold (λ x y. SeesSame x y ⊎ SeesStore bytes x y) old new)
  -- A crash during the call or now leaves what a crash before might have left, maybe with the new store.
  pub stops : Passes (InStore (Becomes (store_in (Some bytes)))) (clock_over old) (clock_over new)
