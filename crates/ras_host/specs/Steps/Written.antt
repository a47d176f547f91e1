-- What writing bytes to the record store's file leads to.
use Rattle.std.specs.Prelude.{◌≡◌, ℕ, ◌⊎◌, List, Option, Result, OnErr}
use Rattle.host_system.specs.FolderPast.{FolderPast}
use Rattle.host_system.specs.StoreFile.{Replaces}

-- The file had these bytes, so nothing was done.
pub record HadThem {T E : Type 0} (had bytes : List ℕ) (result : Result T E) (before after : Option FolderPast) : Type 0 where
  pub same : bytes ≡ had
  pub told : after ≡ before
  pub ok : OnErr result ⊥

-- The file had these bytes, or was to be replaced by a file of these bytes.
abbrev pub Writes : {T E : Type 0} → List ℕ → List ℕ → Result T E → Option FolderPast → Option FolderPast → Type 0
Writes had bytes result before after = HadThem had bytes result before after ⊎ Replaces bytes result before after
