-- What the checks before a call over a kernel establish.
use Rattle.std.specs.Prelude.{Bool, true, false, Option, IfSome}
use Rattle.host_system.specs.declared.system.FileName.{FileName}
use Rattle.host_system.specs.Folder.{FolderChange, opens}
use Rattle.host_system.specs.FolderPast.{FolderPast, IsMissing}
use Rattle.host_system.specs.Kernel.{IsPrepared}

-- A file was opened, or is missing.
abbrev pub OpensIfThere : FileName → Bool → Option FolderPast → Option FolderChange → Type 0
OpensIfThere name true told prepared = IsPrepared (opens name) told prepared
OpensIfThere name false told prepared = IfSome told (IsMissing name)
