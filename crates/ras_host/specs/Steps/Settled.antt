-- When the record store's file and its name are durable.
use Rattle.host_system.specs.FolderPast.{FolderPast}
use Rattle.host_system.specs.BoardFile.{HasSettledStore}
use Rattle.ras_host.specs.JournalFiles.{IsOneSound}
use Rattle.ras_host.specs.Steps.KeptDevice.{IsSaved}
use Rattle.ras_host.specs.declared.journal.JournalFiles.{JournalFiles}
use Rattle.ras_host.specs.declared.kept.Kept.{Kept}

-- They are durable once the journal's files were opened or read, as long as each change of the device has reached the
-- file.
abbrev pub IsSettledBy : JournalFiles → Kept → FolderPast → Type 0
IsSettledBy files kept past = IsOneSound files → IsSaved kept → HasSettledStore past
