-- What was found of the journal files.
use Rattle.std.specs.Prelude.{Option, None}
use Rattle.board_core.specs.declared.board.FileNo.TheVariants.{Zero, One}
use Rattle.host_system.specs.declared.kernel.FoundFile.{FoundFile}
use Rattle.host_system.specs.declared.system.FileName.{FileName}
use Rattle.host_system.specs.declared.system.FileName.TheVariants.{Journal, Store, New}
use Rattle.ras_host.specs.declared.found_files.FoundFiles.{FoundFiles}

abbrev pub found_of : FileName → FoundFiles → Option FoundFile
found_of (Journal Zero) files = files.zero
found_of (Journal One) files = files.one
found_of Store files = None
found_of New files = None

-- The found files, after this was found of this name's file.
abbrev pub with_found : FileName → Option FoundFile → FoundFiles → FoundFiles
with_found (Journal Zero) found files = record files { zero = found }
with_found (Journal One) found files = record files { one = found }
with_found Store found files = files
with_found New found files = files
