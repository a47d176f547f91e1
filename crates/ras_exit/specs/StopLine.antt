-- The line that a refused run ends with.
use Rattle.std.specs.Prelude.{ℕ, List, [], ◌++◌, codes, decimal}
use Rattle.ras_base.specs.Text.{line_with}
use Rattle.ras_exit.specs.Reasons.{reason_text}
use Rattle.ras_exit.specs.declared.exit.Exit.{Exit}
use Rattle.ras_exit.specs.declared.exit.Exit.TheVariants.{Done, Usage, BadLine, SourceFault, DiskFault, RegisterFault, PrintFault, Damaged, Full, ErstRefused, ErstBusy, ErstStatus, NoMemory, TooLong}

-- The `stop` line of a refused run. An exit that isn't a refusal has no line.
abbrev pub stop_line : Exit → List ℕ
stop_line Done = []
stop_line Usage = codes "stop 1 usage\n"
stop_line (BadLine line why) =
    line_with (codes "stop 2 line=" ++ decimal line ++ codes " reason=" ++ reason_text why)
stop_line SourceFault = []
stop_line DiskFault = []
stop_line RegisterFault = []
stop_line PrintFault = []
stop_line (Damaged file place) =
    line_with (codes "stop 7 file=" ++ decimal file ++ codes " place=" ++ decimal place)
stop_line Full = codes "stop 8 full\n"
stop_line (ErstRefused line) = line_with (codes "stop 9 line=" ++ decimal line)
stop_line ErstBusy = codes "stop 10 busy\n"
stop_line (ErstStatus code) = line_with (codes "stop 11 code=" ++ decimal code)
stop_line NoMemory = []
stop_line TooLong = codes "stop 13 too-long\n"
