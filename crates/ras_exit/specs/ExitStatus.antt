-- The process's exit status for each exit.
use Rattle.std.specs.Prelude.{ℕ}
use Rattle.ras_exit.specs.declared.exit.Exit.{Exit}
use Rattle.ras_exit.specs.declared.exit.Exit.TheVariants.{Done, Usage, BadLine, SourceFault, DiskFault, RegisterFault, PrintFault, Damaged, Full, ErstRefused, ErstBusy, ErstStatus, NoMemory, TooLong}

abbrev pub exit_number : Exit → ℕ
exit_number Done = 0
exit_number Usage = 1
exit_number (BadLine line reason) = 2
exit_number SourceFault = 3
exit_number DiskFault = 4
exit_number RegisterFault = 5
exit_number PrintFault = 6
exit_number (Damaged file place) = 7
exit_number Full = 8
exit_number (ErstRefused line) = 9
exit_number ErstBusy = 10
exit_number (ErstStatus code) = 11
exit_number NoMemory = 12
exit_number TooLong = 13
