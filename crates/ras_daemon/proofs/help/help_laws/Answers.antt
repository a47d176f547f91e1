-- The help's lines, by computation.
use Rattle.std.proofs.Common.{[], refl}
use Rattle.std.specs.Fmt.{digits}
use Rattle.listing_texts.specs.declared.listing.Listing.TheVariants.{Counts, Pages, Names, Modules, Metrics}
use Rattle.ras_exit.specs.ExitStatus.{exit_number}
use Rattle.ras_exit.specs.declared.exit.Exit.{Exit}
use Rattle.ras_exit.specs.declared.exit.Exit.TheVariants.{Done, Usage, BadLine, SourceFault, DiskFault, RegisterFault, PrintFault, Damaged, Full, ErstRefused, ErstBusy, ErstStatus, NoMemory, TooLong}
use Rattle.ras_daemon.specs.Help.{HasOneLine, exit_words, form_of, help_lines, status_column}
use Rattle.ras_daemon.specs.declared.word.Task.{Task}
use Rattle.ras_daemon.specs.declared.word.Task.TheVariants.{Run, Report, Load, Pcie, Klog, TraceFeed, LogFeed, TraceLines, KlogLines, GhesLines, MceLine, Help, Version}
use Rattle.ras_daemon.proofs.help.help_laws.Goals as goal

commands : (task : Task) → HasOneLine (form_of task) []
unfolding help_lines
commands Run = record { one = refl; same = refl }
commands (Report Counts) = record { one = refl; same = refl }
commands (Report Pages) = record { one = refl; same = refl }
commands (Report Names) = record { one = refl; same = refl }
commands (Report Modules) = record { one = refl; same = refl }
commands (Report Metrics) = record { one = refl; same = refl }
commands (TraceFeed boot cap began drivers) = record { one = refl; same = refl }
commands (LogFeed boot cap began borders) = record { one = refl; same = refl }
commands (TraceLines boot) = record { one = refl; same = refl }
commands (KlogLines boot cap) = record { one = refl; same = refl }
commands (GhesLines boot began) = record { one = refl; same = refl }
commands (MceLine boot) = record { one = refl; same = refl }
commands (Klog boot cap) = record { one = refl; same = refl }
commands Pcie = record { one = refl; same = refl }
commands (Load n) = record { one = refl; same = refl }
commands Help = record { one = refl; same = refl }
commands Version = record { one = refl; same = refl }

statuses : (exit : Exit) → HasOneLine (status_column (exit_number exit)) (exit_words exit)
unfolding help_lines digits
statuses Done = record { one = refl; same = refl }
statuses Usage = record { one = refl; same = refl }
statuses (BadLine line why) = record { one = refl; same = refl }
statuses SourceFault = record { one = refl; same = refl }
statuses DiskFault = record { one = refl; same = refl }
statuses RegisterFault = record { one = refl; same = refl }
statuses PrintFault = record { one = refl; same = refl }
statuses (Damaged file place) = record { one = refl; same = refl }
statuses Full = record { one = refl; same = refl }
statuses (ErstRefused line) = record { one = refl; same = refl }
statuses ErstBusy = record { one = refl; same = refl }
statuses (ErstStatus code) = record { one = refl; same = refl }
statuses NoMemory = record { one = refl; same = refl }
statuses TooLong = record { one = refl; same = refl }

pub returns-clause-commands : goal.returns-clause-commands
returns-clause-commands c = commands

pub returns-clause-statuses : goal.returns-clause-statuses
returns-clause-statuses c = statuses
