-- What the program says about itself.
use Rattle.std.specs.Prelude.{◌≡◌, ℕ, List, [], ◌∷◌, ◌++◌, codes, decimal, filter, length, nat_lt, take, if◌then◌else◌}
use Rattle.std.specs.Str.{bytes_eq}
use Rattle.listing_texts.specs.declared.listing.Listing.TheVariants.{Counts, Pages, Names, Modules, Metrics}
use Rattle.ras_exit.specs.declared.exit.Exit.{Exit}
use Rattle.ras_exit.specs.declared.exit.Exit.TheVariants.{Done, Usage, BadLine, SourceFault, DiskFault, RegisterFault, PrintFault, Damaged, Full, ErstRefused, ErstBusy, ErstStatus, NoMemory, TooLong}
use Rattle.ras_script.specs.Splitting.{lines_of}
use Rattle.ras_texts.specs.declared.version.TheConstants.{VERSION}
use Rattle.ras_daemon.specs.declared.help.TheConstants.{HELP}
use Rattle.ras_daemon.specs.declared.word.Task.{Task}
use Rattle.ras_daemon.specs.declared.word.Task.TheVariants.{Run, Report, Load, Pcie, Klog, TraceFeed, LogFeed, TraceLines, KlogLines, GhesLines, MceLine, Help, Version}

-- the text of `--help`, which is the constant of the code
abbrev pub help_text : List ℕ
help_text = HELP.now

-- the program's name and its version, which is the version of `report metrics`
abbrev pub version_line : List ℕ
version_line = codes "rasd " ++ VERSION.now ++ codes "\n"

-- ---- what the help says of each command and of each status

-- how a command is written, with a space after it
abbrev pub form_of : Task → List ℕ
form_of Run = codes "rasd run < SCRIPT "
form_of (Report Counts) = codes "rasd report counts "
form_of (Report Pages) = codes "rasd report pages "
form_of (Report Names) = codes "rasd report names "
form_of (Report Modules) = codes "rasd report modules "
form_of (Report Metrics) = codes "rasd report metrics "
form_of (TraceFeed boot cap began drivers) = codes "rasd lines trace BOOT CAP SEC [edac] < TRACE "
form_of (LogFeed boot cap began borders) = codes "rasd lines log BOOT CAP SEC [CHECKS REPORTS] < LOG "
form_of (TraceLines boot) = codes "rasd lines trace BOOT < TRACE "
form_of (KlogLines boot cap) = codes "rasd lines klog BOOT CAP < LOG "
form_of (GhesLines boot began) = codes "rasd lines ghes BOOT SEC < LOG "
form_of (MceLine boot) = codes "rasd lines mce BOOT < RECORD "
form_of (Klog boot cap) = codes "rasd klog BOOT CAP < LOG "
form_of Pcie = codes "rasd pcie < SCRIPT "
form_of (Load n) = codes "rasd load N "
form_of Help = codes "rasd --help "
form_of Version = codes "rasd --version "

-- the words for an exit
abbrev pub exit_words : Exit → List ℕ
exit_words Done = codes "the input was read to its end"
exit_words Usage = codes "unknown command"
exit_words (BadLine line why) = codes "a line was rejected"
exit_words SourceFault = codes "standard input can't be read"
exit_words DiskFault = codes "a disk call failed"
exit_words RegisterFault = codes "the record store can't be read or replaced"
exit_words PrintFault = codes "standard output can't be written"
exit_words (Damaged file place) = codes "a journal file is damaged"
exit_words Full = codes "the account or its journal is full"
exit_words (ErstRefused line) = codes "a panic or poll came before any erst line"
exit_words ErstBusy = codes "the record store stays busy"
exit_words (ErstStatus code) = codes "the record store refuses an operation"
exit_words NoMemory = codes "memory ran out"
exit_words TooLong = codes "the input or a journal file has more than 67,108,864 bytes"

-- a status, which takes two columns, with a space after it
abbrev pub status_column : ℕ → List ℕ
status_column number = (if nat_lt number 10 then 32 ∷ decimal number else decimal number) ++ 32 ∷ []

-- the lines of the help that begin with this text
unfoldable pub help_lines : List ℕ → List (List ℕ)
help_lines front = filter (λ line. bytes_eq (take (length front) line) front) (lines_of help_text)

-- Exactly one line of the help begins with this text, and these words follow the text.
pub record HasOneLine (front words : List ℕ) : Type 0 where
  pub one : length (help_lines front) ≡ 1
  pub same : help_lines (front ++ words) ≡ help_lines front
