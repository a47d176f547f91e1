-- What the program's arguments ask for.
use Rattle.std.specs.Prelude.{ℕ, ◌-◌, ◌^◌, ◌==◌, ◌&&◌, ◌≤◌, Bool, false, true, List, [], ◌∷◌, codes, Option, None, Some, if◌then◌else◌, ⊤}
use Rattle.std.specs.Option.{option_and_then, option_map}
use Rattle.std.specs.Str.{bytes_eq}
use Rattle.bank_lines.specs.declared.log_line.TheConstants.{LAST_SECOND}
use Rattle.ras_load.specs.declared.script.TheConstants.{MOST_LINES}
use Rattle.ras_script.specs.Number.{decimal_of, hexadecimal_of}
use Rattle.listing_texts.specs.declared.listing.Listing.{Listing}
use Rattle.listing_texts.specs.declared.listing.Listing.TheVariants.{Counts, Pages, Names, Modules, Metrics}
use Rattle.log_lines.specs.Borders.{no_borders}
use Rattle.log_lines.specs.declared.borders.Borders.{Borders}
use Rattle.ras_daemon.specs.declared.word.Task.{Task}
use Rattle.ras_daemon.specs.declared.word.Task.TheVariants.{Run, Report, Load, Pcie, Klog, TraceFeed, LogFeed, TraceLines, KlogLines, GhesLines, MceLine, Help, Version}

-- the listings by their words
abbrev pub listing_of : List ℕ → Option Listing
listing_of word =
    if bytes_eq word (codes "counts") then Some Counts
    else if bytes_eq word (codes "pages") then Some Pages
    else if bytes_eq word (codes "names") then Some Names
    else if bytes_eq word (codes "modules") then Some Modules
    else if bytes_eq word (codes "metrics") then Some Metrics
    else None

-- a boot's number in decimal digits and IA32_MCG_CAP in hexadecimal digits, as a script writes them
abbrev pub klog_of : List ℕ → List ℕ → Option Task
klog_of one other =
    option_and_then (λ boot. option_map (λ cap. Klog boot cap) (hexadecimal_of other))
    (decimal_of (2 ^ 64 - 1) one)

-- the numbers for the lines made from a trace, for the line of a saved record, and for the lines of a log
abbrev pub trace_lines_of : List ℕ → Option Task
trace_lines_of boot = option_map (λ number. TraceLines number) (decimal_of (2 ^ 64 - 1) boot)

abbrev pub mce_line_of : List ℕ → Option Task
mce_line_of boot = option_map (λ number. MceLine number) (decimal_of (2 ^ 64 - 1) boot)

abbrev pub klog_lines_of : List ℕ → List ℕ → Option Task
klog_lines_of boot cap =
    option_and_then (λ number. option_map (λ mask. KlogLines number mask) (hexadecimal_of cap))
    (decimal_of (2 ^ 64 - 1) boot)

-- a boot's number and the second at which it began, in decimal digits
abbrev pub ghes_lines_of : List ℕ → List ℕ → Option Task
ghes_lines_of boot began =
    option_and_then (λ number. option_map (λ second. GhesLines number second) (decimal_of LAST_SECOND began))
    (decimal_of (2 ^ 64 - 1) boot)

-- a boot's number, IA32_MCG_CAP, and the second at which the boot began; whether every driver's events are read
abbrev pub trace_feed_of : List ℕ → List ℕ → List ℕ → Bool → Option Task
trace_feed_of boot cap began drivers =
    option_and_then (λ number. option_and_then (λ mask. option_map (λ second. TraceFeed number mask second drivers)
    (decimal_of LAST_SECOND began)) (hexadecimal_of cap)) (decimal_of (2 ^ 64 - 1) boot)

-- the three numbers, and the borders
abbrev pub log_feed_of : List ℕ → List ℕ → List ℕ → Borders → Option Task
log_feed_of boot cap began borders =
    option_and_then (λ number. option_and_then (λ mask. option_map (λ second. LogFeed number mask second borders)
    (decimal_of LAST_SECOND began)) (hexadecimal_of cap)) (decimal_of (2 ^ 64 - 1) boot)

-- the microseconds of a border in decimal digits, or `-` for none
abbrev pub border_of : List ℕ → Option (Option ℕ)
border_of word =
    if bytes_eq word (codes "-") then Some None
    else option_map (λ stamp. Some stamp) (decimal_of (2 ^ 64 - 1) word)

-- for machine checks, and for the firmware's reports
abbrev pub borders_of : List ℕ → List ℕ → Option Borders
borders_of checks reports =
    option_and_then (λ first. option_map (λ second. record { checks = first; reports = second }) (border_of reports))
    (border_of checks)

-- a number from 1 to the most reports that a made-up script may have
abbrev pub load_of : List ℕ → Option Task
load_of word =
    option_and_then (λ n. if n == 0 then None else Some (Load n)) (decimal_of MOST_LINES word)

-- The commands: `run`; `pcie`; `report` with a listing; `load` with a number; `klog` with a boot and
-- IA32_MCG_CAP; `lines trace` and `lines mce` with a boot, `lines klog` with both, `lines ghes` with a boot and
-- the second at which it began, `lines trace` and `lines log` with all three, `lines trace` also with `edac`, and
-- `lines log` also with both borders; `--help`; `--version`. Other arguments aren't a command.
abbrev pub task_of : List (List ℕ) → Option Task
task_of [] = None
task_of (word ∷ []) =
    if bytes_eq word (codes "run") then Some Run
    else if bytes_eq word (codes "pcie") then Some Pcie
    else if bytes_eq word (codes "--help") then Some Help
    else if bytes_eq word (codes "--version") then Some Version
    else None
task_of (word ∷ what ∷ []) =
    if bytes_eq word (codes "report") then option_map Report (listing_of what)
    else if bytes_eq word (codes "load") then load_of what
    else None
task_of (word ∷ one ∷ other ∷ []) =
    if bytes_eq word (codes "klog") then klog_of one other
    else if bytes_eq word (codes "lines") && bytes_eq one (codes "trace") then trace_lines_of other
    else if bytes_eq word (codes "lines") && bytes_eq one (codes "mce") then mce_line_of other
    else None
task_of (word ∷ form ∷ boot ∷ cap ∷ []) =
    if bytes_eq word (codes "lines") && bytes_eq form (codes "klog") then klog_lines_of boot cap
    else if bytes_eq word (codes "lines") && bytes_eq form (codes "ghes") then ghes_lines_of boot cap
    else None
task_of (word ∷ form ∷ boot ∷ cap ∷ began ∷ []) =
    if bytes_eq word (codes "lines") && bytes_eq form (codes "trace") then trace_feed_of boot cap began false
    else if bytes_eq word (codes "lines") && bytes_eq form (codes "log") then log_feed_of boot cap began no_borders
    else None
task_of (word ∷ form ∷ boot ∷ cap ∷ began ∷ more ∷ []) =
    if bytes_eq word (codes "lines") && (bytes_eq form (codes "trace") && bytes_eq more (codes "edac"))
    then trace_feed_of boot cap began true
    else None
task_of (word ∷ form ∷ boot ∷ cap ∷ began ∷ checks ∷ reports ∷ []) =
    if bytes_eq word (codes "lines") && bytes_eq form (codes "log")
    then option_and_then (λ borders. log_feed_of boot cap began borders) (borders_of checks reports)
    else None
task_of (word ∷ form ∷ boot ∷ cap ∷ began ∷ checks ∷ reports ∷ more ∷ words) = None

-- the number of made-up reports, and the second of a boot, are in their ranges
abbrev pub IsTask : Task → Type 0
IsTask (Load n) = n ≤ MOST_LINES
IsTask (GhesLines boot began) = began ≤ LAST_SECOND
IsTask (TraceFeed boot cap began drivers) = began ≤ LAST_SECOND
IsTask (LogFeed boot cap began borders) = began ≤ LAST_SECOND
IsTask task = ⊤

-- What a command does to its source: `Takes` if the command reads the source's lines, `Input` if it reads an input of
-- any length, `Record` if it reads a saved record, and `Same`, which says that the source is unchanged, if it doesn't
-- read the source.
abbrev pub ReadsBy : Option Task → Type 0 → Type 0 → Type 0 → Type 0 → Type 0
ReadsBy (Some Run) Takes Input Record Same = Takes
ReadsBy (Some Pcie) Takes Input Record Same = Takes
ReadsBy (Some (Klog boot cap)) Takes Input Record Same = Takes
ReadsBy (Some (TraceFeed boot cap began drivers)) Takes Input Record Same = Input
ReadsBy (Some (LogFeed boot cap began borders)) Takes Input Record Same = Input
ReadsBy (Some (TraceLines boot)) Takes Input Record Same = Takes
ReadsBy (Some (KlogLines boot cap)) Takes Input Record Same = Takes
ReadsBy (Some (GhesLines boot began)) Takes Input Record Same = Takes
ReadsBy (Some (MceLine boot)) Takes Input Record Same = Record
ReadsBy task Takes Input Record Same = Same
