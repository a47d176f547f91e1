-- What the lines of a kernel log say about machine checks.
use Rattle.std.specs.Prelude.{ℕ, ◌+◌, ◌*◌, ◌-◌, ◌^◌, ◌==◌, ◌||◌, Bool, false, List, codes, drop, take, length, nat_eq, Option, None, Some, if◌then◌else◌}
use Rattle.std.specs.List.{ends_with}
use Rattle.std.specs.Option.{option_map, option_map_or}
use Rattle.std.specs.Str.{bytes_eq}
use Rattle.ras_klog.specs.Reading.{klog_line_of, provided, read_then}
use Rattle.ras_klog.specs.declared.line.KlogLine.{KlogLine}
use Rattle.ras_klog.specs.declared.line.KlogLine.TheVariants.{Processor, Other}
use Rattle.ras_script.specs.Number.{decimal_of}
use Rattle.bank_lines.specs.LogHeads.{after, is_joined, is_own, mark_place, record_time, up_to, without_spaces}
use Rattle.bank_lines.specs.EdacLines.{driver_text, edac_line_of, edac_mark, is_of_edac}
use Rattle.bank_lines.specs.declared.edac_line.EdacLine.{EdacLine}
use Rattle.bank_lines.specs.declared.log_line.LogLine.{LogLine}
use Rattle.bank_lines.specs.declared.log_line.LogLine.TheVariants.{Nothing, Unread, Part}
use Rattle.bank_lines.specs.declared.log_line.MarkedLine.{MarkedLine}
use Rattle.bank_lines.specs.declared.log_line.MarkedLine.TheVariants.{Plain, Edac}
use Rattle.bank_lines.specs.declared.log_line.Print.{Print}
use Rattle.bank_lines.specs.declared.mark.LogMark.{LogMark}
use Rattle.bank_lines.specs.declared.mark.LogMark.TheVariants.{AtPlain, AtEdac}
use Rattle.bank_lines.specs.declared.log_line.TheConstants.{LAST_SECOND, LAST_STAMP, MICROSECONDS}

-- the prefix of the kernel's own text of a machine check
abbrev pub log_mark : List ℕ
log_mark = codes "mce: [Hardware Error]: "

-- ---- when a line was printed

-- the number that 6 digits give
abbrev pub micros_of : List ℕ → Option ℕ
micros_of word = if length word == 6 then decimal_of (MICROSECONDS - 1) word else None

-- The time `<seconds>.<micros>` in a head's first brackets, in microseconds; spaces may come before it. The seconds
-- have at most 12 digits, so the number is below 10^18.
abbrev pub bracket_stamp : List ℕ → Option ℕ
bracket_stamp head =
    let text = without_spaces (up_to 93 (after 91 head)) in
    read_then (decimal_of LAST_SECOND (up_to 46 text)) (λ seconds.
    read_then (micros_of (after 46 text)) (λ micros. Some (seconds * MICROSECONDS + micros)))

-- the time in a head, in microseconds; the head of a record ends in a semicolon
abbrev pub log_stamp_of : List ℕ → Option ℕ
log_stamp_of head =
    if ends_with nat_eq head (codes ";") then decimal_of LAST_STAMP (record_time head) else bracket_stamp head

-- ---- what a line says

-- whether a text begins like a line of a report
abbrev pub is_of_report : List ℕ → Bool
is_of_report text =
    let word = up_to 32 text in
    bytes_eq word (codes "CPU") || (bytes_eq word (codes "TSC") || bytes_eq word (codes "PROCESSOR"))

-- Whether the line of a report's time ends with its fourth word, the time. The kernel prints more, so such a line was
-- cut off.
abbrev pub is_cut : List ℕ → Bool
is_cut text = is_joined (after 32 (after 32 (after 32 text)))

-- the vendor's number in a line that wasn't cut off: the second word up to its colon
abbrev pub vendor_of : List ℕ → Option ℕ
vendor_of text = if is_cut text then None else decimal_of (2 ^ 64 - 1) (up_to 58 (after 32 text))

-- how a line of the kernel's own text was printed
abbrev pub printed_plain : Print
printed_plain = record { by_edac = false }

-- the line of a report's time, if its vendor can be read
abbrev pub with_vendor : Print → ℕ → Option ℕ → LogLine
with_vendor print seconds None = Unread
with_vendor print seconds (Some vendor) = Part (Processor seconds) print vendor

-- a text after the prefix that isn't part of a report: `Unread` if it begins like a line of a report
abbrev pub left_unread : List ℕ → LogLine
left_unread text = if is_of_report text then Unread else Nothing

-- what a text after the prefix says, given what `klog` reads in it
abbrev pub line_told_by : Print → List ℕ → KlogLine → LogLine
line_told_by print text Other = left_unread text
line_told_by print text (Processor seconds) = with_vendor print seconds (vendor_of text)
line_told_by print text line = Part line print 0

-- What a line with this head says from its prefix on. If the head doesn't show the line to be the kernel's own, the
-- line is part of no report.
abbrev pub log_line_after : List ℕ → List ℕ → LogLine
log_line_after head marked =
    let text = drop (length log_mark) marked in
    if is_own head then line_told_by printed_plain text (klog_line_of marked)
    else left_unread text

-- ---- EDAC's lines

-- What a driver's text says, given what is read in it. It is `Unread` if it can't be read, or if its head doesn't
-- show it to be the kernel's own.
abbrev pub edac_told_by : Option EdacLine → MarkedLine
edac_told_by None = Plain Unread
edac_told_by (Some line) = Edac line

abbrev pub driver_told : List ℕ → List ℕ → MarkedLine
driver_told head text =
    if is_of_edac text
    then edac_told_by (provided (is_own head) (edac_line_of text)) else Plain Nothing

-- what a line with this head says from EDAC's prefix on: nothing, if it isn't of a driver's report
abbrev pub edac_line_after : List ℕ → List ℕ → MarkedLine
edac_line_after head marked =
    option_map_or (driver_told head) (driver_text (drop (length edac_mark) marked)) (Plain Nothing)

-- ---- a line

-- The prefix by which a line is read, and its index: the first prefix of the kernel's own text, or EDAC's first
-- prefix if there is no other.
abbrev pub mark_by : Option ℕ → Option ℕ → Option LogMark
mark_by (Some place) edac = Some (AtPlain place)
mark_by None edac = option_map (λ place. AtEdac place) edac

abbrev pub mark_of : List ℕ → Option LogMark
mark_of line = mark_by (mark_place log_mark line) (mark_place edac_mark line)

-- what a line says, given the prefix by which it is read
abbrev pub log_line_by : List ℕ → Option LogMark → MarkedLine
log_line_by line None = Plain Nothing
log_line_by line (Some (AtPlain place)) = Plain (log_line_after (take place line) (drop place line))
log_line_by line (Some (AtEdac place)) = edac_line_after (take place line) (drop place line)

-- what a line of a kernel log says; the text before its prefix shows whether it is the kernel's own
abbrev pub log_line_of : List ℕ → MarkedLine
log_line_of line = log_line_by line (mark_of line)

abbrev pub place_in : LogMark → ℕ
place_in (AtPlain place) = place
place_in (AtEdac place) = place

-- whether a line has a prefix, and the text before the prefix shows the line to be the kernel's own
abbrev pub is_own_line : List ℕ → Bool
is_own_line line = option_map_or (λ mark. is_own (take (place_in mark) line)) (mark_of line) false

-- when a line with a mark was printed, if what stands before its mark says so
abbrev pub marked_stamp_of : List ℕ → Option ℕ
marked_stamp_of line = read_then (mark_of line) (λ mark. log_stamp_of (take (place_in mark) line))
