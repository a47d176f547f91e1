-- Counts the errors without a counter that a printer printed, and numbers the next one.
use Rattle.std.specs.Prelude.{ℕ, ◌+◌, ◌==◌, List, [], ◌∷◌, length, nat_eq, nat_lt, Option, None, Some, unwrap_or, if◌then◌else◌}
use Rattle.std.specs.Map.{lookup}
use Rattle.std.specs.Option.{option_map_or}
use Rattle.indexmap.specs.IndexMap.{insert_entry}
use Rattle.ras_facts.specs.declared.bank.BankReport.{BankReport}
use Rattle.bank_lines.specs.Naming.{key_of, numbered}
use Rattle.bank_lines.specs.declared.found.Finding.{Finding}
use Rattle.bank_lines.specs.declared.found.Finding.TheVariants.{Full, Torn, Whole}
use Rattle.bank_lines.specs.declared.naming.TheConstants.{MOST_ALIKE, MOST_KEYS}

-- the keys, each with the number of its next error, in the order in which they first came
abbrev pub KeyCounts : Type 0
KeyCounts = List (ℕ × ℕ)

-- the number of a key's next error, after an error with this number
abbrev pub number_after : ℕ → ℕ
number_after number = if nat_lt number MOST_ALIKE then number + 1 else number

-- the number of a key's next error, given the number counted for the key; `None` if the key is new and has no room
abbrev pub number_by : KeyCounts → Option ℕ → Option ℕ
number_by counts (Some number) = Some number
number_by counts None = if nat_lt (length counts) MOST_KEYS then Some 0 else None

abbrev pub number_in : KeyCounts → ℕ → Option ℕ
number_in counts key = number_by counts (lookup (nat_eq key) counts)

-- the counts with one more error of a key, if there is room for the key
abbrev pub counted : KeyCounts → ℕ → KeyCounts
counted counts key =
    option_map_or (λ number. insert_entry nat_eq counts key (number_after number)) (number_in counts key) counts

-- ---- a report

-- the report, with a counter made for it if it has none; the number is 0 if its key has no room
abbrev pub named_report : KeyCounts → BankReport → BankReport
named_report counts report =
    if report.tsc == 0 then numbered (unwrap_or (number_in counts (key_of report)) 0) report else report

-- the counts with one more report, which counts only if it has no counter
abbrev pub counted_with : KeyCounts → BankReport → KeyCounts
counted_with counts report = if report.tsc == 0 then counted counts (key_of report) else counts

-- a printer's reports, each with a counter, after earlier reports with these counts
abbrev pub named_after : KeyCounts → List BankReport → List BankReport
named_after counts [] = []
named_after counts (report ∷ reports) =
    named_report counts report ∷ named_after (counted_with counts report) reports

-- all reports of a printer, each with a counter
abbrev pub all_named : List BankReport → List BankReport
all_named reports = named_after [] reports

-- ---- what is found

abbrev pub whole_by : BankReport → Option ℕ → Finding
whole_by report (Some number) = Whole (numbered number report)
whole_by report None = Full (numbered 0 report)

-- a finding whose report gets a counter if it has none; `Full` if a whole report's key has no room
abbrev pub named_found : KeyCounts → Finding → Finding
named_found counts (Whole report) =
    if report.tsc == 0 then whole_by report (number_in counts (key_of report)) else Whole report
named_found counts (Torn report) = Torn (named_report counts report)
named_found counts found = found

abbrev pub counts_after : KeyCounts → Finding → KeyCounts
counts_after counts (Whole report) = counted_with counts report
counts_after counts (Torn report) = counted_with counts report
counts_after counts found = counts
