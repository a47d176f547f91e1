-- The lines that are printed for findings, and what they ask for as lines of a script.
use Rattle.std.specs.Prelude.{ℕ, List, [], ◌∷◌, ◌++◌, codes, decimal, filter, map, Result, Ok}
use Rattle.std.specs.List.{flat_map}
use Rattle.ras_facts.specs.declared.bank.BankReport.{BankReport}
use Rattle.ras_script.specs.Line.{is_asking, line_of}
use Rattle.ras_script.specs.LineLaws.{line_text}
use Rattle.ras_script.specs.SplittingLaws.{script_of}
use Rattle.ras_script.specs.declared.line.ErrorReport.TheVariants.{Bank}
use Rattle.ras_script.specs.declared.line.Line.{Line}
use Rattle.ras_script.specs.declared.line.Line.TheVariants as asks
use Rattle.ras_script.specs.declared.line.LineRefused.{LineRefused}
use Rattle.bank_lines.specs.declared.found.Finding.{Finding}
use Rattle.bank_lines.specs.declared.found.Finding.TheVariants.{Nothing, Whole, Torn, Full, Partial, Foreign, Firmware, Unread}
use Rattle.bank_lines.specs.Finding.{Numbered, report_in}

-- ---- lines, without their line feeds

-- the line of a report: `bank` and its ten numbers, as a script has them
abbrev pub asking_line : BankReport → List ℕ
asking_line report = line_text (asks.Report (Bank report))

-- The comments: for a report that isn't whole, for another vendor's report, for a report that Linux makes up from the
-- firmware's, for an address that was torn off, for a report whose key has no room, and for a line that can't be
-- read.
abbrev pub partial_comment : ℕ → ℕ → List ℕ
partial_comment cpu bank = codes "# partial cpu=" ++ decimal cpu ++ codes " bank=" ++ decimal bank

abbrev pub vendor_line : ℕ → ℕ → ℕ → List ℕ
vendor_line vendor cpu bank =
    codes "# vendor=" ++ decimal vendor ++ codes " cpu=" ++ decimal cpu ++ codes " bank=" ++ decimal bank

abbrev pub firmware_line : ℕ → List ℕ
firmware_line cpu = codes "# firmware cpu=" ++ decimal cpu ++ codes " bank=255"

abbrev pub torn_line : ℕ → List ℕ
torn_line number = codes "# torn " ++ decimal number

abbrev pub full_line : List ℕ
full_line = codes "# full"

abbrev pub unread_line : ℕ → List ℕ
unread_line number = codes "# unread " ++ decimal number

-- the lines for the finding in the line of this number
abbrev pub lines_at : ℕ → Finding → List (List ℕ)
lines_at number Nothing = []
lines_at number (Whole report) = asking_line report ∷ []
lines_at number (Torn report) = torn_line number ∷ asking_line report ∷ []
lines_at number (Full report) = full_line ∷ asking_line report ∷ []
lines_at number (Partial cpu bank) = partial_comment cpu bank ∷ []
lines_at number (Foreign vendor cpu bank) = vendor_line vendor cpu bank ∷ []
lines_at number (Firmware cpu) = firmware_line cpu ∷ []
lines_at number Unread = unread_line number ∷ []

-- ---- texts

-- the text of a finding: a line feed ends each line
abbrev pub found_text : ℕ → Finding → List ℕ
found_text number found = script_of (lines_at number found)

abbrev pub found_lines : Numbered → List (List ℕ)
found_lines numbered = lines_at numbered.number numbered.found

-- all lines, and the whole text, of all findings
abbrev pub printed_lines : List Numbered → List (List ℕ)
printed_lines founds = flat_map found_lines founds

abbrev pub printed : List Numbered → List ℕ
printed founds = flat_map (λ (numbered : Numbered). found_text numbered.number numbered.found) founds

-- ---- what the lines ask for

-- what the lines ask for, without the lines that ask for nothing
abbrev pub asks_in : List (List ℕ) → List (Result Line LineRefused)
asks_in lines = filter is_asking (map line_of lines)

-- what a finding asks for: its report, if it has a whole one
abbrev pub asks_of : Numbered → List (Result Line LineRefused)
asks_of numbered = map (λ (report : BankReport). Ok (asks.Report (Bank report))) (report_in numbered.found)
