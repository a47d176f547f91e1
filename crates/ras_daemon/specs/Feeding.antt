-- A script made from what the kernel reported: the machine description, and then what `lines` prints.
use Rattle.std.specs.Prelude.{◌≡◌, List, [], ◌++◌, ℕ, map, Result, Ok}
use Rattle.std.specs.List.{filter_map}
use Rattle.bank_lines.specs.Texts.{asks_in}
use Rattle.dimm_topology.specs.declared.row.Row.{Row}
use Rattle.ras_facts.specs.Facts.{bank_fact}
use Rattle.ras_facts.specs.declared.bank.BankReport.{BankReport}
use Rattle.ras_facts.specs.declared.entry.Entry.{Entry}
use Rattle.ras_facts.specs.declared.entry.Entry.TheVariants.{Fact}
use Rattle.ras_run.specs.Sites.{Start, first_site}
use Rattle.ras_run.specs.Places.{Place, reports}
use Rattle.ras_daemon.specs.Script.{reads_in}
use Rattle.ras_script.specs.Lines.{script_lines}
use Rattle.ras_script.specs.declared.line.ErrorReport.TheVariants.{Bank}
use Rattle.ras_script.specs.declared.line.Line.{Line}
use Rattle.ras_script.specs.declared.line.Line.TheVariants.{Report}
use Rattle.ras_script.specs.declared.line.LineRefused.{LineRefused}

-- what the line of a bank asks for
abbrev pub asks_bank : BankReport → Result Line LineRefused
asks_bank bank = Ok (Report (Bank bank))

-- Such a script first has lines that report nothing, such as a machine description, and then lines that ask
-- for exactly the reports of these banks.
pub record IsFed (start : Start) (rows : List (List ℕ)) (banks : List BankReport) (script : List ℕ) : Type 0 where
  pub fed : List (List ℕ)
  pub lines : (script_lines script).whole ≡ rows ++ fed
  pub asks : asks_in fed ≡ map asks_bank banks
  pub silent : reports (first_site start) (reads_in rows) ≡ []

-- what the events of a script ask for
abbrev pub asked_by : List Place → List (Result Line LineRefused)
asked_by places = map (λ (place : Place). place.1.1) places

-- what banks report under a machine description: one entry each, except for a bank that holds no error
abbrev pub bank_entries : List Row → List BankReport → List Entry
bank_entries rows banks = map Fact (filter_map (λ bank. bank_fact bank rows) banks)
