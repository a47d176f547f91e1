-- What the filter of PCI Express sections prints for a script: each line depends on all lines before it.
use Rattle.std.specs.Prelude.{ℕ, List, [], ◌∷◌, map, Result, Ok, Err}
use Rattle.std.specs.List.{flat_map}
use Rattle.line_filters.specs.Filter.{Filter}
use Rattle.ras_base.specs.Places.{places}
use Rattle.ras_script.specs.Line.{line_of}
use Rattle.ras_script.specs.declared.line.Line.{Line}
use Rattle.ras_script.specs.declared.line.LineRefused.{LineRefused}
use Rattle.cper_pcie.specs.Reports.{LinePlace, taken_at, taken_of}
use Rattle.cper_pcie.specs.Texts.{read_sections, section_line, totals_text}
use Rattle.cper_pcie.specs.Totals.{totals_of}

-- the text of a line: a line for each of its sections that is taken
abbrev pub pcie_text : LinePlace → List ℕ
pcie_text place = flat_map section_line (taken_at place)

-- a line's text if the line can be read, else why it is rejected
abbrev pub text_or_refusal : LinePlace → Result Line LineRefused → Result (List ℕ) LineRefused
text_or_refusal place (Ok line) = Ok (pcie_text place)
text_or_refusal place (Err why) = Err why

-- the text or the rejection of a line, after all lines before it
abbrev pub place_answer : LinePlace → Result (List ℕ) LineRefused
place_answer place = text_or_refusal place (line_of place.1)

-- answers up to the first rejection
abbrev pub to_first_refusal : List (Result (List ℕ) LineRefused) → List (Result (List ℕ) LineRefused)
to_first_refusal [] = []
to_first_refusal (Ok text ∷ answers) = Ok text ∷ to_first_refusal answers
to_first_refusal (Err why ∷ answers) = Err why ∷ []

-- the texts of lines, up to the first rejection
abbrev pub pcie_answers : List (List ℕ) → List (Result (List ℕ) LineRefused)
pcie_answers lines = to_first_refusal (map place_answer (places lines))

-- There is no text between the last line's text and the end.
abbrev pub pcie_rest : List (List ℕ) → List ℕ
pcie_rest lines = []

-- The totals of all sections that were read, at the end: a line for each function, in the order in which the
-- functions were first seen, and a line with the numbers of sections and of functions. Sections that name no function
-- count as one function.
abbrev pub pcie_last : List (List ℕ) → List ℕ
pcie_last lines = totals_text (totals_of (read_sections (taken_of lines)))

abbrev pub pcie_filter : Filter
pcie_filter = record { answers = pcie_answers; rest = pcie_rest; last = pcie_last }
