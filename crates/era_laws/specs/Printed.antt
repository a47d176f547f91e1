-- What eras print, piece by piece, and which reports are new in these texts.
use Rattle.std.specs.Prelude.{ℕ, List, [], ◌∷◌, codes, map, nat_eq, All, IsFalse, ⊤}
use Rattle.std.specs.List.{flat_map, starts_with}
use Rattle.dimm_topology.specs.Labels.{Bytes}
use Rattle.ras_base.specs.Prefix.{IsPrefixOf}
use Rattle.ras_base.specs.Text.{line_with}
use Rattle.ras_facts.specs.declared.details.Detail.{Detail}
use Rattle.ras_facts.specs.declared.fact.Fact.{Fact}
use Rattle.ras_facts.specs.declared.name.Name.{Name}
use Rattle.ras_script.specs.SplittingLaws.{Lacks}
use Rattle.ras_texts.specs.Orders.{module_line}
use Rattle.ras_texts.specs.Reports.{report_lines}
use Rattle.era_laws.specs.Eras.{Era, TakesScript, printed_in}

-- A piece of a printed text: a new report with its items' details, the order to replace the module of a
-- label, or another line.
pub data Print : Type 0 where
  log : Fact → List Detail → Print
  replace : Bytes → Print
  other : List ℕ → Print

-- The text of a piece: the `log` lines of a report, or one line. That labels have no line feed isn't said here:
-- dimm_topology/specs/Labels.antt says it.
abbrev pub print_text : Print → List ℕ
print_text (log fact details) = report_lines fact details
print_text (replace label) = module_line label
print_text (other line) = line_with line

-- `other` has no line feed of its own, and doesn't begin like a `log` line.
abbrev pub IsPrint : Print → Type 0
IsPrint (log fact details) = ⊤
IsPrint (replace label) = ⊤
IsPrint (other line) = Lacks 10 line × IsFalse (starts_with nat_eq line (codes "log "))

-- What an era printed is a beginning of the texts of these pieces. A crash may have cut it off at any byte.
pub record Prints (era : Era) (prints : List Print) : Type 0 where
  pub text : IsPrefixOf (printed_in era) (flat_map print_text prints)
  pub each : All IsPrint prints

-- pieces for each era
abbrev pub PrintsEach : List Era → List (List Print) → Type 0
PrintsEach [] [] = ⊤
PrintsEach (era ∷ eras) (one ∷ prints) = Prints era one × PrintsEach eras prints
PrintsEach eras prints = ⊥

-- the new reports among pieces, and the names of these reports over all eras
abbrev pub told_in : List Print → List Fact
told_in [] = []
told_in (log fact details ∷ prints) = fact ∷ told_in prints
told_in (print ∷ prints) = told_in prints

abbrev pub names_told : List (List Print) → List Name
names_told prints = map (λ (fact : Fact). fact.name) (flat_map told_in prints)

-- an era is the run of some script
abbrev pub TakesSome : Era → Type 0
TakesSome era = (script : List ℕ) × TakesScript script era
