use Rattle.std.proofs.Common.{ap, map, arith, ◌∙◌, Ok}
use Rattle.ras_facts.specs.declared.bank.BankReport.{BankReport}
use Rattle.ras_script.specs.Splitting.{lines_of}
use Rattle.ras_script.specs.declared.line.ErrorReport.TheVariants.{Bank}
use Rattle.ras_script.specs.declared.line.Line.TheVariants.{Report}
use Rattle.bank_lines.specs.EdacReports.{no_edac, told_lines}
use Rattle.bank_lines.specs.LogAlong.{log_at_start}
use Rattle.bank_lines.specs.Texts.{asks_in}
use Rattle.bank_lines.proofs.LogFoundLemmas.{numbered, numbered_in}
use Rattle.bank_lines.proofs.LogGroupLemmas.{groups_are}
use Rattle.bank_lines.proofs.LogRangeLemmas.{told_lines_in}
use Rattle.bank_lines.proofs.LogLawLemmas.{as_many, names_are, not_own, reports_are, reports_without, script_is}
use Rattle.bank_lines.proofs.log_laws.logs_are_made_lines.Goals as goal

pub returns : goal.returns
returns c = record {
  groups = λ boot cap lines. groups_are boot cap lines;
  reports = λ boot cap lines b m few.
      ap (λ text. asks_in (lines_of text)) (script_is boot cap lines)
      ∙ c.printed_lines_are_read_back.ensures.asks (numbered boot cap log_at_start 0 (told_lines no_edac lines))
      (numbered_in boot cap b m log_at_start 0 (told_lines no_edac lines) (told_lines_in no_edac lines tt) tt (omega (arith, few, as_many no_edac lines)))
      ∙ ap (map (λ (r : BankReport). Ok (Report (Bank r)))) (reports_are boot cap lines);
  others = λ line other. not_own line other;
  alone = λ boot cap before after line other. reports_without boot cap before after line other;
  named = λ boot cap by_edac lines. names_are boot cap by_edac lines;
}
