use Rattle.std.proofs.Common.{◌++◌, ◌∙◌, ap, arith}
use Rattle.std.proofs.lemmas.List.{append-nil}
use Rattle.ras_exit.specs.StopLine.{stop_line}
use Rattle.ras_script.specs.Lines.{script_lines}
use Rattle.ras_script.specs.Splitting.{lines_of}
use Rattle.bank_lines.specs.Filter.{trace_founds}
use Rattle.bank_lines.specs.LogFilter.{log_script}
use Rattle.bank_lines.specs.Texts.{asks_in, printed}
use Rattle.bank_lines.proofs.LinesLawLemmas.{lines-few, log-is, trace-is}
use Rattle.bank_lines.proofs.output_laws.lines_laws.Goals as goal

pub returns : goal.returns
returns c = record {
  trace = λ boot input. trace-is boot input;
  log = λ boot cap input. log-is boot cap input;
  whole_trace = λ boot input small done.
      let whole = (script_lines input).whole in
      ap (λ text. asks_in (lines_of text)) (trace-is boot input ∙ ap (λ exit. printed (trace_founds boot whole) ++ stop_line exit) done ∙ append-nil (printed (trace_founds boot whole)))
      ∙ c.traces_are_read_back.ensures.asks boot whole small (omega (arith, lines-few input));
  whole_log = λ boot cap input small fits done.
      let whole = (script_lines input).whole in
      ap (λ text. asks_in (lines_of text)) (log-is boot cap input ∙ ap (λ exit. log_script boot cap whole ++ stop_line exit) done ∙ append-nil (log_script boot cap whole))
      ∙ c.logs_are_made_lines.ensures.reports boot cap whole small fits (lines-few input);
}
