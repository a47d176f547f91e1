use Rattle.bank_lines.specs.Filter.{trace_founds}
use Rattle.bank_lines.proofs.ReadBackLemmas.{asks_read}
use Rattle.bank_lines.proofs.TraceLawLemmas.{answers_told, founds_in_range, no_event, reports_named, reports_without}
use Rattle.bank_lines.proofs.trace_laws.traces_are_read_back.Goals as goal

pub returns : goal.returns
returns c = record {
  range = λ boot lines small few. founds_in_range boot lines small few;
  answers = λ boot lines. answers_told boot lines;
  others = λ boot line other. no_event boot line other;
  alone = λ boot before after line other. reports_without boot before after line other;
  named = λ boot lines. reports_named boot lines;
  asks = λ boot lines small few. asks_read (trace_founds boot lines) (founds_in_range boot lines small few);
}
