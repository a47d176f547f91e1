use Rattle.bank_lines.proofs.ReadBackLemmas.{asks_read, bank_read, each_read, lines_read, lines_short}
use Rattle.bank_lines.proofs.laws.printed_lines_are_read_back.Goals as goal

pub returns : goal.returns
returns c = record {
  bank = λ report within. bank_read report within;
  lines = λ founds within. lines_read founds within;
  each = λ numbered within. each_read numbered within;
  asks = λ founds within. asks_read founds within;
  short = λ founds within. lines_short founds within;
}
