use Rattle.ras_records.proofs.SavingLemmas.{save_here, save_moment}
use Rattle.ras_records.proofs.laws.savings_are_puts.Goals as goal

pub returns : goal.returns
returns c = record {
  done = λ lists t admitted. save_here lists admitted t;
  moments = λ lists t admitted. save_moment lists admitted t;
}
